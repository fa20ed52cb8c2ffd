-- Laws of the search by withdrawing: one exit withdrawn keeps what `Search` says. Assumes nothing.
--   search_skip    an empty exit
--   search_lower   a link withdrawn whose target has strong links left, or that is weak
--   search_over    a link whose counter is 0 already
--   search_mark    a step with no strong link left is marked, and its own exits are pending
--   search_begin   where a search begins
--   rest_step      the exits of a step, one by one
use mathlib.Core.Path.{◌≡◌, refl, sym, ◌∙◌, ap}
use mathlib.Core.Bool.{Bool, true, false, ◌&&◌, not}
use mathlib.Core.Logic.{◌⊎◌, inl, inr, ⊎_elim}
use mathlib.Core.List.{List}
use Prim.Native.Nat.{ℕ, suc, ◌+◌, ◌*◌, ◌-◌, ◌≤◌, ◌<◌}
use native.Mathlib.Omega.{arith}
use lib.ListN.{length, get_or, set, length-set}
use lib.Seq.{get_or-set_same, get_or-set_other}
use lib.Dec.{eqb}
use borrow.Author.Tests.{eqb-true, eq-eqb, ne_eqb}
use Rattle.finite.specs.Below.{one, count}
use Rattle.finite.proofs.Bools.{and_intro, and_left, and_right, clash, refute, test, same_test, not_true_false}
use Rattle.finite.proofs.Below.{eq_or_ne, count_ext, count_mono, count_change, count_split, count_pos}
use Rattle.finite.proofs.Select.{count_grows}
use Rattle.finite.proofs.Loops.{count_zero}
use Rattle.table.specs.Table.{Table, places, counters, exit_place, exits_of, exit_places, holder_at, counter_place, own_bit}
use Rattle.table.proofs.Places.{count_exits}
use Rattle.table.proofs.Relink.{counter_place_below}
use Rattle.words.specs.Marks.{is_marked}
use Rattle.withdraw.specs.Search.{slot_at, own_slot, lands, landing, landing_kept, at, rest, Ranged, Exact, Accounted, Ledger, Search, Pending, Withdrawn, unmarked}
use Rattle.withdraw.proofs.Slots.{lands_target, lands_intro, landing_zero, slot_empty, slot_link, own_slot_above, own_slot_place}

-- Marking a step k that has no strong link left: its own exits become pending.
pub record AtZero (t : Table) (counts : List ℕ) (spared : ℕ) (left marks : List ℕ) (pending : ℕ → ℕ) (k : ℕ) : Type 0 where
  pub ledger : Ledger t counts spared left marks pending
  pub others : (j : ℕ) → 0 < j → j < places → (j ≡ k → ⊥) → is_marked marks j ≡ false → 0 < get_or counts (own_slot t j) 0 → 0 < get_or left (own_slot t j) 0
  pub low : k < places
  pub fresh : is_marked marks k ≡ false
  pub zero : 0 < k → get_or left (own_slot t k) 0 ≡ 0
  -- all strong links to it are of marked steps
  pub sources : Exact t counts → (own_slot t k ≡ spared → ⊥) → (p : ℕ) → p < exit_places places → lands (slot_at t) p (own_slot t k) ≡ true →
      is_marked marks (holder_at p) ≡ true

module _ (h : ℕ → ℕ) where
  lands_other : (p q : ℕ) → (h p ≡ q → ⊥) → lands h p q ≡ false
  lands_other p q d = refute _ (λ t. d (lands_target h p q t).0)

  at_none : (p q : ℕ) → h p ≡ 0 → at h p q ≡ 0
  unfolding at
  at_none p q z = ap one (refute (lands h p q) (λ t. let r = lands_target h p q t in r.1 (sym r.0 ∙ z)))

  at_same : (p q : ℕ) → h p ≡ q → 0 < q → at h p q ≡ 1
  unfolding at
  at_same p q e d = ap one (lands_intro h p q e (λ z. omega arith))

  at_other : (p q x : ℕ) → h p ≡ q → (x ≡ q → ⊥) → at h p x ≡ 0
  unfolding at
  at_other p q x e d = ap one (lands_other p x (λ y. d (sym y ∙ e)))

  rest_all : (i q : ℕ) → rest h i 0 q ≡ count (exits_of i) (λ f. lands h (exit_place i f) q)
  unfolding rest
  rest_all i q = let z = count_zero (λ f. lands h (exit_place i f) q) in omega arith

  pub rest_none : (i q : ℕ) → rest h i (exits_of i) q ≡ 0
  unfolding rest
  rest_none i q = omega arith

  pub rest_step : (i e q : ℕ) → e < exits_of i → rest h i e q ≡ at h (exit_place i e) q + rest h i (suc e) q
  unfolding rest at count
  rest_step i e q l =
      let m = count_grows (λ f. lands h (exit_place i f) q) (suc e) (exits_of i) l in
      omega arith

module _ (t : Table) where
  pub search_ext : {counts : List ℕ} {spared : ℕ} {left marks : List ℕ} {a b : ℕ → ℕ} → ((q : ℕ) → a q ≡ b q) →
      Search t counts spared left marks a → Search t counts spared left marks b
  search_ext {counts} {spared} {left} {marks} f s =
      let g = s.ledger in
      record {
        ledger =
            record {
              left_size = g.left_size;
              marks_size = g.marks_size;
              binary = g.binary;
              account = λ z q d l c. g.account z q d l c ∙ ap (λ (x : ℕ). get_or counts q 0 + landing_kept (slot_at t) marks q + x) (f q);
              dry = g.dry;
              quiet = g.quiet;
              clean = g.clean;
              rank = g.rank;
              top = g.top;
              low = g.low;
              rising = g.rising;
            };
        busy = s.busy;
      }

  pub search_skip : (counts : List ℕ) (spared : ℕ) (left marks : List ℕ) (p : ℕ) → slot_at t p ≡ 0 → (pending : ℕ → ℕ) →
      Search t counts spared left marks (λ q. pending q + at (slot_at t) p q) → Search t counts spared left marks pending
  search_skip counts spared left marks p z pending = search_ext (λ q. let a = at_none (slot_at t) p q z in omega arith)

  -- One link, which counts in the counter at place k.
  module _ (counts : List ℕ) (spared : ℕ) (left marks : List ℕ) (p k : ℕ) (here : slot_at t p ≡ k) (high : counters ≤ k)
      (low : k < places * counters) (pending : ℕ → ℕ) (s : Search t counts spared left marks (λ q. pending q + at (slot_at t) p q)) where
    g : Ledger t counts spared left marks (λ q. pending q + at (slot_at t) p q)
    g = s.ledger

    account_here : Accounted t counts left → (k ≡ spared → ⊥) →
        get_or left k 0 + landing (slot_at t) k ≡ get_or counts k 0 + landing_kept (slot_at t) marks k + pending k + 1
    account_here z c = let a = at_same (slot_at t) p k here (omega arith) in let e = g.account z k (omega arith) low c in omega arith

    account_there : Accounted t counts left → (q : ℕ) → 0 < q → q < places * counters → (q ≡ spared → ⊥) → (q ≡ k → ⊥) →
        get_or left q 0 + landing (slot_at t) q ≡ get_or counts q 0 + landing_kept (slot_at t) marks q + pending q
    account_there z q d l c n = g.account z q d l c ∙ (let a = at_other (slot_at t) p k q here n in omega arith)

    -- with exact counters this one is not 0, unless it is spared
    left_some : Exact t counts → (k ≡ spared → ⊥) → 0 < get_or left k 0
    left_some x c = let e = account_here (inr x) c in let y = x k low in omega arith

    set_here : (x : ℕ) → get_or (set left k x) k 0 ≡ x
    set_here x = get_or-set_same left k x 0 (rw g.left_size low)

    set_there : (x q : ℕ) → (q ≡ k → ⊥) → get_or (set left k x) q 0 ≡ get_or left q 0
    set_there x q c = get_or-set_other left k q x 0 c

    set_first : (x : ℕ) → get_or (set left k x) 0 0 ≡ get_or left 0 0
    set_first x = set_there x 0 (λ e. omega arith)

    over_there : (q : ℕ) → (q ≡ 0 → ⊥) → get_or (set left 0 1) q 0 ≡ get_or left q 0
    over_there q c = get_or-set_other left 0 q 1 0 c

    -- a link too many: counter 0 tells it
    pub search_over : get_or left k 0 ≡ 0 → Search t counts spared (set left 0 1) marks pending
    search_over z =
        record {
          ledger =
              record {
                left_size = length-set left 0 1 ∙ g.left_size;
                marks_size = g.marks_size;
                binary = g.binary;
                account =
                    λ a q d l c.
                    ⊎_elim
                    (λ (e : get_or (set left 0 1) 0 0 ≡ 0).
                    let o : get_or (set left 0 1) 0 0 ≡ 1 = get_or-set_same left 0 1 0 (rw g.left_size (omega arith)) in
                    absurd (omega arith))
                    (λ x.
                    let n : q ≡ k → ⊥ = λ (e : q ≡ k). let some = left_some x (λ y. c (e ∙ y)) in omega arith in
                    let o = over_there q (λ (e : q ≡ 0). omega arith) in
                    let b = account_there (inr x) q d l c n in
                    omega arith)
                    a;
                dry = λ d. over_there spared (λ e. omega arith) ∙ g.dry d;
                quiet = λ j d m. over_there (own_slot t j) (λ e. let a = own_slot_above t j d in omega arith) ∙ g.quiet j d m;
                clean = λ x o. let n = left_some x (λ e. omega arith) in absurd (omega arith);
                rank = g.rank;
                top = g.top;
                low = g.low;
                rising = g.rising;
              };
          busy = λ j d l m b. rw (over_there (own_slot t j) (λ e. let a = own_slot_above t j d in omega arith)) (s.busy j d l m b);
        }

    -- the counter falls to n
    module _ (n : ℕ) (e : n + 1 ≡ get_or left k 0) where
      -- it is not the spared one, which is 0
      unspared : k ≡ spared → ⊥
      unspared c = let a : get_or left k 0 ≡ 0 = ap (λ (x : ℕ). get_or left x 0) c ∙ g.dry (omega arith) in omega arith

      accounted_before : Accounted t counts (set left k n) → Accounted t counts left
      accounted_before = ⊎_elim (λ z. inl (sym (set_first n) ∙ z)) (λ x. inr x)

      lower_account : Accounted t counts (set left k n) → (q : ℕ) → 0 < q → q < places * counters → (q ≡ spared → ⊥) →
          get_or (set left k n) q 0 + landing (slot_at t) q ≡ get_or counts q 0 + landing_kept (slot_at t) marks q + pending q
      lower_account z q d l f =
          ⊎_elim
          (λ (c : q ≡ k). rw c (let a = account_here (accounted_before z) unspared in let b = set_here n in omega arith))
          (λ (c : q ≡ k → ⊥). let a = account_there (accounted_before z) q d l f c in let b = set_there n q c in omega arith)
          (eq_or_ne q k)

      -- it is not that of a marked step's own bit
      lower_unmarked : (j : ℕ) → 0 < j → is_marked marks j ≡ true → own_slot t j ≡ k → ⊥
      lower_unmarked j d m q = let a : get_or left k 0 ≡ 0 = sym (ap (λ (x : ℕ). get_or left x 0) q) ∙ g.quiet j d m in omega arith

      lower_ledger : Ledger t counts spared (set left k n) marks pending
      lower_ledger =
          record {
            left_size = length-set left k n ∙ g.left_size;
            marks_size = g.marks_size;
            binary = g.binary;
            account = lower_account;
            dry = λ d. set_there n spared (λ c. unspared (sym c)) ∙ g.dry d;
            quiet = λ j d m. set_there n (own_slot t j) (lower_unmarked j d m) ∙ g.quiet j d m;
            clean = λ x o. set_first n ∙ g.clean x o;
            rank = g.rank;
            top = g.top;
            low = g.low;
            rising = g.rising;
          }

      -- a step that loses its last strong link is not passed over
      pub search_lower : ((j : ℕ) → n ≡ 0 → own_slot t j ≡ k → ⊥) → Search t counts spared (set left k n) marks pending
      search_lower more =
          record {
            ledger = lower_ledger;
            busy =
                λ j d l m b.
                ⊎_elim
                (λ (c : own_slot t j ≡ k). rw (c, set_here n) (⊎_elim (λ z. absurd (more j z c)) (λ (z : n ≡ 0 → ⊥). omega arith) (eq_or_ne n 0)))
                (λ (c : own_slot t j ≡ k → ⊥). rw (set_there n (own_slot t j) c) (s.busy j d l m b))
                (eq_or_ne (own_slot t j) k);
          }

      -- the last strong link of step j: it has none left, and no other step is touched
      pub last_zero : n ≡ 0 → (j : ℕ) → 0 < j → j < places → own_slot t j ≡ k → ((i : ℕ) → own_slot t i ≡ k → i ≡ j) →
          AtZero t counts spared (set left k n) marks pending j
      unfolding landing_kept
      last_zero z j d l q only =
          record {
            ledger = lower_ledger;
            others = λ i di li c m b. rw (set_there n (own_slot t i) (λ y. c (only i y))) (s.busy i di li m b);
            low = l;
            fresh = refute _ (λ m. lower_unmarked j d m q);
            zero = λ o. rw q (set_here n ∙ z);
            sources =
                λ x f r lr y.
                ⊎_elim (λ m. m)
                (λ m.
                let yk : lands (slot_at t) r k ≡ true = rw q at y in
                let c : 0 < landing_kept (slot_at t) marks k =
                count_pos (exit_places places) (λ i. lands (slot_at t) i k && not (is_marked marks (holder_at i))) r lr (and_intro yk (ap not m)) in
                let a = account_here (inr x) unspared in
                let b = x k low in
                absurd (omega arith))
                (test (is_marked marks (holder_at r)));
          }

-- Marking it.
module _ {t : Table} {counts : List ℕ} {spared : ℕ} {left marks : List ℕ} {pending : ℕ → ℕ} {k : ℕ}
    (s : AtZero t counts spared left marks pending k) where
  abbrev h : ℕ → ℕ
  h = slot_at t

  mark_place : k < length marks
  mark_place = rw s.ledger.marks_size s.low

  pub mark_here : is_marked (set marks k 1) k ≡ true
  unfolding is_marked
  mark_here = rw (get_or-set_same marks k 1 0 mark_place)

  mark_there : (j : ℕ) → (j ≡ k → ⊥) → is_marked (set marks k 1) j ≡ is_marked marks j
  unfolding is_marked
  mark_there j c = rw (get_or-set_other marks k j 1 0 c)

  pub mark_grows : (j : ℕ) → is_marked marks j ≡ true → is_marked (set marks k 1) j ≡ true
  mark_grows j m = mark_there j (λ q. clash (rw q at m) s.fresh) ∙ m

  pub marked_next : (j : ℕ) → is_marked (set marks k 1) j ≡ true → (j ≡ k) ⊎ (is_marked marks j ≡ true)
  marked_next j m = ⊎_elim (λ q. inl q) (λ c. inr (sym (mark_there j c) ∙ m)) (eq_or_ne j k)

  -- its links are no longer those of a step that is not marked
  kept_falls : (x : ℕ) → landing_kept h marks x ≡ landing_kept h (set marks k 1) x + rest h k 0 x
  unfolding landing_kept
  kept_falls x =
      let split = count_split (exit_places places) (λ q. lands h q x && not (is_marked marks (holder_at q))) (λ q. eqb (holder_at q) k) in
      let own : count (exit_places places) (λ q. (lands h q x && not (is_marked marks (holder_at q))) && eqb (holder_at q) k) ≡
      count (exits_of k) (λ f. lands h (exit_place k f) x) =
      count_ext (exit_places places) _ _
      (λ q l.
      same_test _ _
      (λ t.
      and_intro (and_left (lands h q x) _ (and_left (lands h q x && not (is_marked marks (holder_at q))) _ t))
      (and_right (lands h q x && not (is_marked marks (holder_at q))) _ t))
      (λ t.
      let here : holder_at q ≡ k = eqb-true (holder_at q) k (and_right (lands h q x) _ t) in
      let un : is_marked marks (holder_at q) ≡ false = rw here s.fresh in
      and_intro (and_intro (and_left (lands h q x) _ t) (ap not un)) (and_right (lands h q x) _ t)))
      ∙ count_exits places k (λ q. lands h q x) s.low in
      let others : count (exit_places places) (λ q. (lands h q x && not (is_marked marks (holder_at q))) && not (eqb (holder_at q) k)) ≡
      count (exit_places places) (λ q. lands h q x && not (is_marked (set marks k 1) (holder_at q))) =
      count_ext (exit_places places) _ _
      (λ q l.
      ⊎_elim
      (λ (e : holder_at q ≡ k).
      let m : is_marked (set marks k 1) (holder_at q) ≡ true = rw e mark_here in
      same_test _ _
      (λ t. clash (eq-eqb _ _ e) (not_true_false _ (and_right (lands h q x && not (is_marked marks (holder_at q))) _ t)))
      (λ t. clash m (not_true_false _ (and_right (lands h q x) _ t))))
      (λ (c : holder_at q ≡ k → ⊥).
      let m = mark_there (holder_at q) c in
      let n : eqb (holder_at q) k ≡ false = ne_eqb _ _ c in
      same_test _ _
      (λ t. rw m (and_left (lands h q x && not (is_marked marks (holder_at q))) _ t))
      (λ t. and_intro (rw m at t) (ap not n)))
      (eq_or_ne (holder_at q) k)) in
      let all = rest_all h k x in
      omega arith

  -- the rank of the marked steps, with the new one above them
  raised : ℕ → ℕ
  raised j = elim (eqb j k) [ true ↦ s.ledger.top | false ↦ s.ledger.rank j ]

  raised_here : raised k ≡ s.ledger.top
  unfolding raised
  raised_here = rw (eq-eqb k k refl, raised)

  raised_there : (j : ℕ) → is_marked marks j ≡ true → raised j ≡ s.ledger.rank j
  unfolding raised
  raised_there j m = let e : eqb j k ≡ false = refute (eqb j k) (λ q. clash m (rw (eqb-true j k q) s.fresh)) in rw (e, raised)

  pub search_mark : Search t counts spared left (set marks k 1) (λ q. pending q + rest h k 0 q)
  search_mark =
      let g = s.ledger in
      record {
        ledger =
            record {
              left_size = g.left_size;
              marks_size = length-set marks k 1 ∙ g.marks_size;
              binary =
                  λ j.
                  ⊎_elim
                  (λ (q : j ≡ k). rw (q, get_or-set_same marks k 1 0 mark_place) (omega arith))
                  (λ c. rw (get_or-set_other marks k j 1 0 c) (g.binary j))
                  (eq_or_ne j k);
              account = λ z q d l c. g.account z q d l c ∙ (let f = kept_falls q in omega arith);
              dry = g.dry;
              quiet = λ j d m. ⊎_elim (λ (q : j ≡ k). rw q (s.zero (rw q at d))) (λ o. g.quiet j d o) (marked_next j m);
              clean = g.clean;
              rank = raised;
              top = suc g.top;
              low =
                  λ j m.
                  ⊎_elim (λ (q : j ≡ k). rw (q, raised_here) (omega arith))
                  (λ o. rw (raised_there j o) (let l = g.low j o in omega arith))
                  (marked_next j m);
              rising =
                  λ x q j l t m c.
                  ⊎_elim
                  (λ (e : j ≡ k).
                  let o = s.sources x (rw e at c) q l (rw e at t) in
                  (mark_grows (holder_at q) o, rw (e, raised_here, raised_there (holder_at q) o) (g.low (holder_at q) o)))
                  (λ o.
                  let r = g.rising x q j l t o c in
                  (mark_grows (holder_at q) r.0, rw (raised_there (holder_at q) r.0, raised_there j o) r.1))
                  (marked_next j m);
            };
        busy =
            λ j d l m b.
            let c : j ≡ k → ⊥ = λ q. clash mark_here (rw q at m) in
            s.others j d l c (sym (mark_there j c) ∙ m) b;
      }

  -- one more is marked
  pub unmarked_falls : unmarked (set marks k 1) + 1 ≡ unmarked marks
  unfolding unmarked
  unmarked_falls =
      let c = count_change places (λ j. not (is_marked marks j)) (λ j. not (is_marked (set marks k 1) j)) k s.low
      (λ i l c. ap not (mark_there i c)) in
      let x : one (not (is_marked marks k)) ≡ 1 = ap (λ (b : Bool). one (not b)) s.fresh in
      let y : one (not (is_marked (set marks k 1) k)) ≡ 0 = ap (λ (b : Bool). one (not b)) mark_here in
      omega arith

pub unmarked_mono : (marks marks' : List ℕ) → ((j : ℕ) → is_marked marks j ≡ true → is_marked marks' j ≡ true) → unmarked marks' ≤ unmarked marks
unfolding unmarked
unmarked_mono marks marks' f =
    count_mono places _ _ (λ j l t. ap not (refute (is_marked marks j) (λ m. clash (f j m) (not_true_false _ t))))

-- What one call does, by its cases: the exit at place p holds the target j and the bit b.
module _ (t : Table) (r : Ranged t) (p j : ℕ) (ej : j ≡ get_or t.targets p 0) where
  pub target_below : j < places
  target_below = rw ej (r.targets p)

  pub withdrawn_skip : (left marks : List ℕ) → j ≡ 0 → Withdrawn t left marks left marks (at (slot_at t) p)
  withdrawn_skip left marks z =
      record {
        after = λ counts spared pending s. search_skip t counts spared left marks p (slot_empty t p (sym ej ∙ z)) pending s;
        grown = λ i m. m;
        new = λ i m. inl m;
      }

  module _ (d : j ≡ 0 → ⊥) (b : ℕ) (eb : b ≡ get_or t.bits p 0) where
    abbrev k : ℕ
    k = counter_place j b

    bit_below : b < counters
    bit_below = rw eb (r.bits p)

    here : slot_at t p ≡ k
    here = slot_link t p (λ z. d (ej ∙ z)) ∙ rw (ej, eb)

    high : counters ≤ k
    unfolding counter_place
    high = omega arith

    pub counter_below : k < places * counters
    counter_below = counter_place_below j b bit_below target_below

    -- only a step whose own bit it is has its strong links there
    own_here : (i : ℕ) → own_slot t i ≡ k → (i ≡ j) × (own_bit t i ≡ b)
    own_here i e = own_slot_place t r i j b bit_below e

    module _ (left marks : List ℕ) where
      pub withdrawn_over : get_or left k 0 ≡ 0 → Withdrawn t left marks (set left 0 1) marks (at (slot_at t) p)
      withdrawn_over z =
          record {
            after = λ counts spared pending s. search_over t counts spared left marks p k here high counter_below pending s z;
            grown = λ i m. m;
            new = λ i m. inl m;
          }

      pub withdrawn_lower : (get_or left k 0 ≡ 0 → ⊥) → (get_or left k 0 ≡ 1 → b ≡ own_bit t j → ⊥) →
          Withdrawn t left marks (set left k (get_or left k 0 - 1)) marks (at (slot_at t) p)
      withdrawn_lower some more =
          record {
            after =
                λ counts spared pending s.
                search_lower t counts spared left marks p k here high counter_below pending s (get_or left k 0 - 1) (omega arith)
                (λ i z e. let o = own_here i e in more (omega arith) (sym o.1 ∙ ap (own_bit t) o.0));
            grown = λ i m. m;
            new = λ i m. inl m;
          }

      -- the last strong link of j
      module _ (last : get_or left k 0 ≡ 1) (own : b ≡ own_bit t j) where
        at_zero : (counts : List ℕ) (spared : ℕ) (pending : ℕ → ℕ) → Search t counts spared left marks (λ q. pending q + at (slot_at t) p q) →
            AtZero t counts spared (set left k (get_or left k 0 - 1)) marks pending j
        unfolding own_slot
        at_zero counts spared pending s =
            last_zero t counts spared left marks p k here high counter_below pending s (get_or left k 0 - 1) (omega arith)
            (omega arith) j (omega arith) target_below
            (ap (counter_place j) (sym own))
            (λ i e. (own_here i e).0)

        at_zero_some : (some : (counts : List ℕ) × Pending t counts left marks (at (slot_at t) p)) →
            AtZero t some.0 some.1.0 (set left k (get_or left k 0 - 1)) marks some.1.1 j
        at_zero_some some = at_zero some.0 some.1.0 some.1.1 some.1.2

        pub marked_pending : ((counts : List ℕ) × Pending t counts left marks (at (slot_at t) p)) →
            ((counts : List ℕ) × Pending t counts (set left k (get_or left k 0 - 1)) (set marks j 1) (rest (slot_at t) j 0))
        marked_pending some = (some.0, (some.1.0, some.1.1, search_mark (at_zero_some some)))

        pub marked_falls : ((counts : List ℕ) × Pending t counts left marks (at (slot_at t) p)) → unmarked (set marks j 1) + 1 ≡ unmarked marks
        marked_falls some = unmarked_falls (at_zero_some some)

        pub withdrawn_mark : p < exit_places places → ((counts : List ℕ) × Pending t counts left marks (at (slot_at t) p)) → (left' marks' : List ℕ) →
            Withdrawn t (set left k (get_or left k 0 - 1)) (set marks j 1) left' marks' (rest (slot_at t) j 0) →
            Withdrawn t left marks left' marks' (at (slot_at t) p)
        unfolding landing own_slot
        withdrawn_mark lp some left' marks' w =
            let a = at_zero_some some in
            record {
              after = λ counts spared pending s. w.after counts spared pending (search_mark (at_zero counts spared pending s));
              grown = λ i m. w.grown i (mark_grows a i m);
              new =
                  λ i m.
                  ⊎_elim
                  (λ o.
                  ⊎_elim
                  (λ (q : i ≡ j).
                  let e : slot_at t p ≡ own_slot t i = here ∙ rw (q, own) in
                  let c = lands_intro (slot_at t) p (own_slot t i) e (λ z. let y = own_slot_above t i (omega arith) in omega arith) in
                  inr (omega arith, count_pos (exit_places places) (λ x. lands (slot_at t) x (own_slot t i)) p lp c))
                  (λ u. inl u)
                  (marked_next a i o))
                  (λ u. inr u)
                  (w.new i m);
            }

-- Withdrawing a step, after its first e exits
pub record Upto (t : Table) (i : ℕ) (left₀ marks₀ : List ℕ) (e : ℕ) (left marks : List ℕ) : Type 0 where
  pub after : (counts : List ℕ) (spared : ℕ) (pending : ℕ → ℕ) → Search t counts spared left₀ marks₀ (λ q. pending q + rest (slot_at t) i 0 q) →
      Search t counts spared left marks (λ q. pending q + rest (slot_at t) i e q)
  pub grown : (j : ℕ) → is_marked marks₀ j ≡ true → is_marked marks j ≡ true
  pub new : (j : ℕ) → is_marked marks j ≡ true → (is_marked marks₀ j ≡ true) ⊎ ((0 < j) × (0 < landing (slot_at t) (own_slot t j)))

pub upto_start : (t : Table) (i : ℕ) (left marks : List ℕ) → Upto t i left marks 0 left marks
upto_start t i left marks = record { after = λ counts spared pending s. s; grown = λ j m. m; new = λ j m. inl m }

module _ (t : Table) (i : ℕ) (left₀ marks₀ : List ℕ) (e : ℕ) (left marks : List ℕ) (u : Upto t i left₀ marks₀ e left marks) where
  -- the exit that is next is pending, beside those after it
  next : e < exits_of i → (counts : List ℕ) (spared : ℕ) (pending : ℕ → ℕ) →
      Search t counts spared left₀ marks₀ (λ q. pending q + rest (slot_at t) i 0 q) →
      Search t counts spared left marks (λ q. (pending q + rest (slot_at t) i (suc e) q) + at (slot_at t) (exit_place i e) q)
  next l counts spared pending s = search_ext t (λ q. let r = rest_step (slot_at t) i e q l in omega arith) (u.after counts spared pending s)

  pub upto_pending : e < exits_of i → ((counts : List ℕ) × Pending t counts left₀ marks₀ (rest (slot_at t) i 0)) →
      ((counts : List ℕ) × Pending t counts left marks (at (slot_at t) (exit_place i e)))
  upto_pending l some = (some.0, (some.1.0, _, next l some.0 some.1.0 some.1.1 some.1.2))

  pub upto_more : (left' marks' : List ℕ) → e < exits_of i → Withdrawn t left marks left' marks' (at (slot_at t) (exit_place i e)) →
      Upto t i left₀ marks₀ (suc e) left' marks'
  upto_more left' marks' l w =
      record {
        after = λ counts spared pending s. w.after counts spared (λ q. pending q + rest (slot_at t) i (suc e) q) (next l counts spared pending s);
        grown = λ j m. w.grown j (u.grown j m);
        new = λ j m. ⊎_elim (λ o. u.new j o) (λ v. inr v) (w.new j m);
      }

  pub upto_done : e ≡ exits_of i → Withdrawn t left₀ marks₀ left marks (rest (slot_at t) i 0)
  upto_done z =
      record {
        after =
            λ counts spared pending s.
            search_ext t
            (λ q.
            let n = rest_none (slot_at t) i q in
            let r : rest (slot_at t) i e q ≡ rest (slot_at t) i (exits_of i) q = ap (λ (x : ℕ). rest (slot_at t) i x q) z in
            omega arith)
            (u.after counts spared pending s);
        grown = u.grown;
        new = u.new;
      }

-- A search begins with all counters, but for the spared one, and no mark, and marks a step that has no strong link left.
pub search_begin : (t : Table) (counts : List ℕ) (spared : ℕ) (left marks : List ℕ) (k : ℕ) → length left ≡ places * counters →
    length marks ≡ places → ((j : ℕ) → get_or marks j 0 ≡ 0) → k < places →
    ((q : ℕ) → (0 < spared → q ≡ spared → ⊥) → get_or left q 0 ≡ get_or counts q 0) → (0 < spared → get_or left spared 0 ≡ 0) →
    ((j : ℕ) → (j ≡ k → ⊥) → 0 < spared → own_slot t j ≡ spared → ⊥) → (0 < k → get_or left (own_slot t k) 0 ≡ 0) →
    (Exact t counts → (own_slot t k ≡ spared → ⊥) → (p : ℕ) → p < exit_places places → lands (slot_at t) p (own_slot t k) ≡ true → ⊥) →
    AtZero t counts spared left marks (λ q. 0) k
search_begin t counts spared left marks k ll lm none low same dry only z alone =
    record {
      ledger =
          record {
            left_size = ll;
            marks_size = lm;
            binary = λ j. rw (none j) (omega arith);
            account = λ e q d l c. let a = kept_all q in let b = same q (λ o. c) in omega arith;
            dry = dry;
            quiet = λ j d m. clash m (unmarked_at j);
            clean = λ x o. same 0 (λ d e. omega arith) ∙ x 0 (omega arith) ∙ landing_zero (slot_at t);
            rank = λ j. 0;
            top = 0;
            low = λ j m. clash m (unmarked_at j);
            rising = λ x p j l y m. clash m (unmarked_at j);
          };
      others = λ j d l c m b. rw (same (own_slot t j) (only j c)) b;
      low = low;
      fresh = unmarked_at k;
      zero = z;
      sources = λ x c p l y. absurd (alone x c p l y);
    }
  where
    unmarked_at : (j : ℕ) → is_marked marks j ≡ false
    unmarked_at j = unfold is_marked in (rw (none j))

    kept_all : (q : ℕ) → landing_kept (slot_at t) marks q ≡ landing (slot_at t) q
    kept_all q =
        unfold landing_kept landing in
        (count_ext (exit_places places) _ _
        (λ p l. same_test _ _ (λ y. and_left (lands (slot_at t) p q) _ y) (λ y. and_intro y (ap not (unmarked_at (holder_at p))))))
