-- Laws of `relink`: what an exit holds afterwards, and that exact counters stay exact. Assumes nothing.
--   Exact t    every counter is the number of links with its bit to its step
use mathlib.Core.Path.{◌≡◌, refl, sym, ◌∙◌, ap, ap₂}
use mathlib.Core.Bool.{Bool, true, false, ◌&&◌, not, cond}
use mathlib.Core.Logic.{⊎_elim}
use mathlib.Core.List.{List}
use Prim.Native.Nat.{ℕ, ◌+◌, ◌*◌, ◌-◌, ◌≤◌, ◌<◌}
use native.Mathlib.Omega.{arith}
use lib.ListN.{length, get_or, set, length-set}
use lib.Seq.{get_or-set_same, get_or-set_other}
use lib.Dec.{eqb}
use borrow.Author.Tests.{eqb-true, eqb-false, eq-eqb, ne_eqb}
use Rattle.finite.specs.Below.{count, one}
use Rattle.finite.proofs.Bools.{and_intro, and_left, and_right, clash, refute, test, not_true_false}
use Rattle.finite.proofs.Below.{eq_or_ne, count_change, count_pos}
use Rattle.table.specs.Table.{Table, places, counters, exit_place, exits_of, exit_places, counter_place, in_use, kind_of, content_of, cabin_of, target_of, link_bit, counter_of, counts_at, links_to, with_links}
use Rattle.table.specs.Sound.{Shape}
use Rattle.table.specs.Calls.{lowered, raised, relink}
use Rattle.table.proofs.Places.{exit_place_same, exit_place_below}

-- two counters that stand in one place are one counter
pub counter_place_same : (i b k c : ℕ) → b < counters → c < counters → counter_place k c ≡ counter_place i b → (k ≡ i) × (c ≡ b)
unfolding counter_place
counter_place_same i b k c lb lc h = (omega arith, omega arith)

pub counter_place_below : (i b : ℕ) → b < counters → i < places → counter_place i b < places * counters
unfolding counter_place
counter_place_below i b l h = omega arith

-- a link to j with bit b is counted by counter c of step k
unfoldable pub hits : ℕ → ℕ → ℕ → ℕ → Bool
hits j b k c = not (eqb k 0) && eqb j k && eqb b c

hits_same : (j b : ℕ) → (j ≡ 0 → ⊥) → hits j b j b ≡ true
unfolding hits
hits_same j b h = and_intro (and_intro (ap not (ne_eqb j 0 h)) (eq-eqb j j refl)) (eq-eqb b b refl)

hits_target : (j b k c : ℕ) → hits j b k c ≡ true → (j ≡ k) × (b ≡ c) × (k ≡ 0 → ⊥)
unfolding hits
hits_target j b k c h =
    let l = and_left (not (eqb k 0) && eqb j k) _ h in (
      eqb-true j k (and_right (not (eqb k 0)) _ l),
      eqb-true b c (and_right (not (eqb k 0) && eqb j k) _ h),
      eqb-false k 0 (not_true_false _ (and_left (not (eqb k 0)) _ l)),
    )

hits_none : (b k c : ℕ) → hits 0 b k c ≡ false
hits_none b k c = refute (hits 0 b k c) (λ h. let r = hits_target 0 b k c h in r.2 (sym r.0))

-- one counter is changed to x, those of other steps and bits stay: stated of both `raised` and `lowered` through the value f of the old one
module _ (f : ℕ → ℕ) where
  changed : ℕ → ℕ → List ℕ → List ℕ
  changed j b cs = cond (eqb j 0) cs (set cs (counter_place j b) (f (get_or cs (counter_place j b) 0)))

  changed_at : (j b k c : ℕ) (cs : List ℕ) → length cs ≡ places * counters → j < places → b < counters → c < counters →
      get_or (changed j b cs) (counter_place k c) 0 ≡ cond (hits j b k c) (f (get_or cs (counter_place k c) 0)) (get_or cs (counter_place k c) 0)
  unfolding changed
  changed_at j b k c cs len lj lb lc =
      ⊎_elim
      (λ z.
      let e : eqb j 0 ≡ true = eq-eqb j 0 z in
      let h : hits j b k c ≡ false = rw z (hits_none b k c) in
      rw (e, h))
      (λ z.
      let e : eqb j 0 ≡ false = ne_eqb j 0 z in
      ⊎_elim
      (λ (g : hits j b k c ≡ true).
      let r = hits_target j b k c g in
      let q : counter_place j b ≡ counter_place k c = ap₂ counter_place r.0 r.1 in
      let l : counter_place k c < length cs = rw (len, sym q) (counter_place_below j b lb lj) in
      rw (e, g, q) (get_or-set_same cs (counter_place k c) (f (get_or cs (counter_place k c) 0)) 0 l))
      (λ (g : hits j b k c ≡ false).
      rw (e, g)
      (get_or-set_other cs (counter_place j b) (counter_place k c) _ 0
      (λ q.
      let r = counter_place_same j b k c lb lc q in
      clash (rw (r.0, r.1) (hits_same j b z)) g)))
      (test (hits j b k c)))
      (eq_or_ne j 0)

cond_one : (h : Bool) (n : ℕ) → cond h (n + 1) n ≡ n + one h
cond_one true n = refl
cond_one false n = omega arith

cond_less : (h : Bool) (n : ℕ) → cond h (n - 1) n ≡ n - one h
cond_less true n = refl
cond_less false n = omega arith

pub raised_at : (j b k c : ℕ) (cs : List ℕ) → length cs ≡ places * counters → j < places → b < counters → c < counters →
    get_or (raised j b cs) (counter_place k c) 0 ≡ get_or cs (counter_place k c) 0 + one (hits j b k c)
unfolding raised changed
raised_at j b k c cs len lj lb lc = changed_at (λ n. n + 1) j b k c cs len lj lb lc ∙ cond_one (hits j b k c) _

lowered_at : (j b k c : ℕ) (cs : List ℕ) → length cs ≡ places * counters → j < places → b < counters → c < counters →
    get_or (lowered j b cs) (counter_place k c) 0 ≡ get_or cs (counter_place k c) 0 - one (hits j b k c)
unfolding lowered changed
lowered_at j b k c cs len lj lb lc = changed_at (λ n. n - 1) j b k c cs len lj lb lc ∙ cond_less (hits j b k c) _

pub length_raised : (j b : ℕ) (cs : List ℕ) → length (raised j b cs) ≡ length cs
unfolding raised
length_raised j b cs = length_cond (eqb j 0)
  where
    length_cond : (z : Bool) → length (cond z cs (set cs (counter_place j b) (get_or cs (counter_place j b) 0 + 1))) ≡ length cs
    length_cond true = refl
    length_cond false = length-set cs _ _

pub length_lowered : (j b : ℕ) (cs : List ℕ) → length (lowered j b cs) ≡ length cs
unfolding lowered
length_lowered j b cs = length_cond (eqb j 0)
  where
    length_cond : (z : Bool) → length (cond z cs (set cs (counter_place j b) (get_or cs (counter_place j b) 0 - 1))) ≡ length cs
    length_cond true = refl
    length_cond false = length-set cs _ _

abbrev pub Exact : Table → Type 0
Exact t = (k c : ℕ) → k < places → c < counters → counter_of t k c ≡ links_to t k c

-- the steps stay
module _ (t : Table) (i e j b k : ℕ) where
  pub relink_used : in_use (relink t i e j b) k ≡ in_use t k
  unfolding relink with_links in_use
  relink_used = refl

  pub relink_kind : kind_of (relink t i e j b) k ≡ kind_of t k
  unfolding relink with_links kind_of
  relink_kind = refl

  pub relink_content : content_of (relink t i e j b) k ≡ content_of t k
  unfolding relink with_links content_of
  relink_content = refl

  pub relink_cabin : cabin_of (relink t i e j b) k ≡ cabin_of t k
  unfolding relink with_links cabin_of
  relink_cabin = refl

module _ (t : Table) (s : Shape t) (i e j b : ℕ) (li : i < places) (le : e < exits_of i) where
  pub relink_shape : Shape (relink t i e j b)
  unfolding relink with_links
  relink_shape =
      record {
        used = s.used;
        kinds = s.kinds;
        contents = s.contents;
        own = s.own;
        targets = length-set t.targets _ _ ∙ s.targets;
        bits = length-set t.bits _ _ ∙ s.bits;
        counts = length_raised j b _ ∙ length_lowered _ _ t.counts ∙ s.counts;
        cabins = s.cabins;
        quotas = s.quotas;
      }

  pub relink_target : target_of (relink t i e j b) i e ≡ j
  unfolding relink with_links target_of
  relink_target = get_or-set_same t.targets (exit_place i e) j 0 (rw s.targets (exit_place_below i e places le li))

  pub relink_bit : link_bit (relink t i e j b) i e ≡ b
  unfolding relink with_links link_bit
  relink_bit = get_or-set_same t.bits (exit_place i e) b 0 (rw s.bits (exit_place_below i e places le li))

  pub relink_target_other : (k f : ℕ) → f < exits_of k → ((k ≡ i) × (f ≡ e) → ⊥) → target_of (relink t i e j b) k f ≡ target_of t k f
  unfolding relink with_links target_of
  relink_target_other k f lf d =
      get_or-set_other t.targets (exit_place i e) (exit_place k f) j 0 (λ q. d (exit_place_same i e k f le lf q))

  pub relink_bit_other : (k f : ℕ) → f < exits_of k → ((k ≡ i) × (f ≡ e) → ⊥) → link_bit (relink t i e j b) k f ≡ link_bit t k f
  unfolding relink with_links link_bit
  relink_bit_other k f lf d =
      get_or-set_other t.bits (exit_place i e) (exit_place k f) b 0 (λ q. d (exit_place_same i e k f le lf q))

  -- the counter that falls was not 0, since the link that goes was counted
  pub relink_exact : i < t.capacity → target_of t i e < places → link_bit t i e < counters → j < places → b < counters → Exact t → Exact (relink t i e j b)
  unfolding relink with_links links_to counts_at counter_of target_of link_bit hits
  relink_exact lc lo lb lj lb' x k c lk lc' =
      let p = exit_place i e in
      let old : Bool = hits (get_or t.targets p 0) (get_or t.bits p 0) k c in
      let new : Bool = hits j b k c in
      let lp : p < exit_places t.capacity = exit_place_below i e t.capacity le lc in
      let was : ℕ → Bool = λ q. hits (get_or t.targets q 0) (get_or t.bits q 0) k c in
      let is : ℕ → Bool = λ q. hits (get_or (set t.targets p j) q 0) (get_or (set t.bits p b) q 0) k c in
      let at : is p ≡ new =
      ap₂ (λ (x y : ℕ). hits x y k c) (get_or-set_same t.targets p j 0 (rw s.targets (exit_place_below i e places le li)))
      (get_or-set_same t.bits p b 0 (rw s.bits (exit_place_below i e places le li))) in
      let moved : count (exit_places t.capacity) is + one (was p) ≡ count (exit_places t.capacity) was + one (is p) =
      count_change (exit_places t.capacity) was is p lp
      (λ q l d. ap₂ (λ (x y : ℕ). hits x y k c) (get_or-set_other t.targets p q j 0 d) (get_or-set_other t.bits p q b 0 d)) in
      let down = lowered (get_or t.targets p 0) (get_or t.bits p 0) t.counts in
      let low : get_or down (counter_place k c) 0 ≡ get_or t.counts (counter_place k c) 0 - one old =
      lowered_at (get_or t.targets p 0) (get_or t.bits p 0) k c t.counts s.counts lo lb lc' in
      let high : get_or (raised j b down) (counter_place k c) 0 ≡ get_or down (counter_place k c) 0 + one new =
      raised_at j b k c _ (length_lowered _ _ t.counts ∙ s.counts) lj lb' lc' in
      let here : get_or t.counts (counter_place k c) 0 ≡ count (exit_places t.capacity) was = x k c lk lc' in
      let enough : one old ≤ count (exit_places t.capacity) was = counted (exit_places t.capacity) was p lp in
      let new' : one (is p) ≡ one new = ap one at in
      omega arith
    where
      counted : (n : ℕ) (w : ℕ → Bool) (p : ℕ) → p < n → one (w p) ≤ count n w
      counted n w p l = ⊎_elim (λ g. let h = count_pos n w p l g in let o : one (w p) ≡ 1 = ap one g in omega arith) (λ g. let o : one (w p) ≡ 0 = ap one g in omega arith) (test (w p))
