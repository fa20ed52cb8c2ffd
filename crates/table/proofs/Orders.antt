-- Exits cleared in two orders end in one plan (document 02, W14). Assumes nothing.
--   Left t P u        clearings of the exits P leave u of t; left_same, one plan for one set of exits
--   left_clear left_all   one clearing more, and a list of them, refused or not
--   clears_any_order two_clears second_clear   the claims
use mathlib.Core.Path.{◌≡◌, refl, sym, ◌∙◌, ap, ap₂}
use mathlib.Core.Bool.{true, false}
use mathlib.Core.Logic.{◌⊎◌, inl, inr, ◌↔◌, ⊎_elim}
use mathlib.Core.List.Memᴰ
use mathlib.Core.List.{List, [], ◌∷◌, Memᴰ}
use Prim.Native.Nat.{ℕ, ◌+◌, ◌<◌}
use native.Mathlib.Omega.{arith}
use Rattle.finite.proofs.Bools.{clash, refute, test, same_test}
use Rattle.finite.proofs.Below.{le_or_lt, eq_or_ne}
use Rattle.finite.proofs.Reach.{chain_keeps, reach_sound}
use Rattle.table.specs.Said.{Refused}
use Rattle.table.specs.Table.{Table, exits, exits_of, in_use, kind_of, content_of, cabin_of, target_of, holds, linked, steps_in_use, with_links}
use Rattle.table.specs.Sound.{Sound, sound}
use Rattle.table.specs.Answer.{Outcome, refusal_of, second_of}
use Rattle.table.specs.Calls.{relink}
use Rattle.table.specs.Clear.{emptied, cleared, clear_refusal, clear_call}
use Rattle.table.specs.Trial.{trial_call}
use Rattle.table.specs.Plan.{plan_of, plan_count}
use Rattle.table.specs.Orders.{Exit, clear_at, clear_all, freed_sum, SameExits, SameEnd, TwoClearsDemand, SecondDemand}
use Rattle.table.proofs.Sound.{test_sound, sound_test}
use Rattle.table.proofs.Links.{sound_wired, holds_target, target_holds, empty_target, linked_exit, exit_linked, linked_used}
use Rattle.table.proofs.Relink.{relink_target, relink_target_other}
use Rattle.table.proofs.Formed.{at_exit, formed_place}
use Rattle.table.proofs.Clear.{sound_reached}
use Rattle.table.proofs.Plan.{plan_count_lem, plan_same}
use Rattle.table.proofs.Calls.{clear_made, clear_refused, clear_refusal_given, clear_sound, clear_fits, clear_exit, clear_accepted, clear_unused, clear_cleared, clear_still, clear_fall}
use Rattle.table.proofs.Preview.{holder_kept}
use Rattle.table.proofs.Rings.{trials_by_plan}

-- What clearings of the exits P leave of the table t: the steps still in use are as they were, but for these exits.
record Left (t : Table) (P : Exit → Type 0) (u : Table) : Type 0 where
  sound : Sound u
  capacity : u.capacity ≡ t.capacity
  last : u.last ≡ t.last
  quotas : u.quotas ≡ t.quotas
  kind : (i : ℕ) → in_use u i ≡ true → kind_of u i ≡ kind_of t i
  content : (i : ℕ) → in_use u i ≡ true → content_of u i ≡ content_of t i
  cabin : (i : ℕ) → in_use u i ≡ true → cabin_of u i ≡ cabin_of t i
  empty : (i e : ℕ) → e < exits_of i → in_use u i ≡ true → P (i, e) → target_of u i e ≡ 0
  other : (i e : ℕ) → e < exits_of i → in_use u i ≡ true → (P (i, e) → ⊥) → target_of u i e ≡ target_of t i e

none_cleared : {t : Table} → Sound t → Left t (λ x. ⊥) t
none_cleared s =
    record {
      sound = s;
      capacity = refl;
      last = refl;
      quotas = refl;
      kind = λ i u. refl;
      content = λ i u. refl;
      cabin = λ i u. refl;
      empty = λ i e l u p. absurd p;
      other = λ i e l u n. refl;
    }

-- more exits, where those hold no link
left_more : {t u : Table} {P Q : Exit → Type 0} → Left t P u → ((x : Exit) → P x → Q x) →
    ((i e : ℕ) → e < exits_of i → in_use u i ≡ true → Q (i, e) → target_of u i e ≡ 0) → Left t Q u
left_more l wider empty =
    record {
      sound = l.sound;
      capacity = l.capacity;
      last = l.last;
      quotas = l.quotas;
      kind = l.kind;
      content = l.content;
      cabin = l.cabin;
      empty = empty;
      other = λ i e b u n. l.other i e b u (λ p. n (wider (i, e) p));
    }

-- the same exits, said otherwise
left_iff : {t u : Table} {P Q : Exit → Type 0} → ((x : Exit) → P x ↔ Q x) → Left t P u → Left t Q u
left_iff same l = left_more l (λ x. (same x).0) (λ i e b u q. l.empty i e b u ((same (i, e)).1 q))

-- one exit is its two numbers
both : {i e k f : ℕ} → ◌≡◌ {A = Exit} (k, f) (i, e) → (k ≡ i) × (f ≡ e)
both q = (ap (λ (x : Exit). x.0) q, ap (λ (x : Exit). x.1) q)

one : {i e k f : ℕ} → k ≡ i → f ≡ e → ◌≡◌ {A = Exit} (k, f) (i, e)
one p q = ap₂ (λ (a b : ℕ). (a, b)) p q

-- an exit that a call may clear: one of the four
abbrev Own : Exit → Type 0
Own x = x.1 < exits

-- one clearing more
module _ {t u : Table} {P : Exit → Type 0} (l : Left t P u) (i e : ℕ) where
  abbrev More : Exit → Type 0
  More x = P x ⊎ ((x ≡ (i, e)) × Own x)

  made : clear_refusal u i e ≡ 0 → Left t More (cleared u i e).table
  unfolding emptied relink with_links kind_of content_of cabin_of
  made z =
      let s = l.sound in
      let g = clear_fits u i e z in
      let c = (clear_cleared s i e g).3 in
      let still = clear_still s i e g in
      let place = formed_place s.formed i g.used in
      let here = relink_target u s.formed.shape i e 0 0 place g.exit in
      let there = relink_target_other u s.formed.shape i e 0 0 place g.exit in
      record {
        sound = c.sound;
        capacity = c.capacity ∙ l.capacity;
        last = c.last ∙ l.last;
        quotas = c.quotas ∙ l.quotas;
        kind = λ k y. c.kind k y ∙ l.kind k (still k y);
        content = λ k y. c.content k y ∙ l.content k (still k y);
        cabin = λ k y. c.cabin k y ∙ l.cabin k (still k y);
        empty =
            λ k f b y p.
            c.target k f b y
            ∙ ⊎_elim
            (λ (q : (k ≡ i) × (f ≡ e)). rw (q.0, q.1) here)
            (λ (d : (k ≡ i) × (f ≡ e) → ⊥).
            there k f b d
            ∙ ⊎_elim (λ x. l.empty k f b (still k y) x) (λ x. absurd (d (both x.0))) p)
            (at_exit i e k f);
        other =
            λ k f b y n.
            c.target k f b y
            ∙ ⊎_elim
            (λ (q : (k ≡ i) × (f ≡ e)). absurd (n (inr (one q.0 q.1, rw q.1 (clear_exit u i e z)))))
            (λ d. there k f b d ∙ l.other k f b (still k y) (λ x. n (inl x)))
            (at_exit i e k f);
      }

  -- a clearing is refused where there is no such exit, or none that holds a link
  refused : (clear_refusal u i e ≡ 0 → ⊥) → Left t More u
  refused d =
      left_more l (λ x p. inl p)
      (λ k f b y. ⊎_elim (λ p. l.empty k f b y p) (λ x. let q = both x.0 in nothing k f q.0 q.1 y x.1))
    where
      nothing : (k f : ℕ) → k ≡ i → f ≡ e → in_use u k ≡ true → f < exits → target_of u k f ≡ 0
      nothing k f q r y b =
          empty_target u k f (refute (holds u k f) (λ h. d (clear_accepted l.sound i e (rw q at y) (rw r at b) (rw (q, r) at h))))

  left_clear : Left t More (clear_call u i e).table
  left_clear =
      ⊎_elim
      (λ (z : clear_refusal u i e ≡ 0). rw (clear_made u i e z) (made z))
      (λ d. rw (clear_refused u i e d) (refused d))
      (eq_or_ne (clear_refusal u i e) 0)

-- the exits of a list that a call may clear
abbrev Among : List Exit → Exit → Type 0
Among xs x = Memᴰ x xs × Own x

left_all : {t u : Table} {P : Exit → Type 0} (xs : List Exit) → Left t P u → Left t (λ x. P x ⊎ Among xs x) (clear_all u xs)
unfolding clear_all
left_all [] l = left_iff (λ x. ((λ p. inl p), ⊎_elim (λ p. p) (λ m. absurd (Memᴰ.not-nil m.0)))) l
left_all {t} {u} {P} (x ∷ xs) l = left_iff (λ y. (to y, from y)) (left_all {u = (clear_call u x.0 x.1).table} xs (left_clear l x.0 x.1))
  where
    to : (y : Exit) → (P y ⊎ ((y ≡ x) × Own y)) ⊎ Among xs y → P y ⊎ Among (x ∷ xs) y
    to y = ⊎_elim (⊎_elim (λ p. inl p) (λ q. inr (Memᴰ.head q.0, q.1))) (λ m. inr (Memᴰ.tail m.0, m.1))

    from : (y : Exit) → P y ⊎ Among (x ∷ xs) y → (P y ⊎ ((y ≡ x) × Own y)) ⊎ Among xs y
    from y = ⊎_elim (λ p. inl (inl p)) (λ m. ⊎_elim (λ q. inl (inr (q, m.1))) (λ n. inr (n, m.1)) (Memᴰ.cases_cons m.0))

left_by : {t : Table} → Sound t → (xs : List Exit) → Left t (Among xs) (clear_all t xs)
left_by s xs = left_iff (λ x. (⊎_elim (λ p. absurd p) (λ m. m), λ m. inr m)) (left_all xs (none_cleared s))

-- an exit is in a list or not
among_or_not : (xs : List Exit) (x : Exit) → Among xs x ⊎ (Among xs x → ⊥)
among_or_not [] x = inr (λ m. Memᴰ.not-nil m.0)
among_or_not (y ∷ xs) x =
    ⊎_elim
    (λ b. inr (λ m. let o = m.1 in omega arith))
    (λ b.
    ⊎_elim
    (λ (q : (x.0 ≡ y.0) × (x.1 ≡ y.1)). inl (Memᴰ.head (one q.0 q.1), b))
    (λ d.
    ⊎_elim
    (λ m. inl (Memᴰ.tail m.0, b))
    (λ n. inr (λ m. ⊎_elim (λ q. d (both q)) (λ k. n (k, b)) (Memᴰ.cases_cons m.0)))
    (among_or_not xs x))
    (at_exit y.0 y.1 x.0 x.1))
    (le_or_lt exits x.1)

-- what links reach in u they reach in v, where they lead there to the same steps
reached_too : {u v : Table} → Sound u → Sound v →
    ((i e : ℕ) → e < exits_of i → in_use u i ≡ true → in_use v i ≡ true → holds u i e ≡ true → target_of v i e ≡ target_of u i e) →
    (i : ℕ) → in_use u i ≡ true → in_use v i ≡ true
reached_too {u} {v} s r same i y =
    (chain_keeps (λ k. (in_use u k ≡ true) × (in_use v k ≡ true)) step (s.formed.alarm, r.formed.alarm)
    (reach_sound (linked u) u.capacity 0 i (sym (sound_reached s i) ∙ y)).1).1
  where
    step : (a b : ℕ) → (in_use u a ≡ true) × (in_use v a ≡ true) → linked u a b ≡ true → (in_use u b ≡ true) × (in_use v b ≡ true)
    step a b p h =
        let x = linked_exit u a b h in
        let e = x.0 in
        let to = same a e x.1 p.0 p.1 x.2 in
        let filled = target_holds v a e (λ z. holds_target u a e x.2 (sym to ∙ z)) in
        ((linked_used (sound_wired s) a b h).1, (linked_used (sound_wired r) a b (exit_linked v a b e x.1 filled (to ∙ x.3))).1)

-- Two tables that clearings of the same exits leave of one.
module _ {t u v : Table} {P : Exit → Type 0} (each : (x : Exit) → P x ⊎ (P x → ⊥)) (l : Left t P u) (m : Left t P v) where
  left_target : (i e : ℕ) → e < exits_of i → in_use u i ≡ true → in_use v i ≡ true → target_of u i e ≡ target_of v i e
  left_target i e b y z =
      ⊎_elim
      (λ p. l.empty i e b y p ∙ sym (m.empty i e b z p))
      (λ n. l.other i e b y n ∙ sym (m.other i e b z n))
      (each (i, e))

  left_used : (i : ℕ) → in_use u i ≡ true → in_use v i ≡ true
  left_used = reached_too l.sound m.sound (λ i e b y z h. sym (left_target i e b y z))

  left_plan : ((i : ℕ) → in_use u i ≡ in_use v i) → plan_of u ≡ plan_of v
  left_plan used =
      plan_same u v (l.capacity ∙ sym m.capacity) (l.last ∙ sym m.last) (l.quotas ∙ sym m.quotas) used
      (λ i y. l.kind i y ∙ sym (m.kind i (left_used i y)))
      (λ i y. l.content i y ∙ sym (m.content i (left_used i y)))
      (λ i e y b. left_target i e b y (left_used i y))
      (λ i y. l.cabin i y ∙ sym (m.cabin i (left_used i y)))

-- the steps freed are those that are missing at the end
freed_all : {u : Table} → Sound u → (xs : List Exit) → steps_in_use (clear_all u xs) + freed_sum u xs ≡ steps_in_use u
unfolding clear_all freed_sum
freed_all s [] = omega arith
freed_all {u} s (x ∷ xs) =
    let rest = freed_all {u = (clear_call u x.0 x.1).table} (left_clear (none_cleared s) x.0 x.1).sound xs in
    let one : steps_in_use (clear_at u x).table + second_of (clear_at u x).answer ≡ steps_in_use u =
    ⊎_elim
    (λ (z : clear_refusal u x.0 x.1 ≡ 0). rw (clear_made u x.0 x.1 z) (clear_fall s x.0 x.1 (clear_fits u x.0 x.1 z)))
    (λ d. rw (clear_refused u x.0 x.1 d) (unfold second_of in omega arith))
    (eq_or_ne (clear_refusal u x.0 x.1) 0) in
    omega (arith, rest, one)

-- a table that is not sound stays as it is
module _ {t : Table} (n : Sound t → ⊥) where
  stays : (x : Exit) → clear_at t x ≡ record { answer = Refused (clear_refusal t x.0 x.1); table = t }
  stays x = clear_refused t x.0 x.1 (λ z. n (clear_sound t x.0 x.1 z))

  all_stays : (xs : List Exit) → clear_all t xs ≡ t
  unfolding clear_all
  all_stays [] = refl
  all_stays (x ∷ xs) = rw (stays x) (all_stays xs)

  none_freed : (xs : List Exit) → freed_sum t xs ≡ 0
  unfolding freed_sum second_of
  none_freed [] = refl
  none_freed (x ∷ xs) = rw (stays x) (let rest = none_freed xs in omega arith)

-- For any table and any clearings, refused or not: the exits alone decide how it ends.
pub clears_any_order : (t : Table) (xs ys : List Exit) → SameExits xs ys → SameEnd t xs ys
clears_any_order t xs ys same =
    ⊎_elim
    (λ h. sound_end (test_sound t h))
    (λ h.
    let n : Sound t → ⊥ = λ s. clash (sound_test t s) h in
    let left = all_stays n xs ∙ sym (all_stays n ys) in
    record {
      used = λ i. ap (λ (u : Table). in_use u i) left;
      targets = λ i e y b. ap (λ (u : Table). target_of u i e) left;
      kinds = λ i y. ap (λ (u : Table). kind_of u i) left;
      contents = λ i y. ap (λ (u : Table). content_of u i) left;
      cabins = λ i y. ap (λ (u : Table). cabin_of u i) left;
      plan = ap plan_of left;
      trials = λ limit results trace. ap (λ (u : Table). trial_call u limit results trace) left;
      freed = none_freed n xs ∙ sym (none_freed n ys);
    })
    (test (sound t))
  where
    sound_end : Sound t → SameEnd t xs ys
    sound_end s =
        let u = clear_all t xs in
        let v = clear_all t ys in
        let each = among_or_not xs in
        let l = left_by s xs in
        let m : Left t (Among xs) v = left_iff (λ x. ((λ p. ((same x).1 p.0, p.1)), λ p. ((same x).0 p.0, p.1))) (left_by s ys) in
        let on = left_used each l m in
        let used : (i : ℕ) → in_use u i ≡ in_use v i = λ i. same_test _ _ (on i) (left_used each m l i) in
        let plan : plan_of u ≡ plan_of v = left_plan each l m used in
        let steps : steps_in_use u ≡ steps_in_use v = sym (plan_count_lem (sound_wired l.sound)) ∙ ap plan_count plan ∙ plan_count_lem (sound_wired m.sound) in
        let gone = freed_all s xs in
        let others = freed_all s ys in
        record {
          used = used;
          targets = λ i e y b. left_target each l m i e b y (on i y);
          kinds = λ i y. l.kind i y ∙ sym (m.kind i (on i y));
          contents = λ i y. l.content i y ∙ sym (m.content i (on i y));
          cabins = λ i y. l.cabin i y ∙ sym (m.cabin i (on i y));
          plan = plan;
          trials = trials_by_plan u v l.sound m.sound plan;
          freed = omega (arith, steps, gone, others);
        }

swapped : (x y : Exit) → SameExits (x ∷ y ∷ []) (y ∷ x ∷ [])
swapped x y v = (swap v x y, swap v y x)
  where
    swap : (v x y : Exit) → Memᴰ v (x ∷ y ∷ []) → Memᴰ v (y ∷ x ∷ [])
    swap v x y m =
        ⊎_elim (λ q. Memᴰ.tail (Memᴰ.head q))
        (λ n. ⊎_elim Memᴰ.head (λ k. absurd (Memᴰ.not-nil k)) (Memᴰ.cases_cons n))
        (Memᴰ.cases_cons m)

-- Two clearings, in either order.
module _ {t : Table} (s : Sound t) (x y : Exit) (d : x ≡ y → ⊥) where
  abbrev a : Table
  a = (clear_at t x).table

  abbrev b : Table
  b = (clear_at t y).table

  after_x : Left t (Among (x ∷ [])) a
  unfolding clear_all
  after_x = left_by s (x ∷ [])

  after_y : Left t (Among (y ∷ [])) b
  unfolding clear_all
  after_y = left_by s (y ∷ [])

  second_gone : in_use a y.0 ≡ false → refusal_of (clear_at a y).answer ≡ 3
  second_gone h = clear_refusal_given a y.0 y.1 ∙ clear_unused after_x.sound y.0 y.1 h

  -- its exit holds the link still
  second_kept : clear_refusal t y.0 y.1 ≡ 0 → in_use a y.0 ≡ true → refusal_of (clear_at a y).answer ≡ 0
  second_kept z h =
      let g = clear_fits t y.0 y.1 z in
      let to : target_of a y.0 y.1 ≡ target_of t y.0 y.1 = after_x.other y.0 y.1 g.exit h (λ m. apart m.0) in
      let filled = target_holds a y.0 y.1 (λ q. holds_target t y.0 y.1 g.filled (sym to ∙ q)) in
      clear_refusal_given a y.0 y.1 ∙ clear_accepted after_x.sound y.0 y.1 h (clear_exit t y.0 y.1 z) filled
    where
      apart : Memᴰ y (x ∷ []) → ⊥
      apart m = ⊎_elim (λ q. d (sym q)) Memᴰ.not-nil (Memᴰ.cases_cons m)

  -- where the first frees the holder of y, no chain to the holder of x goes by y
  holder_stays : clear_refusal t x.0 x.1 ≡ 0 → in_use a y.0 ≡ false → in_use b x.0 ≡ true
  holder_stays z h =
      let g = clear_fits t x.0 x.1 z in
      let here : in_use a x.0 ≡ true = ap (λ (o : Outcome). in_use o.table x.0) (clear_made t x.0 x.1 z) ∙ holder_kept t s x.0 x.1 g in
      reached_too after_x.sound after_y.sound
      (λ i e l p q f.
      let other : Among (y ∷ []) (i, e) → ⊥ =
      λ m. ⊎_elim (λ q. clash (ap (λ (v : Exit). in_use a v.0) (sym q) ∙ p) h) Memᴰ.not-nil (Memᴰ.cases_cons m.0) in
      after_y.other i e l q other ∙ sym (after_x.other i e l p (λ m. holds_target a i e f (after_x.empty i e l p m))))
      x.0 here

  pub two_clears : TwoClearsDemand t x y
  two_clears =
      record {
        same = clears_any_order t (x ∷ y ∷ []) (y ∷ x ∷ []) (swapped x y);
        freed = second_gone;
        kept = second_kept;
        either = λ z. ⊎_elim (λ h. inl h) (λ h. inr (holder_stays z h)) (test (in_use a y.0));
      }

-- and where each of the two can be cleared
pub second_clear : (t : Table) (x y : Exit) → (x ≡ y → ⊥) → clear_refusal t x.0 x.1 ≡ 0 → clear_refusal t y.0 y.1 ≡ 0 → SecondDemand t x y
second_clear t x y d z w =
    let s = clear_sound t x.0 x.1 z in
    let one = two_clears s x y d in
    let other = two_clears s y x (λ q. d (sym q)) in
    record {
      only = ⊎_elim (λ h. inl (one.kept w h)) (λ h. inr (one.freed h)) (test (in_use (clear_at t x).table y.0));
      once = ⊎_elim (λ h. inl (one.kept w h)) (λ h. inr (other.kept z h)) (one.either z);
    }
