-- Laws of the rules of clearing on one table: what stays in order, what rounds come to, and which steps become candidates. Assumes nothing.
--   standing_weakened standing_emptied standing_flipped   a table in order stays so
--   each-..         a change made for each marked step, in part: for those below k
--   added-..        candidates that are added
use mathlib.Core.Path.{◌≡◌, refl, sym, ◌∙◌, ap, subst}
use mathlib.Core.Bool.{Bool, true, false, ◌&&◌, ◌||◌, not, cond}
use mathlib.Core.Logic.{inl, inr, ⊎_elim}
use mathlib.Core.List.{List}
use Prim.Native.Nat.{ℕ, ◌+◌, ◌-◌, ◌≤◌, ◌<◌}
use native.Mathlib.Numerals.{add-one}
use native.Mathlib.Omega.{arith}
use lib.ListN.{length, get_or, set, length-set}
use lib.Seq.{get_or-set_same, get_or-set_other}
use lib.Dec.{eqb}
use borrow.Author.Tests.{eqb-true, eq-eqb, ne_eqb}
use Rattle.finite.specs.Below.{any, count, rounds}
use Rattle.finite.specs.Reach.{marked}
use Rattle.finite.proofs.Bools.{and_intro, and_left, and_right, refute, test, same_test}
use Rattle.finite.proofs.Below.{eq_or_ne, count_ext, get_or_tabulate}
use Rattle.table.specs.Table.{Table, places, exits_of, counters, in_use, own_bit, target_of, link_bit, holds, strong, leads, with_steps}
use Rattle.table.specs.Calls.{relink, weak_bit}
use Rattle.table.specs.Clear.{flipped, weakened, each_doubtful, size}
use Rattle.table.proofs.Links.{holds_target, target_holds, strong_holds, bit_strong}
use Rattle.table.proofs.Edits.{weak_bit_lem}
use Rattle.table.proofs.Relink.{relink_used}
use Rattle.table.proofs.Formed.{formed_place, formed_relink, formed_flipped}
use Rattle.words.specs.Words.{table_of, Becomes, Relinkable}
use Rattle.words.specs.Marks.{is_marked}
use Rattle.words.proofs.Formed.{formed_relinkable}
use Rattle.words.proofs.Becomes.{becomes_same, becomes_done}
use Rattle.marking.specs.Marking.{meant, linked_within}
use Rattle.repairing.specs.Repairing.{as_marks, Standing, Added}

-- A table in order with a step in use.
module _ {t : Table} {k : ℕ} (s : Standing t k) where
  pub standing_place : k < places
  standing_place = formed_place s.formed k s.used

  pub standing_flipped : Standing (flipped t k) k
  standing_flipped = record { formed = formed_flipped t s.formed k s.used; used = (unfold flipped with_steps in_use in s.used) }

  module _ (e : ℕ) (le : e < exits_of k) where
    pub standing_relinkable : (j b : ℕ) → j < places → b < counters → Relinkable t k e j b
    standing_relinkable j b = formed_relinkable s.formed k e j b s.used le

    pub standing_emptied : Standing (relink t k e 0 0) k
    standing_emptied =
        record {
          formed = formed_relink t s.formed k e 0 0 s.used le (inl (refl, refl));
          used = relink_used t k e 0 0 k ∙ s.used;
        }

    pub standing_weakened : Standing (weakened t k e) k
    standing_weakened =
        ⊎_elim
        (λ (h : strong t k e ≡ true).
        let f = strong_holds t k e h in
        let j = target_of t k e in
        let q : weakened t k e ≡ relink t k e j (weak_bit t j) = (unfold weakened in rw h) in
        let r : Standing (relink t k e j (weak_bit t j)) k =
        record {
          formed =
              formed_relink t s.formed k e j (weak_bit t j) s.used le
              (inr (s.formed.targets k e s.used le f, holds_target t k e f, unfold weak_bit in omega arith));
          used = relink_used t k e j (weak_bit t j) k ∙ s.used;
        } in
        subst (λ (v : Table). Standing v k) (sym q) r)
        (λ (h : strong t k e ≡ false).
        let q : weakened t k e ≡ t = (unfold weakened in rw h) in
        subst (λ (v : Table). Standing v k) (sym q) s)
        (test (strong t k e))

-- the words now stand for a table in order
pub standing_after : {u v : List ℕ} {t : Table} {k : ℕ} → Becomes u v t → Standing t k → Standing (table_of v) k
standing_after {k = k} b s = subst (λ (x : Table). Standing x k) (sym b.table) s

-- A link, as it is read: there is none, it is weak, or it is strong.
module _ (t : Table) (k e : ℕ) where
  pub weaken_none : target_of t k e ≡ 0 → t ≡ weakened t k e
  unfolding weakened strong holds
  weaken_none z = rw (eq-eqb _ 0 z)

  pub weaken_weak : (link_bit t k e ≡ own_bit t (target_of t k e) → ⊥) → t ≡ weakened t k e
  unfolding weakened
  weaken_weak n = let w = weak_bit_lem t k e n in rw w

  pub weaken_strong : (target_of t k e ≡ 0 → ⊥) → link_bit t k e ≡ own_bit t (target_of t k e) →
      relink t k e (target_of t k e) (1 - link_bit t k e) ≡ weakened t k e
  unfolding weakened weak_bit
  weaken_strong d q = let s = bit_strong t k e (target_holds t k e d) q in rw (s, q)

-- A change made for each marked step, in part: for those below k.
abbrev pub each_round : List Bool → (Table → ℕ → Table) → ℕ → Table → Table
each_round d f i u = cond (marked d i) (f u i) u

module _ (d : List Bool) (f : Table → ℕ → Table) where
  pub each_go : {v w : List ℕ} (k : ℕ) → marked d k ≡ true → Becomes v w (f (table_of v) k) → Becomes v w (each_round d f k (table_of v))
  each_go k m b = rw m b

  pub each_stay : (v : List ℕ) (k : ℕ) → marked d k ≡ false → Becomes v v (each_round d f k (table_of v))
  each_stay v k m = rw m (becomes_same v)

  pub each_done : {u v : List ℕ} (t : Table) (n k : ℕ) → t.capacity ≡ n → k ≡ n → Becomes u v (rounds k (each_round d f) t) →
      Becomes u v (each_doubtful d f t)
  unfolding each_doubtful
  each_done t n k c e a = becomes_done (each_round d f) t k t.capacity (e ∙ sym c) a

-- No candidate is new, or one is.
added_none : (p : ℕ → Bool) (doubt before : List ℕ) (low : ℕ) → ((i : ℕ) → (p i && is_marked doubt i) ≡ false) → Added p doubt before before low low
added_none p doubt before low f =
    record { marks = λ i. let z = f i in rw z; most = omega arith; below = λ i l. refl; size = refl }

added_one : (p : ℕ → Bool) (doubt before : List ℕ) (low mark j : ℕ) → j < length before → mark ≤ low → mark ≤ j →
    ((i : ℕ) → (p i && is_marked doubt i) ≡ eqb j i) → Added p doubt before (set before j 1) low mark
added_one p doubt before low mark j l m n f =
    record {
      marks =
          λ i.
          ⊎_elim
          (λ (q : i ≡ j).
          let z : (p i && is_marked doubt i) ≡ true = f i ∙ eq-eqb j i (sym q) in
          rw (z, q) (get_or-set_same before j 1 0 l))
          (λ d.
          let z : (p i && is_marked doubt i) ≡ false = f i ∙ ne_eqb j i (λ q. d (sym q)) in
          rw z (get_or-set_other before j i 1 0 d))
          (eq_or_ne i j);
      most = m;
      below = λ i h. get_or-set_other before j i 1 0 (λ q. omega arith);
      size = length-set before j 1;
    }

added_more : (p q : ℕ → Bool) (doubt before middle after : List ℕ) (low mark mark' : ℕ) →
    Added p doubt before middle low mark → Added q doubt middle after mark mark' → Added (λ i. p i || q i) doubt before after low mark'
added_more p q doubt before middle after low mark mark' a b =
    record {
      marks = λ i. b.marks i ∙ ap (cond (q i && is_marked doubt i) 1) (a.marks i) ∙ either_one (p i) (q i) (is_marked doubt i) (get_or before i 0);
      most = omega (arith, a.most, b.most);
      below = λ i l. b.below i l ∙ a.below i (omega (arith, b.most));
      size = b.size ∙ a.size;
    }
  where
    either_one : (x y z : Bool) (n : ℕ) → cond (y && z) 1 (cond (x && z) 1 n) ≡ cond ((x || y) && z) 1 n
    either_one true true true n = refl
    either_one true true false n = refl
    either_one true false true n = refl
    either_one true false false n = refl
    either_one false true true n = refl
    either_one false true false n = refl
    either_one false false z n = refl

-- The target j: it is no step, a step that is not marked, or a marked one.
module _ (doubt before : List ℕ) (low j : ℕ) where
  pub wants_nothing : j ≡ 0 → Added (meant j) doubt before before low low
  unfolding meant
  wants_nothing z = added_none (meant j) doubt before low (λ i. rw (eq-eqb j 0 z))

  pub wants_certain : (get_or doubt j 0 ≡ 1 → ⊥) → Added (meant j) doubt before before low low
  unfolding meant is_marked
  wants_certain d =
      added_none (meant j) doubt before low
      (λ i.
      refute _
      (λ h.
      let at : j ≡ i = eqb-true j i (and_right (not (eqb j 0)) _ (and_left (meant j i) _ h)) in
      d (ap (λ (x : ℕ). get_or doubt x 0) at ∙ eqb-true _ 1 (and_right (meant j i) _ h))))

  pub wants_doubtful : (mark : ℕ) → j < length before → mark ≤ low → mark ≤ j → (j ≡ 0 → ⊥) → get_or doubt j 0 ≡ 1 →
      Added (meant j) doubt before (set before j 1) low mark
  unfolding meant is_marked
  wants_doubtful mark l m n d h =
      added_one (meant j) doubt before low mark j l m n
      (λ i.
      same_test _ _
      (λ x. and_right (not (eqb j 0)) _ (and_left (meant j i) _ x))
      (λ x.
      and_intro (and_intro (ap not (ne_eqb j 0 d)) x) (eq-eqb _ 1 (sym (ap (λ (y : ℕ). get_or doubt y 0) (eqb-true j i x)) ∙ h))))

-- The exits of a step, one after the other.
pub added_start : (t : Table) (doubt before : List ℕ) (k low : ℕ) → Added (linked_within 0 t k) doubt before before low low
unfolding linked_within any
added_start t doubt before k low = added_none _ doubt before low (λ i. refl)

pub added_exit : (t : Table) (doubt before middle after : List ℕ) (k e low mark mark' : ℕ) →
    Added (linked_within e t k) doubt before middle low mark → Added (meant (target_of t k e)) doubt middle after mark mark' →
    Added (linked_within (e + 1) t k) doubt before after low mark'
unfolding linked_within any leads holds meant
added_exit t doubt before middle after k e low mark mark' a b =
    rw (add-one e) (added_more (linked_within e t k) (λ j. leads t k e j) doubt before middle after low mark mark' a b)

-- Marks in a list of numbers.
pub marks_at : (n : ℕ) (l : List ℕ) (i : ℕ) → i < n → marked (as_marks n l) i ≡ is_marked l i
unfolding as_marks
marks_at n l i h = get_or_tabulate n (is_marked l) false i h

pub size_marks : (n : ℕ) (l : List ℕ) → size (as_marks n l) n ≡ count n (is_marked l)
unfolding size
size_marks n l = count_ext n _ _ (marks_at n l)
