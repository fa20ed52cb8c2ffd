-- What the search finds. In a table whose counters are exact no strong link leads, where it ends, from a step that is not marked to one that is.
-- Assumes nothing.
--   begin_spans found_spans   the search that begins at step 0: where it begins, and what it ends with
--   up_marked left_kept kept_parent   the marked steps, the counters and the other steps, once nothing is pending
use mathlib.Core.Path.{◌≡◌, refl, ◌∙◌, ap, subst}
use mathlib.Core.Bool.{Bool, true, false, ◌&&◌, not}
use mathlib.Core.Logic.{inl, inr, ⊎_elim}
use mathlib.Core.List.{List}
use Prim.Native.Nat.{ℕ, ◌*◌, ◌<◌}
use native.Mathlib.Omega.{arith}
use lib.ListN.{length, get_or, set, replicate}
use lib.Dec.{eqb}
use Rattle.finite.specs.Below.{all}
use Rattle.finite.proofs.Bools.{and_left, and_right, clash, not_true_false}
use Rattle.finite.proofs.Below.{count_some}
use Rattle.table.specs.Table.{Table, places, exit_places, holder_at, counters, strongly_linked}
use Rattle.table.proofs.Edits.{get_or_zeros}
use Rattle.words.specs.Marks.{is_marked}
use Rattle.withdraw.specs.Search.{slot_at, own_slot, lands, landing, landing_kept, rest, Ranged, Exact, Search, Withdrawn, Spans}
use Rattle.withdraw.proofs.Slots.{lands_alarm, strong_lands, lands_strong, own_slot_above, own_slot_below}
use Rattle.withdraw.proofs.Laws.{AtZero, search_begin, search_mark, mark_here, marked_next}

abbrev pub zeros : List ℕ
zeros = replicate places 0

pub none_marked : (j : ℕ) → is_marked zeros j ≡ false
unfolding is_marked
none_marked j = rw (get_or_zeros places j)

module _ (t : Table) (r : Ranged t) (size : length t.counts ≡ places * counters) where
  pub begin_spans : AtZero t t.counts 0 t.counts zeros (λ q. 0) 0
  begin_spans =
      search_begin t t.counts 0 t.counts zeros 0 size refl (get_or_zeros places) (omega arith) (λ q c. refl) (λ d. absurd (omega arith))
      (λ j c d. absurd (omega arith)) (λ d. absurd (omega arith)) (λ x c p l y. clash y (lands_alarm t r p))

  pub found_spans : (left marks : List ℕ) → Withdrawn t t.counts (set zeros 0 1) left marks (rest (slot_at t) 0 0) → (answer : Bool) →
      answer ≡ (all (places * counters) (λ q. eqb (get_or left q 0) 0) && all places (λ i. eqb (get_or t.used i 0) (get_or marks i 0))) → Spans t answer
  found_spans left marks w answer e =
      record {
        left = left;
        marks = marks;
        search = w.after t.counts 0 (λ q. 0) (search_mark begin_spans);
        root = w.grown 0 (mark_here begin_spans);
        new = λ j m. ⊎_elim (λ o. ⊎_elim (λ z. inl z) (λ u. clash u (none_marked j)) (marked_next begin_spans j o)) (λ p. inr p) (w.new j m);
        answer = e;
      }

module _ (t : Table) (r : Ranged t) (counts : List ℕ) (x : Exact t counts) (spared : ℕ) (left marks : List ℕ)
    (s : Search t counts spared left marks (λ q. 0)) where
  pub up_marked : (i j : ℕ) → i < places → strongly_linked t i j ≡ true → is_marked marks j ≡ true → (own_slot t j ≡ spared → ⊥) →
      (is_marked marks i ≡ true) × (s.ledger.rank i < s.ledger.rank j)
  up_marked i j l h m c =
      let a = strong_lands t i j l h in
      let up = s.ledger.rising x a.0 j a.1 a.3 m c in
      (subst (λ (k : ℕ). is_marked marks k ≡ true) a.2 up.0, subst (λ (k : ℕ). s.ledger.rank k < s.ledger.rank j) a.2 up.1)

  -- what is left of a counter are the links of the steps that are not marked
  pub left_kept : (q : ℕ) → 0 < q → q < places * counters → (q ≡ spared → ⊥) → get_or left q 0 ≡ landing_kept (slot_at t) marks q
  left_kept q d l c = let e = s.ledger.account (inr x) q d l c in let same = x q l in omega arith

  pub kept_parent : (j : ℕ) → 0 < j → j < places → is_marked marks j ≡ false → 0 < landing (slot_at t) (own_slot t j) →
      (i : ℕ) × (is_marked marks i ≡ false) × (strongly_linked t i j ≡ true)
  unfolding landing_kept
  kept_parent j d l m b =
      let q = own_slot t j in
      let low = own_slot_below t r j l in
      let above = own_slot_above t j d in
      let same = x q low in
      let some = s.busy j d l m (omega arith) in
      let c : q ≡ spared → ⊥ = λ e. let z : get_or left q 0 ≡ 0 = ap (λ (y : ℕ). get_or left y 0) e ∙ s.ledger.dry (omega arith) in omega arith in
      let e = left_kept q (omega arith) low c in
      let kept : 0 < landing_kept (slot_at t) marks q = omega arith in
      let a = count_some (exit_places places) (λ p. lands (slot_at t) p q && not (is_marked marks (holder_at p))) kept in (
        holder_at a.0,
        not_true_false _ (and_right (lands (slot_at t) a.0 q) _ a.2),
        lands_strong t r a.0 j (and_left (lands (slot_at t) a.0 q) _ a.2),
      )
