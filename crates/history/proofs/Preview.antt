-- What a preview of a clearing says on a sound table, and when it is refused (document 02, W8). Assumes nothing.
use mathlib.Core.Path.{◌≡◌, refl, sym, ◌∙◌, ap, subst}
use mathlib.Core.Bool.{true, false, not}
use mathlib.Core.Logic.{◌↔◌}
use mathlib.Core.List.{List, ◌++◌}
use Prim.Native.Nat.{ℕ}
use native.Mathlib.Omega.{arith}
use lib.ListN.{length, drop}
use borrow.Author.Tests.{eq-eqb, ne_eqb, lt-ltb, le-ltb}
use Rattle.finite.proofs.Bools.{and_intro, and_left, and_right, clash, refute, not_true_false}
use Rattle.finite.specs.Reach.{Chain}
use Rattle.table.specs.Said.{Given}
use Rattle.table.specs.Table.{Table, in_use, linked}
use Rattle.table.specs.Sound.{Sound}
use Rattle.table.specs.Answer.{Outcome, second_of}
use Rattle.table.specs.Clear.{emptied, cleared, clear_refusal, clear_call}
use Rattle.table.specs.Preview.{is_freed, would_go, preview_refusal, preview_call}
use Rattle.table.proofs.Formed.{formed_below}
use Rattle.table.proofs.Calls.{clear_made, clear_refusal_given, clear_sound, clear_fits, clear_cleared}
use Rattle.table.proofs.Preview.{preview_order, preview_made, preview_refusal_given, preview_accepted, freed_counted, go_length, go_fits}
use Rattle.history.specs.History.{row, run, table_after}
use Rattle.history.specs.Demands.{Among, ListDemand, PreviewDemand, PreviewRefusalDemand}
use Rattle.history.proofs.Demand2.{clear_demand}
use Rattle.history.proofs.Listing.{listed_among, listed}

module _ (t : Table) (i e : ℕ) (buffer : List ℕ) (z : preview_refusal t i e (length buffer) ≡ 0) where
  c : clear_refusal t i e ≡ 0
  c = (preview_accepted t i e buffer z).0

  s : Sound t
  s = clear_sound t i e c

  abbrev v : Table
  v = (cleared t i e).table

  abbrev n : ℕ
  n = second_of (cleared t i e).answer

  abbrev numbers : List ℕ
  numbers = would_go t i e

  abbrev out : List ℕ
  out = numbers ++ drop (length numbers) buffer

  long : length numbers ≡ n
  long = go_length t i e s (clear_fits t i e c)

  -- the numbers are those of the steps freed
  freed_listed : (k : ℕ) → Among n out k ↔ (is_freed t v k ≡ true)
  unfolding would_go
  freed_listed k =
      subst (λ (m : ℕ). Among m out k ↔ (is_freed t v k ≡ true)) long
      (listed_among t.capacity (is_freed t v) buffer (λ j y. formed_below s.formed j (unfold is_freed in and_left (in_use t j) _ y)) k)

  gone : (k : ℕ) → (is_freed t v k ≡ true) ↔ ((in_use t k ≡ true) × (in_use v k ≡ false))
  unfolding is_freed
  gone k = ((λ y. (and_left (in_use t k) _ y, not_true_false _ (and_right (in_use t k) _ y))), λ y. and_intro y.0 (ap not y.1))

  freed_list : ListDemand n buffer out
  unfolding would_go
  freed_list =
      let counted = freed_counted t i e s (clear_fits t i e c) in
      let fits = go_fits t i e s (clear_fits t i e c) in
      let room = (preview_accepted t i e buffer z).1 in
      subst (λ (m : ℕ). ListDemand m buffer out) long (listed t.capacity (is_freed t v) buffer s.formed.most (omega arith))

  pub preview_demand : PreviewDemand t i e buffer (preview_call t i e buffer)
  unfolding table_after run row
  preview_demand =
      let made = clear_made t i e c in
      let r = clear_cleared s i e (clear_fits t i e c) in
      let second : n ≡ r.1 = ap second_of r.2 ∙ (unfold second_of in refl) in
      let same : (cleared t i e).answer ≡ Given r.0 n = r.2 ∙ ap (Given r.0) (sym second) in
      let after : (k : ℕ) → in_use (clear_call t i e).table k ≡ in_use v k = λ k. ap (λ (o : Outcome). in_use o.table k) made in
      rw (preview_made t i e buffer z)
      (record {
        untouched = refl;
        doubts = r.0;
        freed = n;
        answer = same;
        next = ap (λ (o : Outcome). o.answer) made ∙ same;
        just = λ k. (
          (λ x. let y = (gone k).0 ((freed_listed k).0 x) in (y.0, after k ∙ y.1)),
          λ y. (freed_listed k).1 ((gone k).1 (y.0, sym (after k) ∙ y.1)),
        );
        cut = cut;
        list = freed_list;
      })
    where
      cut : (k : ℕ) → Among n out k ↔ ((in_use t k ≡ true) × ((a : ℕ) → Chain (linked (emptied t i e)) 0 k a → ⊥))
      cut k =
          let d = (clear_demand t s i e c).kept k in
          let kept : (in_use v k ≡ true) ↔ ((a : ℕ) × Chain (linked (emptied t i e)) 0 k a) = rw (clear_made t i e c) at d in (
            (λ x. let y = (gone k).0 ((freed_listed k).0 x) in (y.0, λ a w. clash (kept.1 (a, w)) y.1)),
            λ y. (freed_listed k).1 ((gone k).1 (y.0, refute _ (λ h. let w = kept.0 h in y.1 w.0 w.1))),
          )

pub preview_refusals : (t : Table) (i e : ℕ) (buffer : List ℕ) → PreviewRefusalDemand t i e buffer (preview_call t i e buffer)
preview_refusals t i e buffer =
    let given = preview_refusal_given t i e buffer ∙ preview_order t i e buffer in
    let clears = clear_refusal_given t i e in
    record {
      first = λ d. given ∙ rw (ne_eqb (clear_refusal t i e) 0 (λ z. d (clears ∙ z))) (sym clears);
      short = λ z l. given ∙ rw (eq-eqb (clear_refusal t i e) 0 (sym clears ∙ z), lt-ltb (length buffer) 127 l);
      room = λ z l. given ∙ rw (eq-eqb (clear_refusal t i e) 0 (sym clears ∙ z), le-ltb (length buffer) 127 l);
    }
