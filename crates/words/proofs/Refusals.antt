-- Refusals of calls on a lent table (document 01, "Reasons for no"): what is asked of the table before all else, and what a refused call and an
-- accepted one leave. Assumes nothing.
--   accepted_sound  a call that is not refused was made on a sound table
--   table_passed    where the table itself is not refused, it is sound
--   past_table      .. and the order is that of what is asked after it
--   table_stopped   where it is refused, that is the refusal of the order
--   refused_answer passed_answer refused_words   a refused call answers its refusal, also one that a `?` passes on, and leaves the words
--   given_answer given_words       one that is not refused answers and leaves what it should
use mathlib.Core.Path.{◌≡◌, sym, ◌∙◌, ap}
use mathlib.Core.Bool.{Bool, true, false}
use mathlib.Core.Logic.{⊎_elim}
use mathlib.Core.List.{List, [], ◌++◌}
use Prim.Native.Nat.{ℕ}
use native.Mathlib.Omega.{arith}
use lib.ListN.{length}
use Rattle.std.specs.Prelude.{Result, IsErrAnd}
use Rattle.std.proofs.lemmas.Result.{err_from_is_err_and}
use Rattle.finite.proofs.Bools.{test}
use Rattle.table.specs.Table.{Table}
use Rattle.table.specs.declared.Refusal.{Refusal}
use Rattle.table.specs.Said.{Answer, Refused}
use Rattle.table.specs.Sound.{Sound, sound}
use Rattle.table.specs.Answer.{Outcome, number, answer_of, first, unless}
use Rattle.table.specs.Calls.{table_tests}
use Rattle.table.proofs.Sound.{test_sound}
use Rattle.table.proofs.Calls.{number_not_zero, past_sound, unless_zero, unless_refused}
use Rattle.words.specs.Words.{words, table_of, words_of, Becomes}
use Rattle.words.proofs.Laws.{words_table, became}

pub accepted_sound : (t : Table) (xs : List (Bool × ℕ)) → first (table_tests t ++ xs) ≡ 0 → Sound t
unfolding first
accepted_sound t xs z =
    ⊎_elim (λ h. test_sound t h)
    (λ (h : sound t ≡ false). let q : ◌≡◌ {A = ℕ} 1 0 = rw h at z in absurd (omega arith))
    (test (sound t))

pub table_passed : (t : Table) → first (table_tests t) ≡ 0 → Sound t
table_passed t z = accepted_sound t [] z

pub past_table : (t : Table) (xs : List (Bool × ℕ)) → first (table_tests t) ≡ 0 → first (table_tests t ++ xs) ≡ first xs
past_table t xs z = past_sound (table_passed t z) xs

pub table_stopped : (t : Table) (xs : List (Bool × ℕ)) → (first (table_tests t) ≡ 0 → ⊥) → first (table_tests t) ≡ first (table_tests t ++ xs)
unfolding first
table_stopped t xs d =
    ⊎_elim (λ (h : sound t ≡ true). absurd (d (rw h))) (λ (h : sound t ≡ false). rw h) (test (sound t))

-- the code found why the call is refused, and the definition says n
module _ (why : Refusal) {n : ℕ} (e : number why ≡ n) (o : Outcome) where
  pub refused_answer : (t : Table) → Refused (number why) ≡ (unless n t o).answer
  refused_answer t =
      ap Refused e ∙ sym (ap (λ (x : Outcome). x.answer) (unless_refused n t o (λ z. number_not_zero why (e ∙ z))))

  pub passed_answer : (r : Result (ℕ × ℕ) Refusal) → IsErrAnd r (λ y. y ≡ why) → (t : Table) → answer_of r ≡ (unless n t o).answer
  passed_answer r h t = let p = err_from_is_err_and r h in rw (p.1, p.2) (refused_answer t)

  pub refused_words : (w : List ℕ) → length w ≡ words → w ≡ words_of (unless n (table_of w) o).table
  refused_words w l =
      sym (words_table w l) ∙
      sym (ap (λ (x : Outcome). words_of x.table) (unless_refused n (table_of w) o (λ z. number_not_zero why (e ∙ z))))

-- the code found no refusal, and the definition says n
module _ {n : ℕ} (e : 0 ≡ n) (o : Outcome) where
  pub given_answer : (t : Table) (a : Answer) → a ≡ o.answer → a ≡ (unless n t o).answer
  given_answer t a q = q ∙ sym (ap (λ (x : Outcome). x.answer) (unless_zero n t o (sym e)))

  pub given_words : (w v : List ℕ) → length w ≡ words → Becomes w v o.table → v ≡ words_of (unless n (table_of w) o).table
  given_words w v l b = became w v o.table b l ∙ sym (ap (λ (x : Outcome). words_of x.table) (unless_zero n (table_of w) o (sym e)))
