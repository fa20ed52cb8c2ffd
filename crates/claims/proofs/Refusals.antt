-- Both endings of a call on a lent table, for any number that a refusal may have (document 01, "Reasons for no"); `words/proofs/Refusals` has them for
-- the refusals that the code names. Assumes nothing.
--   refused_answer refused_words   a refused call answers its refusal and leaves the words
--   given_answer given_words       one that is not refused answers and leaves what it should
use mathlib.Core.Path.{◌≡◌, sym, ◌∙◌, ap}
use mathlib.Core.List.{List}
use Prim.Native.Nat.{ℕ}
use lib.ListN.{length}
use Rattle.table.specs.Said.{Answer, Refused}
use Rattle.table.specs.Table.{Table}
use Rattle.table.specs.Answer.{Outcome, unless}
use Rattle.table.proofs.Calls.{unless_zero, unless_refused}
use Rattle.words.specs.Words.{words, table_of, words_of, Becomes}
use Rattle.words.proofs.Laws.{words_table, became}

-- the refusal is r, and the definition says n
module _ {r n : ℕ} (e : r ≡ n) (o : Outcome) where
  pub refused_answer : (t : Table) → (r ≡ 0 → ⊥) → Refused r ≡ (unless n t o).answer
  refused_answer t d = ap Refused e ∙ sym (ap (λ (x : Outcome). x.answer) (unless_refused n t o (λ z. d (e ∙ z))))

  pub refused_words : (w : List ℕ) → length w ≡ words → (r ≡ 0 → ⊥) → w ≡ words_of (unless n (table_of w) o).table
  refused_words w l d =
      sym (words_table w l) ∙ sym (ap (λ (x : Outcome). words_of x.table) (unless_refused n (table_of w) o (λ z. d (e ∙ z))))

  pub given_answer : (t : Table) (a : Answer) → r ≡ 0 → a ≡ o.answer → a ≡ (unless n t o).answer
  given_answer t a z q = q ∙ sym (ap (λ (x : Outcome). x.answer) (unless_zero n t o (sym e ∙ z)))

  pub given_words : (w v : List ℕ) → length w ≡ words → r ≡ 0 → Becomes w v o.table → v ≡ words_of (unless n (table_of w) o).table
  given_words w v l z b =
      became w v o.table b l ∙ sym (ap (λ (x : Outcome). words_of x.table) (unless_zero n (table_of w) o (sym e ∙ z)))
