-- Words that become those of another table, at once and round by round. Assumes nothing.
--   becomes_same becomes_then   nothing is done, or one thing after the other
--   becomes_none becomes_next becomes_done   work that is repeated: at the start, each time round, at the end
use mathlib.Core.Path.{◌≡◌, refl, sym, ◌∙◌, ap, subst}
use mathlib.Core.List.{List}
use Prim.Native.Nat.{ℕ, ◌+◌}
use Rattle.finite.specs.Below.{rounds}
use Rattle.finite.proofs.Loops.{rounds_none, rounds_next, rounds_done}
use Rattle.table.specs.Table.{Table}
use Rattle.words.specs.Words.{table_of, Becomes}

pub becomes_same : (w : List ℕ) → Becomes w w (table_of w)
becomes_same w = record { table = refl; size = refl }

pub becomes_then : (f : Table → Table) {u v w : List ℕ} {t : Table} → Becomes u v t → Becomes v w (f (table_of v)) → Becomes u w (f t)
becomes_then f a b = record { table = b.table ∙ ap f a.table; size = b.size ∙ a.size }

module _ (f : ℕ → Table → Table) where
  pub becomes_none : (w : List ℕ) → Becomes w w (rounds 0 f (table_of w))
  becomes_none w = record { table = rounds_none f (table_of w); size = refl }

  pub becomes_next : {u v w : List ℕ} {k : ℕ} → Becomes u v (rounds k f (table_of u)) → Becomes v w (f k (table_of v)) →
      Becomes u w (rounds (k + 1) f (table_of u))
  becomes_next {u} {k = k} a b = subst (Becomes u _) (sym (rounds_next f (table_of u) k)) (becomes_then (f k) a b)

  pub becomes_done : {u v : List ℕ} (t : Table) (k n : ℕ) → k ≡ n → Becomes u v (rounds k f t) → Becomes u v (rounds n f t)
  becomes_done t k n e a = record { table = rounds_done f t _ k n e a.table; size = a.size }
