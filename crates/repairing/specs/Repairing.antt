-- What the rules of clearing work on: a table, and marks in a list of numbers. Assumes nothing.
--   as_marks n l         the marks of l below n
--   under_repair t l     the table t under repair, with the marks below its capacity
--   wanted_in n links l i   rule 3: the marked step i has a link from a step below n that is not marked
--   Standing t k        the table is in order, and step k is in use in it
--   Repairable t n l    the table, of capacity n, is in order, and the marked steps are in use in it
--   Added p ..          the marked steps that pass p have become candidates, and none below the low mark
--   Candidates n links l w low   the list w has the candidates, the marked steps that rule 3 takes, and none is below `low`
--   Settling t u n l w  the repair of u, with its first candidates w, can be followed on t
use Rattle.std.specs.Prelude.{◌≡◌, Bool, true, ◌&&◌, not, cond, List, ℕ, ◌<◌, ◌≤◌, length, get_or}
use Rattle.finite.specs.Below.{any, one, tabulate}
use Rattle.table.specs.Table.{Table, places, in_use, linked}
use Rattle.table.specs.Sound.{Formed}
use Rattle.table.specs.Clear.{Repair}
use Rattle.words.specs.Marks.{is_marked}

unfoldable pub as_marks : ℕ → List ℕ → List Bool
as_marks n l = tabulate n (is_marked l)

abbrev pub under_repair : Table → List ℕ → Repair
under_repair t l = record { table = t; doubt = as_marks t.capacity l }

unfoldable pub wanted_in : ℕ → (ℕ → ℕ → Bool) → List ℕ → ℕ → Bool
wanted_in n links l i = is_marked l i && any n (λ k. not (is_marked l k) && links k i)

pub record Standing (t : Table) (k : ℕ) : Type 0 where
  pub formed : Formed t
  pub used : in_use t k ≡ true

pub record Repairable (t : Table) (n : ℕ) (l : List ℕ) : Type 0 where
  pub capacity : t.capacity ≡ n
  pub formed : Formed t
  pub doubted : (i : ℕ) → i < n → is_marked l i ≡ true → in_use t i ≡ true

pub record Added (p : ℕ → Bool) (l before after : List ℕ) (low mark : ℕ) : Type 0 where
  pub marks : (i : ℕ) → get_or after i 0 ≡ cond (p i && is_marked l i) 1 (get_or before i 0)
  pub most : mark ≤ low
  pub below : (i : ℕ) → i < mark → get_or after i 0 ≡ get_or before i 0
  pub size : length after ≡ length before

pub record Candidates (n : ℕ) (links : ℕ → ℕ → Bool) (l wants : List ℕ) (low : ℕ) : Type 0 where
  pub size : length wants ≡ places
  pub marks : (i : ℕ) → i < n → get_or wants i 0 ≡ one (wanted_in n links l i)
  pub none : (i : ℕ) → i < low → get_or wants i 0 ≡ 0

-- in both tables, each marked step has the same links
pub record Settling (t u : Table) (n : ℕ) (l wants : List ℕ) : Type 0 where
  pub able : Repairable u n l
  pub links : (k i : ℕ) → is_marked l k ≡ true → linked t k i ≡ linked u k i
  pub candidates : Candidates n (linked u) l wants 0
