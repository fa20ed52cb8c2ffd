-- Exits cleared in two orders (document 02, W14). Assumes nothing.
--   Exit              an exit of a step, by both numbers; clear_at, its clearing
--   clear_all t xs     the exits xs cleared one after the other; freed_sum, the sum of their freed counts
--   SameExits xs ys   both lists have the same exits
--   SameEnd t xs ys   what both leave of t
--   TwoClearsDemand   of two clearings; SecondDemand, of the second, where each could be the first
use Rattle.std.specs.Prelude.{◌≡◌, true, false, ◌⊎◌, ◌↔◌, ℕ, ◌+◌, ◌<◌}
use mathlib.Core.List.{List, [], ◌∷◌, Memᴰ}
use Rattle.table.specs.Table.{Table, exits_of, in_use, kind_of, content_of, cabin_of, target_of}
use Rattle.table.specs.Answer.{Outcome, refusal_of, second_of}
use Rattle.table.specs.Clear.{clear_refusal, clear_call}
use Rattle.table.specs.Trial.{trial_call}
use Rattle.table.specs.Plan.{plan_of}

-- the number of the step that holds it, and its own
abbrev pub Exit : Type 0
Exit = ℕ × ℕ

abbrev pub clear_at : Table → Exit → Outcome
clear_at t x = clear_call t x.0 x.1

-- each on the table that the one before left, refused or not
unfoldable pub clear_all : Table → List Exit → Table
clear_all t [] = t
clear_all t (x ∷ xs) = clear_all (clear_at t x).table xs

-- "the sum of the freed counts": a refused clearing frees none
unfoldable pub freed_sum : Table → List Exit → ℕ
freed_sum t [] = 0
freed_sum t (x ∷ xs) = let o = clear_at t x in second_of o.answer + freed_sum o.table xs

-- in whatever order, and however often
abbrev pub SameExits : List Exit → List Exit → Type 0
SameExits xs ys = (x : Exit) → Memᴰ x xs ↔ Memᴰ x ys

pub record SameEnd (t : Table) (xs ys : List Exit) : Type 0 where
  -- "the steps in use, targets, contents and cabins at the end are the same"
  pub used : (i : ℕ) → in_use (clear_all t xs) i ≡ in_use (clear_all t ys) i
  pub targets : (i e : ℕ) → in_use (clear_all t xs) i ≡ true → e < exits_of i → target_of (clear_all t xs) i e ≡ target_of (clear_all t ys) i e
  pub kinds : (i : ℕ) → in_use (clear_all t xs) i ≡ true → kind_of (clear_all t xs) i ≡ kind_of (clear_all t ys) i
  pub contents : (i : ℕ) → in_use (clear_all t xs) i ≡ true → content_of (clear_all t xs) i ≡ content_of (clear_all t ys) i
  pub cabins : (i : ℕ) → in_use (clear_all t xs) i ≡ true → cabin_of (clear_all t xs) i ≡ cabin_of (clear_all t ys) i
  -- and with them the whole plain plan; "Strengths may differ."
  pub plan : plan_of (clear_all t xs) ≡ plan_of (clear_all t ys)
  -- so that nobody who calls for help can tell
  pub trials : (limit : ℕ) (results trace : List ℕ) → trial_call (clear_all t xs) limit results trace ≡ trial_call (clear_all t ys) limit results trace
  -- "and so is the sum of the freed counts"
  pub freed : freed_sum t xs ≡ freed_sum t ys

-- the second of two clearings, after that of x
abbrev pub clear_second : Table → Exit → Exit → Outcome
clear_second t x y = clear_at (clear_at t x).table y

-- "Two people clear different exits from any sound table.": x and y
pub record TwoClearsDemand (t : Table) (x y : Exit) : Type 0 where
  -- "Where both clearings are accepted in either order", and where one is refused too
  pub same : SameEnd t (x ∷ y ∷ []) (y ∷ x ∷ [])
  -- "If the first frees the holder of the second exit, the second gets 3."
  pub freed : in_use (clear_at t x).table y.0 ≡ false → refusal_of (clear_second t x y).answer ≡ 3
  -- a second that could have been the first gets nothing else
  pub kept : clear_refusal t y.0 y.1 ≡ 0 → in_use (clear_at t x).table y.0 ≡ true → refusal_of (clear_second t x y).answer ≡ 0
  -- and in one of the two orders, at least, the holder of the second stays
  pub either : clear_refusal t x.0 x.1 ≡ 0 → (in_use (clear_at t x).table y.0 ≡ true) ⊎ (in_use (clear_at t y).table x.0 ≡ true)

-- and where each of the two can be cleared on t
pub record SecondDemand (t : Table) (x y : Exit) : Type 0 where
  -- the second is accepted or gets 3
  pub only : (refusal_of (clear_second t x y).answer ≡ 0) ⊎ (refusal_of (clear_second t x y).answer ≡ 3)
  -- and gets 3 in one order at most
  pub once : (refusal_of (clear_second t x y).answer ≡ 0) ⊎ (refusal_of (clear_second t y x).answer ≡ 0)
