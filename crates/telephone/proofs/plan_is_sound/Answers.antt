-- `telephone::plan_is_sound` meets its contract: 1 where the soundness test holds, else 0. Assumes nothing.
use mathlib.Core.Path.{◌≡◌, sym, ◌∙◌, ap}
use mathlib.Core.Bool.{Bool, true, false, cond}
use Prim.Native.Nat.{ℕ}
use Rattle.telephone.proofs.plan_is_sound.Goals as goal

number : {a b : Bool} → a ≡ b → cond {A = ℕ} a 1 0 ≡ cond {A = ℕ} b 1 0
number same = ap (λ (x : Bool). cond {A = ℕ} x 1 0) same

pub returns-then-is_sound : goal.returns-then-is_sound
returns-then-is_sound c = number {a = true} (sym c.if-is_sound.true ∙ c.is_sound.ensures)

pub returns-else-is_sound : goal.returns-else-is_sound
returns-else-is_sound c = number {a = false} (sym c.if-is_sound.false ∙ c.is_sound.ensures)
