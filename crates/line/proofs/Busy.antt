-- The promise on a list in which a cabin is served by the sixteenth "next", while it and others call again and again and calls are refused. Assumes nothing.
use mathlib.Core.Path.{◌≡◌, refl, ◌∙◌, ap}
use mathlib.Core.Bool.{Bool, true, false, ◌&&◌, not}
use mathlib.Core.List.{List, [], ◌∷◌, flatten}
use Prim.Native.Nat.{ℕ, zero, suc, ◌<◌}
use native.Mathlib.Omega.{arith}
use lib.ListN.{length, get_or}
use lib.Dec.{eqb}
use borrow.Author.Tests.{eq-eqb}
use Rattle.finite.specs.Below.{any, find}
use Rattle.finite.proofs.Bools.{and_left, and_right, clash}
use Rattle.table.specs.Answer.{first}
use Rattle.line.specs.Line.{LineCall, fresh, raise, withdraw, next, waits, fresh_dispatcher, around, next_cabin, with_alarm, line_row, line_call, served_in, served_by}
use Rattle.line.specs.Examples.{everyone, busy_calls}
use Rattle.line.proofs.Uses.{ServedClaim}

-- a test for a list in which cabin c does not withdraw: that, and that nothing is made fresh, is all that the promise asks of it
keeps : ℕ → LineCall → Bool
keeps c fresh = false
keeps c (raise b) = true
keeps c (withdraw b) = not (eqb b c)
keeps c next = true

staying : ℕ → List LineCall → Bool
staying c [] = true
staying c (k ∷ ks) = keeps c k && staying c ks

test_staying : (c : ℕ) (ks : List LineCall) → staying c ks ≡ true → (n : ℕ) → (get_or ks n next ≡ withdraw c → ⊥) × (get_or ks n next ≡ fresh → ⊥)
unfolding keeps staying
test_staying c ks t n =
    let here = each ks n t in
    ((λ q. clash here (ap (keeps c) q ∙ ap not (eq-eqb c c refl))), λ q. clash here (ap (keeps c) q))
  where
    each : (ks : List LineCall) (n : ℕ) → staying c ks ≡ true → keeps c (get_or ks n next) ≡ true
    each [] n t = refl
    each (k ∷ ks) zero t = and_left (keeps c k) (staying c ks) t
    each (k ∷ ks) (suc n) t = each ks n (and_right (keeps c k) (staying c ks) t)

busy_length : length (served_by everyone busy_calls) ≡ 16
unfolding flatten everyone busy_calls any find first waits fresh_dispatcher around next_cabin with_alarm line_row line_call served_in served_by
busy_length = refl

busy_stays : staying 15 busy_calls ≡ true
unfolding flatten busy_calls keeps staying
busy_stays = refl

-- the promise, used on the busy calls
pub busy_served : ServedClaim → (n : ℕ) × (n < 16) × (get_or (served_by everyone busy_calls) n 16 ≡ 15)
busy_served served =
    served everyone 15 busy_calls (omega arith) (unfold everyone waits in refl) (test_staying 15 busy_calls busy_stays) (rw busy_length (omega arith))
