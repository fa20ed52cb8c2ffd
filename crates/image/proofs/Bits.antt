-- The bits of a step record: five bits as one number, each read back, and the number as the sum of its bits. Assumes nothing.
use mathlib.Core.Path.{◌≡◌}
use mathlib.Core.Bool.{cond}
use mathlib.Core.Logic.{⊎_elim}
use Prim.Native.Nat.{ℕ, zero, suc, ◌+◌, ◌*◌, ◌/◌, ◌%◌, ◌^◌, ◌≤◌, ◌<◌}
use native.Mathlib.Omega.{arith}
use lib.Dec.{ltb}
use borrow.Author.Tests.{ltb-true, ltb-false}
use Rattle.finite.proofs.Bools.{test}
use Rattle.table.specs.Table.{Table, exits, exits_of, own_bit, link_bit}
use Rattle.table.proofs.Places.{own_exit}

abbrev pub five_bits : (ℕ → ℕ) → ℕ
five_bits d = d 0 + 2 * d 1 + 4 * d 2 + 8 * d 3 + 16 * d 4

pub bits_read : (d : ℕ → ℕ) → ((e : ℕ) → e < 5 → d e < 2) → (e : ℕ) → e < 5 → five_bits d / 2 ^ e % 2 ≡ d e
bits_read d b e h = at e h (b 0 (omega arith)) (b 1 (omega arith)) (b 2 (omega arith)) (b 3 (omega arith)) (b 4 (omega arith))
  where
    at : (e : ℕ) → e < 5 → d 0 < 2 → d 1 < 2 → d 2 < 2 → d 3 < 2 → d 4 < 2 → five_bits d / 2 ^ e % 2 ≡ d e
    at zero h b0 b1 b2 b3 b4 = omega arith
    at (suc zero) h b0 b1 b2 b3 b4 = omega arith
    at (suc (suc zero)) h b0 b1 b2 b3 b4 = omega arith
    at (suc (suc (suc zero))) h b0 b1 b2 b3 b4 = omega arith
    at (suc (suc (suc (suc zero)))) h b0 b1 b2 b3 b4 = omega arith
    at (suc (suc (suc (suc (suc e))))) h b0 b1 b2 b3 b4 = absurd (omega arith)

pub bits_ext : (c d : ℕ → ℕ) → ((e : ℕ) → e < 5 → c e ≡ d e) → five_bits c ≡ five_bits d
bits_ext c d h =
    omega (arith, h 0 (omega arith), h 1 (omega arith), h 2 (omega arith), h 3 (omega arith), h 4 (omega arith))

pub bits_most : (d : ℕ → ℕ) → ((e : ℕ) → e < 5 → d e < 2) → five_bits d ≤ 31
bits_most d b =
    omega (arith, b 0 (omega arith), b 1 (omega arith), b 2 (omega arith), b 3 (omega arith), b 4 (omega arith))

pub bits_sum : (n : ℕ) → n ≤ 31 → five_bits (λ e. n / 2 ^ e % 2) ≡ n
bits_sum n h =
    halved (λ e. n / 2 ^ e % 2) n (n / 2) (n / 4) (n / 8) (omega arith) (omega arith) (omega arith) (omega arith)
  where
    halved : (d : ℕ → ℕ) (n q r s : ℕ) → n ≡ d 0 + 2 * q → q ≡ d 1 + 2 * r → r ≡ d 2 + 2 * s → s ≡ d 3 + 2 * d 4 → five_bits d ≡ n
    halved d n q r s a b c e = omega arith

-- bit e of step i of a table: those of its exits, then its own
abbrev pub bit_at : Table → ℕ → ℕ → ℕ
bit_at t i e = cond (ltb e exits) (link_bit t i e) (own_bit t i)

pub bit_cases : (P : ℕ → Type 0) (t : Table) (i e : ℕ) → (e < exits_of i → P (link_bit t i e)) → (exits ≤ e → P (own_bit t i)) → P (bit_at t i e)
bit_cases P t i e f g =
    ⊎_elim (λ x. rw x (f (own_exit i e (ltb-true e exits x)))) (λ x. rw x (g (ltb-false e exits x))) (test (ltb e exits))
