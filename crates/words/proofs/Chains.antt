-- What methods of std find over the numbers below n, in the words of `finite`. Assumes nothing.
--   all_range          `all` of an iterator over a range
--   from_fn_tabulate   an array that `from_fn` made by calls that leave their closure as it was
use mathlib.Core.Path.{◌≡◌, sym, ◌∙◌, subst}
use mathlib.Core.Bool.{Bool, true, false}
use mathlib.Core.Logic.{⊎_elim}
use mathlib.Core.List.{List}
use Prim.Native.Nat.{ℕ, zero, suc, ◌+◌, ◌≤◌, ◌<◌}
use native.Mathlib.Omega.{arith}
use lib.ListN.{length, get_or}
use denote.Param.Members.{Mut}
use Rattle.std.specs.Array.{IsFromFnResult, IsFromFnResultFrom}
use Rattle.std.specs.Bool.{MatchBool}
use Rattle.std.specs.Fn.{Called}
use Rattle.std.specs.List.{AllWithin, HoldsAt, range_with_len}
use Rattle.std.proofs.lemmas.List.FromFn.{length-range_with_len, get_or-range_with_len}
use Rattle.finite.specs.Below.{all, tabulate}
use Rattle.finite.proofs.Below.{eq_or_ne, all_intro}
use Rattle.finite.proofs.Loops.{all_fails}
use Rattle.finite.proofs.Select.{tabulate_entries}

-- what `all` of an iterator finds over the range of the numbers below n
pub all_range : (r : Bool) (n : ℕ) (p : ℕ → Bool) →
    MatchBool r (AllWithin (λ k. p k ≡ true) (range_with_len 0 n) 0 (length (range_with_len 0 n)))
    ((k : ℕ) × (k < length (range_with_len 0 n)) × HoldsAt (λ k. p k ≡ false) (range_with_len 0 n) k) →
    r ≡ all n p
all_range true n p h =
    let z = length-range_with_len 0 n in
    sym
    (all_intro n p
    (λ k l.
    let e : get_or (range_with_len 0 n) k 0 ≡ k = get_or-range_with_len 0 n k 0 l ∙ omega arith in
    subst (λ (j : ℕ). p j ≡ true) e (h k 0 (omega arith) (omega arith))))
all_range false n p h =
    let z = length-range_with_len 0 n in
    let l : h.0 < n = omega arith in
    let e : get_or (range_with_len 0 n) h.0 0 ≡ h.0 = get_or-range_with_len 0 n h.0 0 l ∙ omega arith in
    sym (all_fails n p h.0 l (subst (λ (j : ℕ). p j ≡ false) e (h.2 0)))

-- an array of n numbers that `from_fn` made by calls that leave their closure as it was: call k gives h k
module _ {F : Type 0} (g : Mut F (ℕ × Unit {0}) ℕ) (f : F) (n : ℕ) (h : ℕ → ℕ)
    (calls : (k y : ℕ) (q : F) → k < n → Called g f (k, tt {0}) y q → (q ≡ f) × (y ≡ h k)) where
  made_at : (ys : List ℕ) (m i k : ℕ) → IsFromFnResultFrom g f ys i m → i + m ≤ n → i ≤ k → k < i + m → get_or ys k 0 ≡ h k
  made_at ys zero i k r w a b = absurd (omega arith)
  made_at ys (suc m) i k r w a b =
      let here = calls i r.1 r.0 (omega arith) r.3 in
      ⊎_elim (λ (e : k ≡ i). rw e (r.2.1 0 ∙ here.1))
      (λ (d : k ≡ i → ⊥).
      made_at ys m (i + 1) k (subst (λ (p : F). IsFromFnResultFrom g p ys (i + 1) m) here.0 r.4) (omega arith) (omega arith) (omega arith))
      (eq_or_ne k i)

  pub from_fn_tabulate : (ys : List ℕ) → IsFromFnResult g f ys n → ys ≡ tabulate n h
  from_fn_tabulate ys r = sym (tabulate_entries n h ys 0 r.long (λ k l. sym (made_at ys n 0 k r.each (omega arith) (omega arith) (omega arith))))
