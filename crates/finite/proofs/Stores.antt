-- A run of stores into a list of numbers, read back. Assumes nothing.
--   sets_outside sets_inside   what stands outside of the run, and inside of it
--   four_at                    four entries, by number
use mathlib.Core.Path.{◌≡◌, refl, ◌∙◌}
use mathlib.Core.Logic.{◌⊎◌, inl, inr, ⊎_elim}
use mathlib.Core.List.{List, [], ◌∷◌}
use Prim.Native.Nat.{ℕ, zero, suc, ◌+◌, ◌≤◌, ◌<◌}
use native.Mathlib.Nat.{not-suc-le-zero, le_of_suc-le-suc}
use native.Mathlib.Omega.{arith}
use lib.ListN.{length, get_or, set, length-set}
use lib.Seq.{sets, get_or-set_same, get_or-set_other}

pub sets_outside : (vs l : List ℕ) (q p : ℕ) → (p < q) ⊎ (q + length vs ≤ p) → get_or (sets l q vs) p 0 ≡ get_or l p 0
sets_outside [] l q p h = refl
sets_outside (v ∷ vs) l q p h =
    sets_outside vs (set l q v) (suc q) p (⊎_elim (λ a. inl (omega arith)) (λ a. inr (omega arith)) h)
    ∙ get_or-set_other l q p v 0 (λ e. ⊎_elim (λ a. omega arith) (λ a. omega arith) h)

pub sets_inside : (vs l : List ℕ) (q e : ℕ) → e < length vs → q + length vs ≤ length l → get_or (sets l q vs) (q + e) 0 ≡ get_or vs e 0
sets_inside [] l q e h n = absurd (not-suc-le-zero h)
sets_inside (v ∷ vs) l q zero h n =
    let z : q + 0 ≡ q = omega arith in
    rw z (sets_outside vs (set l q v) (suc q) q (inl (omega arith)) ∙ get_or-set_same l q v 0 (omega arith))
sets_inside (v ∷ vs) l q (suc e) h n =
    let z : q + suc e ≡ suc q + e = omega arith in
    let m = length-set l q v in
    rw z (sets_inside vs (set l q v) (suc q) e (le_of_suc-le-suc h) (omega arith))

pub four_at : (g : ℕ → ℕ) (e : ℕ) → e < 4 → get_or (g 0 ∷ g 1 ∷ g 2 ∷ g 3 ∷ []) e 0 ≡ g e
four_at g zero h = refl
four_at g (suc zero) h = refl
four_at g (suc (suc zero)) h = refl
four_at g (suc (suc (suc zero))) h = refl
four_at g (suc (suc (suc (suc e)))) h = absurd (omega arith)
