-- Two lists of numbers compared entry by entry. Assumes nothing.
--   agree xs ys k    entry k is the same in both
--   same_agree       lists of n entries are the same exactly where all entries are
--   same_flip        which of two lists comes first does not matter
--   pointwise_same record_same   the test of `==` on slices and arrays, and on step records, is that of sameness
use mathlib.Core.Path.{◌≡◌, refl, sym, ap}
use mathlib.Core.Bool.{Bool, true, false, ◌&&◌}
use mathlib.Core.List.{List, [], ◌∷◌}
use Prim.Native.Nat.{ℕ}
use lib.ListN.{length, get_or}
use lib.Dec.{eqb}
use borrow.Author.Tests.{eqb-true, eq-eqb}
use Rattle.std.specs.Cmp.Lexicographic.{pointwise}
use Rattle.finite.specs.Below.{all, same}
use Rattle.finite.proofs.Bools.{same_test}
use Rattle.finite.proofs.Below.{all_at, all_intro}
use Rattle.finite.proofs.Select.{same_true, same_lists}
use Rattle.words.proofs.Fields.{list_ext}
use Rattle.image.specs.Image.{edition2}
use Rattle.records.specs.declared.StepRecord.{StepRecord}
use Rattle.records.specs.Records.{added, record_fields}

abbrev pub agree : List ℕ → List ℕ → ℕ → Bool
agree xs ys k = eqb (get_or xs k 0) (get_or ys k 0)

pub same_agree : (n : ℕ) (xs ys : List ℕ) → length xs ≡ n → length ys ≡ n → all n (agree xs ys) ≡ same xs ys
same_agree n xs ys a b =
    same_test (all n (agree xs ys)) (same xs ys)
    (λ t. same_lists (list_ext n xs ys a b (λ k l. eqb-true _ _ (all_at n (agree xs ys) t k l))))
    (λ t. all_intro n (agree xs ys) (λ k l. eq-eqb _ _ (ap (λ (zs : List ℕ). get_or zs k 0) (same_true xs ys t))))

pub pointwise_same : (xs ys : List ℕ) → pointwise eqb xs ys ≡ same xs ys
unfolding same
pointwise_same [] [] = refl
pointwise_same [] (y ∷ ys) = refl
pointwise_same (x ∷ xs) [] = refl
pointwise_same (x ∷ xs) (y ∷ ys) = ap (λ (b : Bool). eqb x y && b) (pointwise_same xs ys)

pub same_flip : (xs ys : List ℕ) → same xs ys ≡ same ys xs
same_flip xs ys =
    same_test (same xs ys) (same ys xs) (λ t. same_lists (sym (same_true xs ys t))) (λ t. same_lists (sym (same_true ys xs t)))

and_true : (b : Bool) → (b && true) ≡ b
and_true true = refl
and_true false = refl

pub record_same : (a b : StepRecord) →
    (eqb a.number b.number &&
    (eqb a.kind b.kind &&
    (eqb a.content b.content &&
    (eqb a.bits b.bits &&
    (eqb a.first b.first && (eqb a.second b.second && (eqb a.third b.third && (eqb a.fourth b.fourth && eqb a.cabin b.cabin)))))))) ≡
    same (record_fields edition2 a) (record_fields edition2 b)
unfolding same record_fields added
record_same a b = rw (and_true (eqb a.cabin b.cabin))
