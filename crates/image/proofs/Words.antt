-- Words and records, written and read back: a record that stands behind any bytes has its length, its kind and its fields. Assumes nothing.
use mathlib.Core.Path.{◌≡◌, refl, ◌∙◌, ap}
use mathlib.Core.Bool.{true}
use mathlib.Core.List.{List, [], ◌∷◌, ◌++◌}
use Prim.Native.Nat.{ℕ, zero, suc, ◌+◌, ◌*◌, ◌<◌}
use native.Mathlib.Nat.{not-suc-le-zero, le_of_suc-le-suc}
use native.Mathlib.Omega.{arith}
use lib.ListN.{length, get_or}
use lib.Seq.{get_or-append-add}
use borrow.Author.Tests.{eq-eqb}
use Rattle.finite.proofs.Bools.{and_intro}
use Rattle.image.specs.Image.{Edition, header_field_count, step_field_count, image_size, word, word_at, words, record_size, record_bytes, field_at, record_at}

-- the sizes of an edition's records
abbrev pub header_size : Edition → ℕ
header_size v = record_size (header_field_count v)

abbrev pub step_size : Edition → ℕ
step_size v = record_size (step_field_count v)

-- a step record more
pub image_next : (v : Edition) (n : ℕ) → image_size v (suc n) ≡ image_size v n + step_size v
image_next v n = omega arith

pub length_words : (ns : List ℕ) → length (words ns) ≡ 2 * length ns
unfolding words word
length_words [] = refl
length_words (n ∷ ns) = omega (arith, length_words ns)

pub length_record : (kind : ℕ) (fields : List ℕ) → length (record_bytes kind fields) ≡ record_size (length fields)
unfolding record_bytes record_size
length_record kind fields = omega (arith, length_words (record_size (length fields) ∷ kind ∷ fields))

-- what stands behind other bytes
pub word_behind : (xs ys : List ℕ) (at : ℕ) → word_at (xs ++ ys) (length xs + at) ≡ word_at ys at
unfolding word_at
word_behind xs ys at =
    let e : length xs + at + 1 ≡ length xs + (at + 1) = omega arith in
    rw (e, get_or-append-add xs ys at 0, get_or-append-add xs ys (at + 1) 0)

-- word i of those written
pub word_written : (ns rest : List ℕ) (i : ℕ) → i < length ns → word_at (words ns ++ rest) (2 * i) ≡ get_or ns i 0
unfolding words word word_at
word_written [] rest i h = absurd (not-suc-le-zero h)
word_written (n ∷ ns) rest zero h = omega arith
word_written (n ∷ ns) rest (suc i) h =
    let e : 2 * suc i ≡ 2 + 2 * i = omega arith in
    rw e (word_behind (word n) (words ns ++ rest) (2 * i) ∙ word_written ns rest i (le_of_suc-le-suc h))

-- a record written behind other bytes: word i of it, its fields, and that it is a record
module _ (before : List ℕ) (kind : ℕ) (fields rest : List ℕ) where
  word_placed : (i : ℕ) → i < 2 + length fields →
      word_at (before ++ (record_bytes kind fields ++ rest)) (length before + 2 * i) ≡ get_or (record_size (length fields) ∷ kind ∷ fields) i 0
  unfolding record_bytes
  word_placed i h =
      word_behind before (record_bytes kind fields ++ rest) (2 * i) ∙ word_written (record_size (length fields) ∷ kind ∷ fields) rest i (omega arith)

  pub field_placed : (i : ℕ) → i < length fields → field_at (before ++ (record_bytes kind fields ++ rest)) (length before) i ≡ get_or fields i 0
  unfolding field_at
  field_placed i h = let e : i + 2 ≡ suc (suc i) = omega arith in rw e (word_placed (suc (suc i)) (omega arith))

  pub record_placed : record_at (before ++ (record_bytes kind fields ++ rest)) (length before) kind (length fields) ≡ true
  unfolding record_at
  record_placed =
      let bs = before ++ (record_bytes kind fields ++ rest) in
      let a : length before ≡ length before + 2 * 0 = omega arith in
      let b : length before + 2 ≡ length before + 2 * 1 = omega arith in
      and_intro (eq-eqb (word_at bs (length before)) (record_size (length fields)) (ap (word_at bs) a ∙ word_placed 0 (omega arith)))
      (eq-eqb (word_at bs (length before + 2)) kind (ap (word_at bs) b ∙ word_placed 1 (omega arith)))
