-- Numbers put into bytes. Assumes nothing.
--   put_word put_more   a number put at a place, and numbers put behind others
--   put_record          the numbers of a record put at the start: size, kind and fields are those that it has to have
--   part_back           bytes lent from a place on come back behind those before it
--   header_length step_length   how many fields the records of an edition have; header_most step_most, how long they are
use mathlib.Core.Path.{◌≡◌, refl, ◌∙◌, ap}
use mathlib.Core.List.{List, [], ◌∷◌, ◌++◌, append_assoc, append-nil}
use Prim.Native.Nat.{ℕ, suc, ◌+◌, ◌-◌, ◌*◌, ◌/◌, ◌%◌, ◌≤◌}
use native.Mathlib.Numerals.{add-one}
use native.Mathlib.Omega.{arith}
use lib.ListN.{length, set, take, drop, length-append}
use lib.Seq.{sets, sets-eq, take_all, take_at, drop_at, drop-length}
use Rattle.table.specs.Table.{quota_numbers}
use Rattle.image.specs.Image.{Edition, edition1, edition2, header_field_count, step_field_count, word, words, record_size, record_bytes}
use Rattle.image.proofs.Words.{length_words}
use Rattle.records.specs.declared.StepRecord.{StepRecord}
use Rattle.records.specs.Records.{put_words, added, record_fields}

-- numbers put at the start
put_eq : (bs : List ℕ) (ns : List ℕ) → 2 * length ns ≤ length bs → put_words bs 0 ns ≡ words ns ++ drop (2 * length ns) bs
unfolding put_words
put_eq bs ns h =
    let n = length_words ns in
    let z : 0 + length (words ns) ≡ 2 * length ns = omega arith in
    sets-eq (words ns) bs 0 (omega arith) ∙ rw z

pub put_record : (bs ds : List ℕ) (n size kind what : ℕ) (fields all : List ℕ) → size ≡ record_size n → kind ≡ what → fields ≡ all → length all ≡ n →
    record_size n ≤ length bs → ds ≡ put_words bs 0 (size ∷ kind ∷ fields) → ds ≡ record_bytes what all ++ drop (record_size n) bs
unfolding record_bytes record_size
put_record bs ds n size kind what fields all e k f l h p =
    let z : 2 * length (size ∷ kind ∷ all) ≡ 2 * (n + 2) = omega arith in
    p ∙ ap (λ (x : List ℕ). put_words bs 0 (size ∷ kind ∷ x)) f ∙ put_eq bs (size ∷ kind ∷ all) (omega arith)
    ∙ rw (z, k, l, e)

-- the fields of the records of an edition
pub header_length : (e : Edition) (capacity last steps : ℕ) (quotas : List ℕ) → length quotas ≡ quota_numbers →
    length (capacity ∷ last ∷ steps ∷ added e quotas) ≡ header_field_count e
unfolding added
header_length edition1 capacity last steps quotas l = refl
header_length edition2 capacity last steps quotas l = omega arith

pub step_length : (e : Edition) (r : StepRecord) → length (record_fields e r) ≡ step_field_count e
unfolding record_fields added
step_length edition1 r = refl
step_length edition2 r = refl

pub header_most : (e : Edition) → record_size (header_field_count e) ≤ 42
unfolding record_size
header_most edition1 = omega arith
header_most edition2 = omega arith

pub step_most : (e : Edition) → record_size (step_field_count e) ≤ 22
unfolding record_size
step_most edition1 = omega arith
step_most edition2 = omega arith

-- a number put at a place
pub put_word : (bs : List ℕ) (at n : ℕ) → set (set bs at (n % 256)) (at + 1) (n / 256) ≡ put_words bs at (n ∷ [])
unfolding put_words words word
put_word bs at n = rw (add-one at)

sets_append : (bs : List ℕ) (at : ℕ) (xs ys : List ℕ) → sets (sets bs at xs) (at + length xs) ys ≡ sets bs at (xs ++ ys)
sets_append bs at [] ys = let z : at + 0 ≡ at = omega arith in rw z
sets_append bs at (x ∷ xs) ys = let z : at + suc (length xs) ≡ suc at + length xs = omega arith in rw z (sets_append (set bs at x) (suc at) xs ys)

words_append : (ms ns : List ℕ) → words ms ++ words ns ≡ words (ms ++ ns)
unfolding words word
words_append [] ns = refl
words_append (m ∷ ms) ns = ap (λ (l : List ℕ). m % 256 ∷ m / 256 ∷ l) (words_append ms ns)

-- numbers put behind numbers
pub put_more : (bs : List ℕ) {cs ds : List ℕ} (at behind : ℕ) (ms ns : List ℕ) → behind ≡ at + 2 * length ms →
    cs ≡ put_words bs at ms → ds ≡ put_words cs behind ns →
    ds ≡ put_words bs at (ms ++ ns)
unfolding put_words
put_more bs at behind ms ns h p q =
    let z : behind ≡ at + length (words ms) = omega (arith, length_words ms) in
    q ∙ rw (p, z) (sets_append bs at (words ms) (words ns) ∙ ap (sets bs at) (words_append ms ns))

-- bytes lent from a place on come back behind those before it
pub part_back : (bytes front back new : List ℕ) (at n : ℕ) → bytes ≡ front ++ back → length front ≡ at → n ≤ length back →
    take at bytes ++ ((new ++ drop n (take (length bytes - at) (drop at bytes))) ++ drop (length bytes - at) (drop at bytes))
    ≡ (front ++ new) ++ drop n back
part_back bytes front back new at n e l h =
    let len : length bytes ≡ at + length back = ap length e ∙ length-append front back ∙ ap (λ (k : ℕ). k + length back) l in
    let k : length bytes - at ≡ length back = omega arith in
    let a : take at bytes ≡ front = ap (take at) e ∙ take_at front back at l in
    let b : drop at bytes ≡ back = ap (drop at) e ∙ drop_at front back at l in
    let c : take (length back) back ≡ back = take_all (length back) back (omega arith) in
    let d : drop (length back) back ≡ [] = drop-length back in
    let g : (new ++ drop n back) ++ [] ≡ new ++ drop n back = append-nil (new ++ drop n back) in
    rw (a, k, b, c, d, g, append_assoc front new (drop n back))
