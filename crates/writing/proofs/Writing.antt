-- What the writer has written when it has come to step i: the header, and the records of the steps in use below i, in an edition. Assumes nothing.
--   Written v t start bytes at i   the bytes from start on, with those records before the place at
--   written_more written_same      a step in use adds its record, a free step adds nothing
--   written_all                    past the last step it is the image
--   image_small                    no image, of either edition, is longer than 2,858 bytes
use mathlib.Core.Path.{◌≡◌, refl, sym, ◌∙◌, ap, ap₂}
use mathlib.Core.Bool.{true, false}
use mathlib.Core.List.{List, [], ◌∷◌, ◌++◌, append_assoc, append-nil}
use Prim.Native.Nat.{ℕ, ◌+◌, ◌-◌, ◌≤◌, ◌<◌}
use native.Mathlib.Numerals.{add-one}
use native.Mathlib.Omega.{arith}
use lib.ListN.{length, get_or, take, drop, length-drop, length-append}
use lib.Seq.{length-take-le, take_at, drop_at, drop-drop}
use Rattle.finite.specs.Below.{count}
use Rattle.finite.proofs.Select.{count_grows, tabulate_entries}
use Rattle.finite.proofs.Loops.{count_hit}
use Rattle.table.specs.Table.{Table, quota_numbers, in_use, steps_in_use}
use Rattle.table.specs.Sound.{Sound}
use Rattle.image.specs.Image.{Edition, edition1, edition2, record_size, record_bytes, header_kind_of, step_kind_of, header_adds, header_fields_of, step_adds, step_fields_of, steps_below, image, image_size, image_length}
use Rattle.image.proofs.Words.{header_size, step_size, image_next, length_record}
use Rattle.image.proofs.Laws.{image_most}
use Rattle.image.proofs.Written.{length_header, length_fields, length_steps}
use Rattle.records.specs.declared.StepRecord.{StepRecord}
use Rattle.records.specs.Records.{added, record_fields}
use Rattle.records.proofs.Laws.{part_back}

-- more records
image_grows : (v : Edition) (m n : ℕ) → m ≤ n → image_size v m ≤ image_size v n
unfolding record_size
image_grows edition1 m n l = omega arith
image_grows edition2 m n l = omega arith

-- the image of a sound table
pub image_small : (v : Edition) (t : Table) → Sound t → image_length v t ≤ 2858
image_small edition1 t s = omega (arith, image_most edition1 t s)
image_small edition2 t s = image_most edition2 t s

pub record Written (v : Edition) (t : Table) (start bytes : List ℕ) (at i : ℕ) : Type 0 where
  pub behind : at ≡ header_size v + length (steps_below v t i)
  pub size : length bytes ≡ length start
  pub shown : bytes ≡ (take (header_size v) start ++ steps_below v t i) ++ drop at start

-- the header that is written, and a step record
header_fields : (v : Edition) (t : Table) (n : ℕ) → n ≡ steps_in_use t → length t.quotas ≡ quota_numbers →
    t.capacity ∷ t.last ∷ n ∷ added v t.quotas ≡ header_fields_of v t
unfolding header_fields_of header_adds added
header_fields edition1 t n e l = ap (λ (n : ℕ). t.capacity ∷ t.last ∷ n ∷ []) e
header_fields edition2 t n e l =
    ap₂ (λ (n : ℕ) (q : List ℕ). t.capacity ∷ t.last ∷ n ∷ q) e
    (sym (tabulate_entries quota_numbers (λ k. get_or t.quotas k 0) t.quotas 0 l (λ k h. refl)))

pub record_fields_lem : (v : Edition) (t : Table) (i : ℕ) (r : StepRecord) → record_fields edition2 r ≡ step_fields_of edition2 t i →
    record_fields v r ≡ step_fields_of v t i
unfolding record_fields step_fields_of added step_adds
record_fields_lem edition1 t i r h = ap (take 8) h
record_fields_lem edition2 t i r h = h

-- the steps below i + 1
steps_hit : (v : Edition) (t : Table) (i : ℕ) → in_use t i ≡ true →
    steps_below v t (i + 1) ≡ steps_below v t i ++ record_bytes (step_kind_of v) (step_fields_of v t i)
unfolding steps_below
steps_hit v t i u = rw (add-one i, u)

steps_miss : (v : Edition) (t : Table) (i : ℕ) → in_use t i ≡ false → steps_below v t (i + 1) ≡ steps_below v t i
unfolding steps_below
steps_miss v t i u = rw (add-one i, u) (append-nil (steps_below v t i))

module _ (v : Edition) (t : Table) (start : List ℕ) where
  pub written_none : header_size v ≤ length start → Written v t start start (header_size v) 0
  unfolding steps_below
  written_none h =
      record {
        behind = omega arith;
        size = refl;
        shown = rw (append-nil (take (header_size v) start)) (sym (lib.ListN.take-append-drop (header_size v) start));
      }

  -- the bytes before the place
  front_length : (bytes : List ℕ) (at i : ℕ) → Written v t start bytes at i → header_size v ≤ length start →
      length (take (header_size v) start ++ steps_below v t i) ≡ at
  front_length bytes at i w h =
      let a = length-append (take (header_size v) start) (steps_below v t i) in
      let b = length-take-le (header_size v) start h in
      let c = w.behind in
      omega arith

  pub written_more : (bytes part : List ℕ) (at i : ℕ) (r : StepRecord) → Written v t start bytes at i → in_use t i ≡ true →
      record_fields v r ≡ step_fields_of v t i → at + step_size v ≤ length start →
      part ≡ record_bytes (step_kind_of v) (record_fields v r) ++ drop (step_size v) (take (length bytes - at) (drop at bytes)) →
      Written v t start (take at bytes ++ (part ++ drop (length bytes - at) (drop at bytes))) (at + step_size v) (i + 1)
  written_more bytes part at i r w u fields h e =
      let rec = record_bytes (step_kind_of v) (record_fields v r) in
      let front = take (header_size v) start ++ steps_below v t i in
      let length_front : length front ≡ at = front_length bytes at i w (let b = w.behind in omega arith) in
      let long : length rec ≡ step_size v =
      length_record (step_kind_of v) (record_fields v r) ∙ ap (λ (l : List ℕ). record_size (length l)) fields ∙ ap record_size (length_fields v t i) in
      let steps : steps_below v t (i + 1) ≡ steps_below v t i ++ rec =
      steps_hit v t i u ∙ ap (λ (l : List ℕ). steps_below v t i ++ record_bytes (step_kind_of v) l) (sym fields) in
      let steps_length : length (steps_below v t (i + 1)) ≡ length (steps_below v t i) + length rec = ap length steps ∙ length-append (steps_below v t i) rec in
      let back_length = length-drop at start in
      let back : take at bytes ++ (part ++ drop (length bytes - at) (drop at bytes)) ≡ (front ++ rec) ++ drop (step_size v) (drop at start) =
      ap (λ (l : List ℕ). take at bytes ++ (l ++ drop (length bytes - at) (drop at bytes))) e
      ∙ part_back bytes front (drop at start) rec at (step_size v) w.shown length_front (omega arith) in
      let shown : take at bytes ++ (part ++ drop (length bytes - at) (drop at bytes)) ≡
      (take (header_size v) start ++ steps_below v t (i + 1)) ++ drop (at + step_size v) start =
      back ∙ rw (steps, append_assoc (take (header_size v) start) (steps_below v t i) rec, drop-drop (step_size v) at start) in
      let a = length-append (front ++ rec) (drop (step_size v) (drop at start)) in
      let b = length-append front rec in
      let c = length-drop (step_size v) (drop at start) in
      record {
        behind = let x = w.behind in omega arith;
        size = ap length back ∙ a ∙ (omega arith);
        shown = shown;
      }

  pub written_same : (bytes : List ℕ) (at i : ℕ) → Written v t start bytes at i → in_use t i ≡ false → Written v t start bytes at (i + 1)
  written_same bytes at i w u =
      record {
        behind = rw (steps_miss v t i u) w.behind;
        size = w.size;
        shown = rw (steps_miss v t i u) w.shown;
      }

  -- past the last step, behind the header
  pub written_all : (buffer bytes : List ℕ) (at n : ℕ) → Written v t start bytes at t.capacity → n ≡ steps_in_use t →
      length t.quotas ≡ quota_numbers →
      start ≡ record_bytes (header_kind_of v) (t.capacity ∷ t.last ∷ n ∷ added v t.quotas) ++ drop (header_size v) buffer →
      bytes ≡ image v t ++ drop (image_length v t) buffer
  unfolding image image_length steps_in_use
  written_all buffer bytes at n w m q e =
      let header = record_bytes (header_kind_of v) (header_fields_of v t) in
      let begun : start ≡ header ++ drop (header_size v) buffer =
      e ∙ ap (λ (l : List ℕ). record_bytes (header_kind_of v) l ++ drop (header_size v) buffer) (header_fields v t n m q) in
      let long : length header ≡ header_size v = length_record (header_kind_of v) (header_fields_of v t) ∙ ap record_size (length_header v t) in
      let a : take (header_size v) start ≡ header = ap (take (header_size v)) begun ∙ take_at header (drop (header_size v) buffer) (header_size v) long in
      let k = length (steps_below v t t.capacity) in
      let size : image_length v t ≡ at = ap (λ (n : ℕ). header_size v + n) (sym (length_steps v t t.capacity)) ∙ sym w.behind in
      let b : drop at start ≡ drop at buffer =
      rw w.behind
      (sym (drop-drop k (header_size v) start)
      ∙ ap (drop k) (ap (drop (header_size v)) begun ∙ drop_at header (drop (header_size v) buffer) (header_size v) long)
      ∙ drop-drop k (header_size v) buffer) in
      w.shown ∙ rw (a, b, size)

  -- there is room for the record of a step in use
  pub written_room : (bytes : List ℕ) (at i n : ℕ) → Written v t start bytes at i → i < n → in_use t i ≡ true →
      image_size v (count n (in_use t)) ≤ length start → at + step_size v ≤ length bytes
  written_room bytes at i n w l u h =
      let g = image_grows v (count (i + 1) (in_use t)) (count n (in_use t)) (count_grows (in_use t) (i + 1) n (omega arith)) in
      let x : image_size v (count (i + 1) (in_use t)) ≡ image_size v (count i (in_use t)) + step_size v =
      ap (image_size v) (count_hit i (in_use t) u ∙ add-one (count i (in_use t))) ∙ image_next v (count i (in_use t)) in
      let y : at ≡ image_size v (count i (in_use t)) = w.behind ∙ ap (λ (n : ℕ). header_size v + n) (length_steps v t i) in
      let z = w.size in
      omega (arith, g, x, y, z, h)
