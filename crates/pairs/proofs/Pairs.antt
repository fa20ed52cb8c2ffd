-- The pairs of records of a slip, written and compared step by step. Assumes nothing.
--   pairs_hit pairs_miss   one step more
--   pairs_room             there is room for the pair of a step that changed
--   Put t u start bytes at i   the bytes from start on, with the pairs of the changed steps below i before the place at
--   put_none put_more put_same put_all   how it begins, goes on and ends
--   Read t u bs at i       the bytes before the place at are those pairs
--   read_none read_more read_same read_all read_other   how it begins, goes on and ends, and where it breaks off
use mathlib.Core.Path.{◌≡◌, refl, sym, ◌∙◌, ap}
use mathlib.Core.Bool.{true, false}
use mathlib.Core.List.{List, ◌++◌, append_assoc, append-nil}
use Prim.Native.Nat.{ℕ, ◌+◌, ◌-◌, ◌*◌, ◌≤◌, ◌<◌}
use native.Mathlib.Numerals.{add-one}
use native.Mathlib.Omega.{arith}
use lib.ListN.{length, take, drop, length-drop, length-append}
use lib.Seq.{take_all, take_at, drop_at, drop-drop, take-add}
use Rattle.finite.proofs.Select.{count_grows}
use Rattle.finite.proofs.Loops.{count_hit}
use Rattle.table.specs.Table.{Table}
use Rattle.image.specs.Image.{record_size}
use Rattle.image.specs.Slip.{record_in, changed, pairs_below, record_length}
use Rattle.image.proofs.Slips.{length_record_in, length_pairs, pairs_split}
use Rattle.records.proofs.Laws.{part_back}

module _ (t u : Table) where
  abbrev pair : ℕ → List ℕ
  pair i = record_in t i ++ record_in u i

  pub length_pair : (i : ℕ) → length (pair i) ≡ 2 * record_length
  length_pair i = length-append (record_in t i) (record_in u i) ∙ (let a = length_record_in t i in let b = length_record_in u i in omega arith)

  pub pairs_hit : (i : ℕ) → changed t u i ≡ true → pairs_below t u (i + 1) ≡ pairs_below t u i ++ pair i
  unfolding pairs_below
  pairs_hit i c = rw (add-one i, c)

  pub pairs_miss : (i : ℕ) → changed t u i ≡ false → pairs_below t u (i + 1) ≡ pairs_below t u i
  unfolding pairs_below
  pairs_miss i c = rw (add-one i, c) (append-nil (pairs_below t u i))

  pub pairs_room : (i n : ℕ) → i < n → changed t u i ≡ true → length (pairs_below t u i) + 2 * record_length ≤ length (pairs_below t u n)
  unfolding record_size
  pairs_room i n l c =
      let g = count_grows (changed t u) (i + 1) n (omega arith) in
      let h = count_hit i (changed t u) c in
      omega (arith, length_pairs t u i, length_pairs t u n, g, h)

  -- written: start is what the part held
  pub record Put (start bytes : List ℕ) (at i : ℕ) : Type 0 where
    pub behind : at ≡ length (pairs_below t u i)
    pub size : length bytes ≡ length start
    pub shown : bytes ≡ pairs_below t u i ++ drop at start

  pub put_none : (start : List ℕ) → Put start start 0 0
  unfolding pairs_below
  put_none start = record { behind = refl; size = refl; shown = refl }

  pub put_same : (start bytes : List ℕ) (at i : ℕ) → Put start bytes at i → changed t u i ≡ false → Put start bytes at (i + 1)
  put_same start bytes at i w c =
      record { behind = rw (pairs_miss i c) w.behind; size = w.size; shown = rw (pairs_miss i c) w.shown }

  pub put_more : (start bytes part : List ℕ) (at i : ℕ) → Put start bytes at i → changed t u i ≡ true → at + 2 * record_length ≤ length start →
      part ≡ pair i ++ drop (2 * record_length) (take (length bytes - at) (drop at bytes)) →
      Put start (take at bytes ++ (part ++ drop (length bytes - at) (drop at bytes))) (at + 2 * record_length) (i + 1)
  put_more start bytes part at i w c h e =
      let d = length-drop at start in
      let long = length_pair i in
      let shown : take at bytes ++ (part ++ drop (length bytes - at) (drop at bytes)) ≡ pairs_below t u (i + 1) ++ drop (at + 2 * record_length) start =
      ap (λ (l : List ℕ). take at bytes ++ (l ++ drop (length bytes - at) (drop at bytes))) e
      ∙ part_back bytes (pairs_below t u i) (drop at start) (pair i) at (2 * record_length) w.shown (sym w.behind) (omega arith)
      ∙ rw (pairs_hit i c, drop-drop (2 * record_length) at start) in
      let steps : length (pairs_below t u (i + 1)) ≡ length (pairs_below t u i) + 2 * record_length =
      ap length (pairs_hit i c) ∙ length-append (pairs_below t u i) (pair i) ∙ ap (λ (n : ℕ). length (pairs_below t u i) + n) long in
      let behind : at + 2 * record_length ≡ length (pairs_below t u (i + 1)) = sym (steps ∙ ap (λ (n : ℕ). n + 2 * record_length) (sym w.behind)) in
      let a = length-append (pairs_below t u (i + 1)) (drop (at + 2 * record_length) start) in
      let b = length-drop (at + 2 * record_length) start in
      record { behind = behind; size = ap length shown ∙ a ∙ (omega arith); shown = shown }

  pub put_all : (start bytes : List ℕ) (at n : ℕ) → Put start bytes at n → bytes ≡ pairs_below t u n ++ drop (length (pairs_below t u n)) start
  put_all start bytes at n w = w.shown ∙ ap (λ (k : ℕ). pairs_below t u n ++ drop k start) w.behind

  -- compared
  pub record Read (bs : List ℕ) (at i : ℕ) : Type 0 where
    pub behind : at ≡ length (pairs_below t u i)
    pub shown : take at bs ≡ pairs_below t u i

  pub read_none : (bs : List ℕ) → Read bs 0 0
  unfolding pairs_below
  read_none bs = record { behind = refl; shown = refl }

  pub read_same : (bs : List ℕ) (at i : ℕ) → Read bs at i → changed t u i ≡ false → Read bs at (i + 1)
  read_same bs at i w c = record { behind = rw (pairs_miss i c) w.behind; shown = rw (pairs_miss i c) w.shown }

  pub read_more : (bs : List ℕ) (at i : ℕ) → Read bs at i → changed t u i ≡ true → take (2 * record_length) (drop at bs) ≡ pair i →
      Read bs (at + 2 * record_length) (i + 1)
  read_more bs at i w c e =
      let steps : length (pairs_below t u (i + 1)) ≡ length (pairs_below t u i) + 2 * record_length =
      ap length (pairs_hit i c) ∙ length-append (pairs_below t u i) (pair i) ∙ ap (λ (n : ℕ). length (pairs_below t u i) + n) (length_pair i) in
      record {
        behind = sym (steps ∙ ap (λ (n : ℕ). n + 2 * record_length) (sym w.behind));
        shown = take-add at (2 * record_length) bs ∙ rw (w.shown, e) (sym (pairs_hit i c));
      }

  pub read_all : (bs : List ℕ) (at n : ℕ) → Read bs at n → length bs ≡ length (pairs_below t u n) → pairs_below t u n ≡ bs
  read_all bs at n w l = sym w.shown ∙ take_all at bs (let b = w.behind in omega arith)

  -- where the bytes are all those pairs, each pair stands at its place
  pub read_other : (bs : List ℕ) (at i n : ℕ) → Read bs at i → i < n → changed t u i ≡ true → pairs_below t u n ≡ bs → take (2 * record_length) (drop at bs) ≡ pair i
  read_other bs at i n w l c e =
      let r = pairs_split t u i n l c in
      let shape : bs ≡ pairs_below t u i ++ (pair i ++ r.0) = sym e ∙ r.1 ∙ ap (λ (x : List ℕ). pairs_below t u i ++ x) (sym (append_assoc (record_in t i) (record_in u i) r.0)) in
      ap (λ (x : List ℕ). take (2 * record_length) (drop at x)) shape
      ∙ ap (take (2 * record_length)) (drop_at (pairs_below t u i) (pair i ++ r.0) at (sym w.behind))
      ∙ take_at (pair i) r.0 (2 * record_length) (length_pair i)
