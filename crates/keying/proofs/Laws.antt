-- Laws of key lines: digits and the numbers that they spell, the tests of a line, the decoder's cases and the calls. Assumes nothing.
--   spelt bs from i     the byte i places after `from` is a digit
--   line_tests           the tests of `is_line`, as a list
--   key_add key_link key_clear key_count   the call of a key line is the call that it names
--   key_shape           the arrays of a table keep their lengths
use mathlib.Core.Path.{◌≡◌, refl, sym, ◌∙◌, ap}
use mathlib.Core.Bool.{Bool, true, false}
use mathlib.Core.Logic.{⊎_elim}
use mathlib.Core.List.{List, [], ◌∷◌}
use Prim.Native.Nat.{ℕ, zero, suc, ◌+◌, ◌*◌, ◌-◌, ◌^◌, ◌≤◌, ◌<◌}
use native.Mathlib.Nat.{pow-le-pow_right}
use native.Mathlib.Numerals.{add-one}
use native.Mathlib.Omega.{arith}
use lib.ListN.{length, get_or, drop}
use lib.Seq.{get_or-take, get_or-drop, length-take-le}
use lib.Dec.{eqb, leb}
use borrow.Author.Tests.{leb-true, eqb-true, eq-eqb, ne_eqb}
use Rattle.std.proofs.lemmas.List.{length-drop}
use Rattle.std.specs.Char.{is_ascii_digit}
use Rattle.std.specs.List.{list_all, slice_range}
use Rattle.std.specs.Prelude.{Option, Some, None}
use Rattle.finite.specs.Below.{all}
use Rattle.finite.proofs.Bools.{and_left, and_right, clash, refute, passes_at, test}
use Rattle.finite.proofs.Below.{all_at, all_ext}
use Rattle.finite.proofs.Lists.{all_of_list}
use Rattle.finite.proofs.Loops.{and_true}
use Rattle.table.specs.Said.{Refused}
use Rattle.table.specs.Table.{Table}
use Rattle.table.specs.Sound.{Shape, Sound, sound}
use Rattle.table.specs.Answer.{Outcome, not_sound, not_key_line, first, unless}
use Rattle.table.specs.Calls.{table_tests, add_refusal, add_call, link_refusal, link_call, spoken_counts, counts_call}
use Rattle.table.specs.Clear.{clear_refusal, clear_call}
use Rattle.table.proofs.Calls.{add_fits, link_fits, clear_fits, add_sound, link_sound, clear_cleared}
use Rattle.words.proofs.Refusals.{table_passed}
use Rattle.keyline.specs.declared.Command.{Command}
use Rattle.keyline.specs.declared.Command.TheVariants.{Add, Link, Clear, Count}
use Rattle.keyline.specs.Keys.{key_cabin, held, star, pressed, digit, is_digit, is_line, decimal, decode, perform, perform_line, key_call}

pub digit_low : (x : ℕ) → is_digit x ≡ true → digit 0 ≤ x
unfolding is_digit
digit_low x h = leb-true (digit 0) x (and_left (leb (digit 0) x) (leb x (digit 9)) h)

pub digit_high : (x : ℕ) → is_digit x ≡ true → x ≤ digit 9
unfolding is_digit
digit_high x h = leb-true x (digit 9) (and_right (leb (digit 0) x) (leb x (digit 9)) h)

abbrev pub spelt : List ℕ → ℕ → ℕ → Bool
spelt bs from i = is_digit (get_or bs (from + i) 0)

-- a part of a line that is lent as a slice: as many bytes, and the bytes of the line
pub part_length : (bs : List ℕ) (from n : ℕ) → from + n ≤ length bs → length (slice_range bs from (from + n)) ≡ n
part_length bs from n h =
    let e : from + n - from ≡ n = omega arith in
    rw e (length-take-le n (drop from bs) (rw length-drop (omega arith)))

pub part_at : (bs : List ℕ) (from n i : ℕ) → i < n → get_or (slice_range bs from (from + n)) i 0 ≡ get_or bs (from + i) 0
part_at bs from n i l =
    let e : from + n - from ≡ n = omega arith in
    rw e (get_or-take n (drop from bs) i 0 l ∙ get_or-drop from bs i 0)

pub part_inside : (bs : List ℕ) (from n i : ℕ) → from + n ≤ length bs → i < length (slice_range bs from (from + n)) → i < n
part_inside bs from n i h l = rw (part_length bs from n h) at l

-- the digits of a part are those of the line
pub part_digits : (bs : List ℕ) (from n : ℕ) → from + n ≤ length bs → list_all is_ascii_digit (slice_range bs from (from + n)) ≡ all n (spelt bs from)
unfolding is_digit
part_digits bs from n h =
    all_of_list is_ascii_digit (slice_range bs from (from + n)) ∙ ap (λ (k : ℕ). all k (λ i. is_ascii_digit (get_or (slice_range bs from (from + n)) i 0))) (part_length bs from n h)
    ∙ all_ext n (λ i. is_ascii_digit (get_or (slice_range bs from (from + n)) i 0)) (spelt bs from) (λ i l. ap is_digit (part_at bs from n i l))

module _ (bs : List ℕ) (from : ℕ) where
  pub decimal_more : (w : ℕ) → decimal bs from (w + 1) ≡ 10 * decimal bs from w + (get_or bs (from + w) 0 - digit 0)
  unfolding decimal
  decimal_more w = rw add-one

  decimal_below : (w : ℕ) → ((i : ℕ) → i < w → spelt bs from i ≡ true) → decimal bs from w < 10 ^ w
  unfolding decimal
  decimal_below zero h = omega arith
  decimal_below (suc w) h =
      omega (arith, decimal_below w (λ i l. h i (omega arith)), digit_high (get_or bs (from + w) 0) (h w (omega arith)))

  -- a digit more, of three at most
  pub decimal_fits : (w : ℕ) → w ≤ 3 → ((i : ℕ) → i < w → spelt bs from i ≡ true) → (i : ℕ) → i < w →
      10 * decimal bs from i + (get_or bs (from + i) 0 - digit 0) < 1000
  decimal_fits w short h i l =
      let b : decimal bs from (i + 1) < 10 ^ (i + 1) = decimal_below (i + 1) (λ j m. h j (omega arith)) in
      let m : 10 ^ (i + 1) ≤ 10 ^ 3 = pow-le-pow_right {n = 10} (omega arith) {i = i + 1} {j = 3} (omega arith) in
      omega (arith, decimal_more i)

abbrev line_tests : List ℕ → ℕ → ℕ → List Bool
line_tests bs call n =
    eqb (length bs) (n + 4) ∷
    eqb (get_or bs 0 0) held ∷
    eqb (get_or bs 1 0) star ∷
    eqb (get_or bs 2 0) (digit call) ∷
    all n (spelt bs 3) ∷
    eqb (get_or bs (3 + n) 0) pressed ∷
    []

module _ (bs : List ℕ) (call n : ℕ) where
  -- a line that fails a test
  pub not_line : (k : ℕ) → get_or (line_tests bs call n) k true ≡ false → is_line bs call n ≡ false
  unfolding is_line
  not_line k f = refute (is_line bs call n) (λ h. clash (passes_at (line_tests bs call n) h k) f)

  -- a line that passes all tests but the last, which decides
  pub line_last : length bs ≡ n + 4 → get_or bs 0 0 ≡ held → get_or bs 1 0 ≡ star → get_or bs 2 0 ≡ digit call → all n (spelt bs 3) ≡ true →
      is_line bs call n ≡ eqb (get_or bs (3 + n) 0) pressed
  unfolding is_line
  line_last a b c d e =
      rw (eq-eqb (length bs) (n + 4) a, eq-eqb (get_or bs 0 0) held b, eq-eqb (get_or bs 1 0) star c, eq-eqb (get_or bs 2 0) (digit call) d, e)
      (and_true (eqb (get_or bs (3 + n) 0) pressed))

module _ (bs : List ℕ) (call n : ℕ) (h : is_line bs call n ≡ true) where
  line_at : (k : ℕ) → get_or (line_tests bs call n) k true ≡ true
  unfolding is_line
  line_at = passes_at (line_tests bs call n) h

  -- what `decimal` asks of a part of the digits
  pub line_spells : (from w : ℕ) → 3 ≤ from → w ≤ 3 → from + w ≤ n + 3 →
      record {
        within : from + w ≤ length bs;
        short : w ≤ 3;
        spelt : (i : ℕ) → i < w → is_digit (get_or bs (from + i) 0) ≡ true;
      }
  line_spells from w a b c =
      let size : length bs ≡ n + 4 = eqb-true (length bs) (n + 4) (line_at 0) in record {
        within = omega arith;
        short = b;
        spelt = λ i l.
            let e : 3 + (from - 3 + i) ≡ from + i = omega arith in
            rw e at (all_at n (spelt bs 3) (line_at 4) (from - 3 + i) (omega arith));
      }

-- the decoder's cases: each form, where none before it fits
module _ (bs : List ℕ) where
  pub decode_add : is_line bs 1 8 ≡ true → {a b c d : ℕ} → a ≡ decimal bs 3 3 → b ≡ decimal bs 6 1 → c ≡ decimal bs 7 1 → d ≡ decimal bs 8 3 →
      Some (Add a b c d) ≡ decode bs
  unfolding decode
  decode_add h p q r s = rw (p, q, r, s, h)

  module _ (no_add : is_line bs 1 8 ≡ false) where
    pub decode_link : is_line bs 2 8 ≡ true → {a b c d : ℕ} → a ≡ decimal bs 3 3 → b ≡ decimal bs 6 1 → c ≡ decimal bs 7 3 → d ≡ decimal bs 10 1 →
        Some (Link a b c d) ≡ decode bs
    unfolding decode
    decode_link h p q r s = rw (p, q, r, s, no_add, h)

    module _ (no_link : is_line bs 2 8 ≡ false) where
      pub decode_clear : is_line bs 3 4 ≡ true → {a b : ℕ} → a ≡ decimal bs 3 3 → b ≡ decimal bs 6 1 → Some (Clear a b) ≡ decode bs
      unfolding decode
      decode_clear h p q = rw (p, q, no_add, no_link, h)

      module _ (no_clear : is_line bs 3 4 ≡ false) where
        pub decode_count : is_line bs 4 0 ≡ true → Some Count ≡ decode bs
        unfolding decode
        decode_count h = rw (no_add, no_link, no_clear, h)

        pub decode_nothing : is_line bs 4 0 ≡ false → None ≡ decode bs
        unfolding decode
        decode_nothing h = rw (no_add, no_link, no_clear, h)

-- a call on a table that is not sound is refused 1 with the table as it is
abbrev unsound : Table → Outcome
unsound t = record { answer = Refused not_sound; table = t }

module _ (t : Table) (h : sound t ≡ false) where
  pub add_unsound : (holder e kind content cabin : ℕ) → add_call t holder e kind content cabin ≡ unsound t
  unfolding add_call add_refusal unless first
  add_unsound holder e kind content cabin = rw h

  pub link_unsound : (source e second f : ℕ) → link_call t source e second f ≡ unsound t
  unfolding link_call link_refusal unless first
  link_unsound source e second f = rw h

  pub clear_unsound : (i e : ℕ) → clear_call t i e ≡ unsound t
  unfolding clear_call clear_refusal unless first
  clear_unsound i e = rw h

-- so a call that tests the table is not changed by a test before it
tested_once : (t : Table) (o : Outcome) → (sound t ≡ false → o ≡ unsound t) → o ≡ unless (first (table_tests t)) t o
unfolding unless first
tested_once t o f =
    ⊎_elim (λ (h : sound t ≡ true). rw h)
    (λ (h : sound t ≡ false). rw h (f h))
    (test (sound t))

-- where nothing but the answer is told, the table is that of before
table_kept : (n : ℕ) (t : Table) (o : Outcome) → o.table ≡ t → (unless n t o).table ≡ t
unfolding unless
table_kept n t o q =
    ⊎_elim (λ (h : eqb n 0 ≡ true). rw h q) (λ (h : eqb n 0 ≡ false). rw h) (test (eqb n 0))

-- the call of a line that is no key line: 1, else 9
module _ (t : Table) (bs : List ℕ) (q : None ≡ decode bs) where
  pub nothing_unsound : (first (table_tests t) ≡ 0 → ⊥) → Refused (first (table_tests t)) ≡ (key_call t bs).answer
  unfolding key_call unless
  nothing_unsound d = rw (ne_eqb (first (table_tests t)) 0 d)

  pub nothing_sound : first (table_tests t) ≡ 0 → Refused not_key_line ≡ (key_call t bs).answer
  unfolding key_call perform_line unless
  nothing_sound z = rw (sym q, eq-eqb (first (table_tests t)) 0 z)

  pub nothing_table : (key_call t bs).table ≡ t
  unfolding key_call perform_line
  nothing_table = rw (sym q) (table_kept (first (table_tests t)) t (record { answer = Refused not_key_line; table = t }) refl)

-- the call of a key line is the call that it names, which tests the table itself
module _ (t : Table) (bs : List ℕ) where
  pub key_add : (holder e kind content : ℕ) → Some (Add holder e kind content) ≡ decode bs → add_call t holder e kind content key_cabin ≡ key_call t bs
  unfolding key_call perform_line perform
  key_add holder e kind content q = rw (sym q) (tested_once t _ (λ h. add_unsound t h holder e kind content key_cabin))

  pub key_link : (source e second f : ℕ) → Some (Link source e second f) ≡ decode bs → link_call t source e second f ≡ key_call t bs
  unfolding key_call perform_line perform
  key_link source e second f q = rw (sym q) (tested_once t _ (λ h. link_unsound t h source e second f))

  pub key_clear : (i e : ℕ) → Some (Clear i e) ≡ decode bs → clear_call t i e ≡ key_call t bs
  unfolding key_call perform_line perform
  key_clear i e q = rw (sym q) (tested_once t _ (λ h. clear_unsound t h i e))

  pub key_count : Some Count ≡ decode bs → counts_call t ≡ key_call t bs
  unfolding key_call perform_line perform counts_call
  key_count q = rw (sym q)

pub counts_table : (t : Table) → (counts_call t).table ≡ t
unfolding counts_call spoken_counts
counts_table t = table_kept (first (table_tests t)) t (spoken_counts t) refl

-- the arrays of a table keep their lengths, whatever the line says
shape_unless : (n : ℕ) (t : Table) (o : Outcome) → Shape t → (n ≡ 0 → Shape o.table) → Shape (unless n t o).table
unfolding unless
shape_unless n t o s f =
    ⊎_elim (λ (h : eqb n 0 ≡ true). rw h (f (eqb-true n 0 h))) (λ (h : eqb n 0 ≡ false). rw h s) (test (eqb n 0))

shape_performed : (t : Table) → Sound t → (d : Option Command) → Shape (perform_line t d).table
unfolding perform_line perform add_call link_call clear_call spoken_counts
shape_performed t s None = s.formed.shape
shape_performed t s (Some (Add holder e kind content)) =
    shape_unless (add_refusal t holder e kind content key_cabin) t _ s.formed.shape
    (λ z. (add_sound s holder e kind content key_cabin (add_fits t holder e kind content key_cabin z)).formed.shape)
shape_performed t s (Some (Link source e second f)) =
    shape_unless (link_refusal t source e second f) t _ s.formed.shape (λ z. (link_sound s source e second f (link_fits t source e second f z)).formed.shape)
shape_performed t s (Some (Clear i e)) =
    shape_unless (clear_refusal t i e) t _ s.formed.shape (λ z. (clear_cleared s i e (clear_fits t i e z)).3.sound.formed.shape)
shape_performed t s (Some Count) = s.formed.shape

pub key_shape : (t : Table) (bs : List ℕ) → Shape t → Shape (key_call t bs).table
unfolding key_call
key_shape t bs s =
    shape_unless (first (table_tests t)) t _ s (λ z. shape_performed t (table_passed t z) (decode bs))
