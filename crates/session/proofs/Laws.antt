-- Laws of the output: runs of bytes stored one after another, the digits of a number, and a block fed so far. Assumes nothing.
--   sets_append      two runs stored one after the other are one
--   puts_more        the same of a writer
--   spelled_small, spelled_more    the digits of a number below ten, and of another; length_spelled_more, how many they are
--   kept_few         a line keeps thirteen bytes at most
--   Fedto            the loop's invariant: the session after the first i bytes of a block
use mathlib.Core.Path.{◌≡◌, refl, sym, ◌∙◌, ap}
use mathlib.Core.Bool.{true, false}
use mathlib.Core.Logic.{⊎_elim}
use mathlib.Core.List.{List, [], ◌∷◌, ◌++◌, append-nil}
use Prim.Native.Nat.{ℕ, zero, suc, ◌+◌, ◌*◌, ◌/◌, ◌%◌, ◌^◌, ◌≤◌, ◌<◌}
use native.Mathlib.Nat.{add-zero}
use native.Mathlib.Numerals.{add-one}
use native.Mathlib.Omega.{arith}
use lib.ListN.{length, get_or, take, set, length-append}
use Rattle.std.proofs.lemmas.List.{length-take}
use lib.Seq.{sets, take-suc, take-suc-set, length-take-le, take_all}
use lib.Dec.{ltb}
use borrow.Author.Tests.{lt-ltb, le-ltb, ltb-false, eq-eqb, ne_eqb}
use Rattle.finite.proofs.Bools.{test}
use Rattle.std.proofs.lemmas.Fmt.{decimal_from_appends, length-decimal-le, length-decimal-le_succ}
use Rattle.std.specs.Fmt.{decimal}
use Rattle.table.specs.Table.{Table, places}
use Rattle.finite.specs.Below.{all, total}
use Rattle.table.specs.Cabins.{guarantee_of, limit_of, quotas_fit, list_fits, sole_quotas}
use Rattle.table.specs.Calls.{fresh_table}
use Rattle.table.proofs.Edits.{sound_fresh}
use Rattle.words.specs.Words.{words, table_of, words_of}
use Rattle.words.proofs.Laws.{table_words, shape_table}
use Rattle.keyline.specs.Keys.{digit, key_call}
use Rattle.keying.proofs.Laws.{key_shape}
use Rattle.session.specs.declared.Writer.{Writer}
use Rattle.session.specs.Puts.{Puts}
use Rattle.session.specs.Session.{keys_table, line_end, kept_most, digits, spelled, printed, State, keep, push, line_output, push_output, feed, fed_output, finish_output, first_state, state_of}
use Rattle.session.proofs.Output.{feed_append, fed_output_append, push_end, push_end_output, push_other, push_other_output}

pub sets_append : (l : List ℕ) (i : ℕ) (a b : List ℕ) → sets l i (a ++ b) ≡ sets (sets l i a) (i + length a) b
sets_append l i [] b = rw (add-zero i)
sets_append l i (x ∷ a) b =
    let e : suc i + length a ≡ i + suc (length a) = omega arith in
    sets_append (set l i x) (suc i) a b ∙ ap (λ (k : ℕ). sets (sets (set l i x) (suc i) a) k b) e

-- a run put, and then another
pub puts_more : {a b c : Writer} {r s : List ℕ} → Puts a b r → Puts b c s → Puts a c (r ++ s)
puts_more {a} {b} {c} {r} {s} p q =
    record {
      place = let e = p.place in let f = q.place in simp length-append (omega arith);
      text =
          q.text ∙ ap (λ (x : List ℕ). sets x b.at s) p.text ∙ ap (λ (k : ℕ). sets (sets a.bytes.now a.at r) k s) p.place
          ∙ sym (sets_append a.bytes.now a.at r s);
      size = q.size ∙ p.size;
      lent = q.lent ∙ p.lent;
    }

digits_enough : (f g n : ℕ) → n < f → n < g → digits f n ≡ digits g n
unfolding digits
digits_enough zero g n l m = absurd (omega arith)
digits_enough (suc f) zero n l m = absurd (omega arith)
digits_enough (suc f) (suc g) n l m =
    ⊎_elim (λ (h : ltb n 10 ≡ true). rw h)
    (λ (h : ltb n 10 ≡ false).
    let k : 10 ≤ n = ltb-false n 10 h in
    let e : digits f (n / 10) ≡ digits g (n / 10) = digits_enough f g (n / 10) (omega arith) (omega arith) in
    rw (h, e))
    (test (ltb n 10))

pub spelled_small : (n : ℕ) → n < 10 → spelled n ≡ digit n ∷ []
unfolding spelled digits
spelled_small n l = rw (lt-ltb n 10 l)

pub spelled_more : (n : ℕ) → 10 ≤ n → spelled n ≡ spelled (n / 10) ++ (digit (n % 10) ∷ [])
unfolding spelled digits
spelled_more n l =
    let e : digits n (n / 10) ≡ digits (suc (n / 10)) (n / 10) = digits_enough n (suc (n / 10)) (n / 10) (omega arith) (omega arith) in
    rw (le-ltb n 10 l, e)

pub length_spelled_more : (n : ℕ) → 10 ≤ n → length (spelled n) ≡ length (spelled (n / 10)) + 1
length_spelled_more n l = rw (spelled_more n l, length-append)

-- the digits of a number are those that the library writes
pub spelled_decimal : (n : ℕ) → n < 2 ^ 16 → spelled n ≡ decimal n
unfolding spelled digits
spelled_decimal n l =
    decimal_from_appends digits (record { one = λ k n h. rw (lt-ltb n 10 h); more = λ k n h. rw (le-ltb n 10 h) }) (suc n) n (omega arith)
    (omega (arith, length-decimal-le_succ n (omega arith)))

-- a number of 16 bits has five digits at most
pub spelled_five : (n : ℕ) → n < 2 ^ 16 → length (spelled n) ≤ 5
spelled_five n l = rw (spelled_decimal n l) (length-decimal-le 5 n (omega arith) (omega arith) (omega arith))

-- a list of no bytes
length_none : (l : List ℕ) → length l ≡ 0 → l ≡ []
length_none [] q = refl
length_none (x ∷ l) q = absurd (omega (arith, q))

-- a byte is kept at the end of those kept, where fewer than 13 are
module _ (line : List ℕ) (kept b : ℕ) (size : length line ≡ kept_most) where
  pub keep_short : kept < kept_most → take (kept + 1) (set line kept b) ≡ keep (take kept line) b
  unfolding keep
  keep_short l =
      let e : length (take kept line) ≡ kept = length-take-le kept line (omega arith) in
      rw (add-one kept, take-suc-set line kept b (omega arith), lt-ltb (length (take kept line)) kept_most (omega arith))

  pub keep_long : kept ≡ kept_most → take kept line ≡ keep (take kept line) b
  unfolding keep
  keep_long l =
      let e : length (take kept line) ≡ kept = length-take-le kept line (omega arith) in
      rw (le-ltb (length (take kept line)) kept_most (omega arith))

-- what is kept of a line is thirteen bytes at most
pub kept_few : (bytes line : List ℕ) (kept : ℕ) → take kept bytes ≡ line → kept ≤ kept_most → length line ≤ kept_most
kept_few bytes line kept e l = let q = length-take kept bytes in let r = ap length e in grind arith

-- after the first i bytes of a block; `start` is the writer before them
pub record Fedto (s : State) (block : List ℕ) (start : Writer) (table : Table) (line : List ℕ) (w : Writer) (i : ℕ) : Type 0 where
  pub small : w.at ≤ start.at + 18 * i
  pub state : ◌≡◌ {A = State} (record { table = table; kept = line }) (feed s (take i block))
  pub puts : Puts start w (fed_output s (take i block))

module _ (s : State) (block : List ℕ) (i : ℕ) (l : i < length block) where
  feed_more : feed s (take (i + 1) block) ≡ push (feed s (take i block)) (get_or block i 0)
  unfolding feed
  feed_more = rw (add-one i, take-suc block i 0 l, feed_append s (take i block) (get_or block i 0 ∷ []))

  fed_output_more : fed_output s (take (i + 1) block) ≡ fed_output s (take i block) ++ push_output (feed s (take i block)) (get_or block i 0)
  unfolding fed_output
  fed_output_more =
      rw (add-one i, take-suc block i 0 l, fed_output_append s (take i block) (get_or block i 0 ∷ []), append-nil (push_output (feed s (take i block)) (get_or block i 0)))

-- nothing is fed yet
pub fed_none : (block line : List ℕ) (table : Table) (w : Writer) → Fedto (record { table = table; kept = line }) block w table line w 0
unfolding feed fed_output
fed_none block line table w = record { small = omega arith; state = refl; puts = record { place = sym (add-zero w.at); text = refl; size = refl; lent = refl } }

module _ {s : State} {block : List ℕ} {start : Writer} {table : Table} {line : List ℕ} {w : Writer} {i : ℕ}
    (f : Fedto s block start table line w i) (l : i < length block) where
  here : State
  here = record { table = table; kept = line }

  -- the byte is the end of a line, which is answered
  pub fed_line : get_or block i 0 ≡ line_end → {table' : Table} {w' : Writer} →
      table' ≡ (key_call table line).table →
      Puts w w' (printed (key_call table line).answer) →
      w'.at ≤ w.at + 18 →
      Fedto s block start table' [] w' (i + 1)
  unfolding here line_output
  fed_line q {table'} {w'} a p d =
      let e : push here (get_or block i 0) ≡ record { table = (key_call table line).table; kept = [] } = push_end here (get_or block i 0) (eq-eqb (get_or block i 0) line_end q) in
      let g : push_output here (get_or block i 0) ≡ printed (key_call table line).answer = push_end_output here (get_or block i 0) (eq-eqb (get_or block i 0) line_end q) in
      let o : fed_output s (take (i + 1) block) ≡ fed_output s (take i block) ++ printed (key_call table line).answer =
      fed_output_more s block i l ∙ ap (λ (x : State). fed_output s (take i block) ++ push_output x (get_or block i 0)) (sym f.state)
      ∙ ap (λ (x : List ℕ). fed_output s (take i block) ++ x) g in
      record {
        small = omega (arith, f.small);
        state =
            ap (λ (x : Table). record { table = x; kept = [] }) a ∙ sym e ∙ ap (λ (x : State). push x (get_or block i 0)) f.state
            ∙ sym (feed_more s block i l);
        puts = rw o (puts_more f.puts p);
      }

  -- the byte is kept, or is past the bytes that are kept
  pub fed_byte : (get_or block i 0 ≡ line_end → ⊥) → {line' : List ℕ} → line' ≡ keep line (get_or block i 0) → Fedto s block start table line' w (i + 1)
  unfolding here
  fed_byte q {line'} k =
      let e : push here (get_or block i 0) ≡ record { table = table; kept = keep line (get_or block i 0) } = push_other here (get_or block i 0) (ne_eqb (get_or block i 0) line_end q) in
      let g : push_output here (get_or block i 0) ≡ [] = push_other_output here (get_or block i 0) (ne_eqb (get_or block i 0) line_end q) in
      let o : fed_output s (take (i + 1) block) ≡ fed_output s (take i block) =
      fed_output_more s block i l ∙ ap (λ (x : State). fed_output s (take i block) ++ push_output x (get_or block i 0)) (sym f.state)
      ∙ ap (λ (x : List ℕ). fed_output s (take i block) ++ x) g ∙ append-nil (fed_output s (take i block)) in
      record {
        small = omega (arith, f.small);
        state =
            ap (λ (x : List ℕ). record { table = table; kept = x }) k ∙ sym e ∙ ap (λ (x : State). push x (get_or block i 0)) f.state
            ∙ sym (feed_more s block i l);
        puts = rw o f.puts;
      }

-- a count of bytes at the start of a list: what lending that part asks
pub counts : (n : ℕ) (l : List ℕ) → n ≤ length l → (n ≤ length l) × (n ≡ length (take n l))
counts n l h = (h, sym (length-take-le n l h))

-- the whole block is fed; `out` is what the writer gives back
pub fed_all : {s : State} {block : List ℕ} {start : Writer} {t : Table} {line : List ℕ} {w : Writer} {i : ℕ} {out : List ℕ} →
    Fedto s block start t line w i → i ≡ length block → start.at ≡ 0 → 18 * length block ≤ length start.bytes.now → out ≡ w.bytes.now → record {
      state : ◌≡◌ {A = State} (record { table = t; kept = line }) (feed s block);
      place : w.at ≡ length (fed_output s block);
      text : out ≡ sets start.bytes.now 0 (fed_output s block);
      room : (w.at ≤ length out) × (w.at ≡ length (take w.at out));
    }
fed_all {s} {block} {start} {w = w} {i = i} {out = out} f l z r b =
    let q : take i block ≡ block = take_all i block (omega arith) in
    let p : Puts start w (fed_output s block) = rw q at f.puts in
    record {
      state = f.state ∙ ap (feed s) q;
      place = let e = p.place in omega arith;
      text = b ∙ p.text ∙ ap (λ (k : ℕ). sets start.bytes.now k (fed_output s block)) z;
      room = counts w.at out (omega (arith, f.small, p.size, ap length b));
    }

-- the end of input, with no line begun and with one
module _ (table : Table) (line : List ℕ) where
  pub finish_none : line ≡ [] → finish_output (record { table = table; kept = line }) ≡ []
  unfolding finish_output
  finish_none q = rw q

  pub finish_begun : (line ≡ [] → ⊥) → finish_output (record { table = table; kept = line }) ≡ printed (key_call table line).answer
  unfolding finish_output line_output
  finish_begun n = rw (ne_eqb (length line) 0 (λ q. n (length_none line q)))

-- the words that a key line leaves are those of the table that its call hands back
pub line_table : (w v bs : List ℕ) → length w ≡ words → v ≡ words_of (key_call (table_of w) bs).table → table_of v ≡ (key_call (table_of w) bs).table
line_table w v bs l e = ap table_of e ∙ table_words _ (key_shape _ bs (shape_table w l))

-- and those of a fresh table are its words
pub first_table_lem : (w : List ℕ) → w ≡ words_of (fresh_table places (sole_quotas places)) → state_of w [] ≡ first_state
unfolding state_of first_state keys_table list_fits quotas_fit guarantee_of limit_of sole_quotas all total
first_table_lem w e =
    let f : table_of w ≡ fresh_table places (sole_quotas places) =
    ap table_of e ∙ table_words _ (sound_fresh places (sole_quotas places) (omega arith) (omega arith) refl).formed.shape in
    ap (λ (t : Table). record { table = t; kept = [] }) f
