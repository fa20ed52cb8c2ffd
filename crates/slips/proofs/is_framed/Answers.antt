-- `slips::is_framed` meets its contract. The loop's invariant: the old records of the pairs before what is left are of steps that a table
-- has. Assumes nothing.
use mathlib.Core.Path.{◌≡◌, sym, ◌∙◌, ap}
use mathlib.Core.Bool.{true, false}
use mathlib.Core.List.{List, ◌++◌}
use Prim.Native.Nat.{ℕ, ◌+◌, ◌-◌, ◌≤◌, ◌<◌}
use native.Mathlib.Omega.{arith}
use lib.ListN.{length, drop, length-drop}
use lib.Seq.{take_all}
use borrow.Author.Tests.{lt-ltb, le-ltb, eq-eqb, ne_eqb}
use Rattle.finite.specs.Below.{all}
use Rattle.finite.proofs.Loops.{all_none, all_more, all_fails, all_done}
use Rattle.table.specs.Table.{places}
use Rattle.image.specs.Image.{record_size, word_at, field_at}
use Rattle.image.specs.Slip.{slip_size, slip_count, old_place}
use Rattle.slips.specs.Framed.{framed}
use Rattle.std.specs.Slice.Iter.{chunks_exact_size}
use Rattle.records.proofs.Reading.{word_part, part_room, part_behind}
use Rattle.slips.proofs.is_framed.Invariants.{place, numbered, Passed}
use Rattle.slips.proofs.is_framed.Goals as goal

-- bytes that are not as long as they say
unsized : (bs : List ℕ) → (length bs ≡ place (slip_count bs) → ⊥) → false ≡ framed bs
unfolding framed record_size
unsized bs h = rw (ne_eqb (length bs) (place (slip_count bs)) h)

-- bytes that are
sized : (bs : List ℕ) → length bs ≡ place (slip_count bs) → framed bs ≡ all (slip_count bs) (numbered bs)
unfolding framed record_size
sized bs h = rw (eq-eqb (length bs) (place (slip_count bs)) h)

-- the next pair of what is left of the bytes
module _ {bs left : List ℕ} {size : ℕ} (f : Passed bs left size) (part rest : List ℕ) (split : left ≡ part ++ rest) (n : length part ≡ size) where
  here : drop (place f.done) bs ≡ part ++ rest
  here = sym f.rest ∙ split

  inside : length bs ≡ place (slip_count bs) → f.done < slip_count bs
  inside h = omega (arith, h, n, f.each, part_room bs part rest (place f.done) here (omega (arith, n, f.each)))

  -- the number of its old record is a word of it
  number : {w : ℕ} → w ≡ word_at part 4 → field_at bs (old_place f.done) 0 ≡ w
  unfolding field_at record_size
  number e = sym (word_part bs part rest (place f.done) here 4 (omega (arith, n, f.each))) ∙ sym e

-- the length that the code works out
worked : (bs : List ℕ) {n k : ℕ} → n ≡ slip_size k → k ≡ word_at bs 4 → n ≡ place (slip_count bs)
unfolding slip_count record_size
worked bs e f = e ∙ ap place f

pub returns-then-bytes-lt-HEAD-clause-framed : goal.returns-then-bytes-lt-HEAD-clause-framed
returns-then-bytes-lt-HEAD-clause-framed c = unsized c.args.bytes.now (λ e. omega arith)

pub returns-then-bytes-slip_size-clause-framed : goal.returns-then-bytes-slip_size-clause-framed
returns-then-bytes-slip_size-clause-framed c =
    let bs = c.args.bytes.now in
    unsized bs (λ e. c.if-bytes-slip_size.true (e ∙ sym (worked bs c.slip_size.ensures c.word_at.ensures)))

pub loop-pair-init : goal.loop-pair-init
loop-pair-init c =
    let bs = c.args.bytes.now in
    let same = c.into_iter-pair-iterator.ensures.into_iter_gives in
    let items = c.chunks_exact-pair-items.ensures in
    let each : chunks_exact_size c.into_iter-pair-iterator.result ≡ 44 = rw same items.size in (
      omega (arith, each),
      tt,
      record {
        done = 0;
        rest = rw same (items.rest ∙ take_all (length bs - 6) (drop 6 bs) (omega (arith, length-drop 6 bs)));
        each = each;
        numbers = all_none (numbered bs);
      },
    )

pub returns-then-word_at-ge128-clause-framed : goal.returns-then-word_at-ge128-clause-framed
returns-then-word_at-ge128-clause-framed c =
    let bs = c.args.bytes.now in
    let f = c.loop-pair.invariant.2 in
    let next = c.in-Some.ensures.steps.1 in
    let long = c.if-bytes-slip_size.false ∙ worked bs c.slip_size.ensures c.word_at.ensures in
    let found = number f _ _ next.0 next.1 c.word_at-in-loop-pair.ensures in
    let other : numbered bs f.done ≡ false = le-ltb (field_at bs (old_place f.done) 0) places (omega (arith, found, c.if-word_at-ge128.true)) in
    sym (sized bs long ∙ all_fails (slip_count bs) (numbered bs) f.done (inside f _ _ next.0 next.1 long) other)

pub loop-pair-preserved : goal.loop-pair-preserved
loop-pair-preserved c =
    let bs = c.args.bytes.now in
    let f = c.loop-pair.invariant.2 in
    let steps = c.in-Some.ensures.steps in
    let next = steps.1 in
    let found = number f _ _ next.0 next.1 c.word_at-in-loop-pair.ensures in
    let this : numbered bs f.done ≡ true = lt-ltb (field_at bs (old_place f.done) 0) places (omega (arith, found, c.if-word_at-ge128.false)) in
    let behind = part_behind bs _ _ (place f.done) (here f _ _ next.0 next.1) 44 (next.1 ∙ f.each) in
    let place_next : place (f.done + 1) ≡ place f.done + 44 = omega arith in (
      omega (arith, steps.0, f.each),
      tt,
      record {
        done = f.done + 1;
        rest = sym behind ∙ ap (λ (k : ℕ). drop k bs) (sym place_next);
        each = steps.0 ∙ f.each;
        numbers = all_more f.done (numbered bs) f.numbers this;
      },
    )

pub returns-clause-framed : goal.returns-clause-framed
returns-clause-framed c =
    let bs = c.args.bytes.now in
    let f = c.loop-pair.invariant.2 in
    let long = c.if-bytes-slip_size.false ∙ worked bs c.slip_size.ensures c.word_at.ensures in
    let h : slip_count bs ≤ f.done =
    omega (arith, c.in-None.ensures.steps.1.0, ap length f.rest, length-drop (place f.done) bs, f.each, long) in
    all_done f.done (slip_count bs) (numbered bs) f.numbers h ∙ sym (sized bs long)
