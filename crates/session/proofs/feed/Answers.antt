-- `session::feed` meets its contract. The loop's invariant is `Fedto`. Assumes nothing.
use mathlib.Core.Path.{refl}
use native.Mathlib.Omega.{arith}
use Rattle.words.specs.Words.{table_of}
use Rattle.session.specs.Session.{state_of}
use Rattle.session.proofs.Laws.{fed_none, fed_line, fed_byte, fed_all, kept_few}
use Rattle.std.proofs.Common.{rules}
use Rattle.session.proofs.feed.Goals as goal
use Rattle.session.proofs.feed.Goals.{then-byte-eq-LINE_END, else-byte-eq-LINE_END}

pub loop-byte-init : goal.loop-byte-init
loop-byte-init c =
    let a = c.args in
    fed_none a.block.now a.line.now (table_of a.t.now) _

pub loop-byte-preserved : goal.loop-byte-preserved
loop-byte-preserved c =
    let before = c.loop-byte.invariant in
    let inside = c.loop-byte-test.true in
    elim c.if-byte-eq-LINE_END.branch [
      | then-byte-eq-LINE_END w ↦
          let p = w.end_line.ensures in
          let q = w.as_bytes.ensures in
          rw (w.t-is, w.line-is, w.writer-is, w.clear.ensures)
          (fed_line before inside w.if-byte-eq-LINE_END.true (rw q at p.table) (rw q at p.text) p.room)
      | else-byte-eq-LINE_END w ↦ rw (w.t-is, w.line-is, w.writer-is) (fed_byte before inside w.if-byte-eq-LINE_END.false w.keep.ensures)
    ]

pub returns : goal.returns
unfolding state_of
returns c =
    let f = c.loop-byte.invariant in
    -- the bytes are those lent, so `search` finds what `out` is at the end
    let l = f.puts.lent in
    let r = fed_all f (omega arith) refl c.requires (search rules) in
    record { kept = kept_few _ _ _ c.line.view_is c.line.invariant; state = r.state; place = r.place; text = r.text; room = r.room }
