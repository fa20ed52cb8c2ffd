-- `words::relink` meets its contract. Assumes nothing.
use mathlib.Core.Path.{◌∙◌, ap}
use lib.ListN.{set}
use Rattle.table.specs.Table.{Table, exit_place, counter_of, with_links}
use Rattle.table.specs.Calls.{raised, relink}
use Rattle.words.proofs.Laws.{lowered_below}
use Rattle.words.proofs.relink.Goals as goal

pub lower-requires : goal.lower-requires
lower-requires c =
    let s = c in
    let old = s.requires.old in
    let b = c.bit_at-old_bit.ensures in
    let j = c.target_at-old.ensures in
    rw (b, j) (old.target, old.bit, old.counted)

pub raise-requires : goal.raise-requires
unfolding counter_of with_links
raise-requires c =
    let s = c in
    (s.requires.target, s.requires.bit, λ d. rw c.lower.ensures.table (lowered_below _ _ 65535 _ s.requires.room _))

pub returns : goal.returns
unfolding relink with_links
returns c =
    let s = c in
    let i = s.args.i in
    let e = s.args.e in
    let j = s.args.j in
    let b = s.args.b in
    record {
      table =
          c.put_link.ensures.table ∙
          ap (λ (t : Table). with_links t (set t.targets (exit_place i e) j) (set t.bits (exit_place i e) b) t.counts)
          (c.raise.ensures.table ∙
          ap (λ (t : Table). with_links t t.targets t.bits (raised j b t.counts))
          c.lower.ensures.table) ∙
          rw (
            c.bit_at-old_bit.ensures,
            c.target_at-old.ensures,
          );
      size = c.put_link.ensures.size ∙ c.raise.ensures.size ∙ c.lower.ensures.size;
    }
