-- `steps::holds_link` meets its contract: a step in use has a place. Assumes nothing.
use Rattle.table.specs.Table.{holds}
use Rattle.table.proofs.Places.{own_exit}
use Rattle.table.proofs.Links.{used_place}
use Rattle.words.proofs.Laws.{shape_table}
use Rattle.steps.proofs.holds_link.Goals as goal

pub target_at-requires : goal.target_at-requires
target_at-requires c =
    let z = c in
    let p = z.requires in
    rw (c.from-2.ensures, c.from.ensures) (used_place (shape_table _ z.told-t) _ p.0, own_exit _ _ p.1)

pub returns : goal.returns
unfolding holds
returns c = rw (c.target_at.ensures, c.from-2.ensures, c.from.ensures)
