-- `clearing::goes_on` meets its contract: it looks at the link, its target's bit and the counter of its strong links. Assumes nothing.
use mathlib.Core.Path.{◌≡◌, sym, ◌∙◌, ap, ap₂}
use Prim.Native.Nat.{◌<◌}
use Rattle.table.specs.Table.{places, target_of, link_bit, own_bit, counter_of}
use Rattle.table.proofs.Formed.{formed_place}
use Rattle.words.specs.Words.{table_of}
use Rattle.words.proofs.Formed.{target_place}
use Rattle.clearing.proofs.Outcomes.{weak_stops, last_goes}
use Rattle.clearing.proofs.goes_on.Goals as goal
use Rattle.clearing.proofs.goes_on.Goals.{After-from-j}

target : (c : After-from-j) → c.from-j.result ≡ target_of (table_of c.args.t.now) c.args.i c.args.e
target c = c.from-j.ensures ∙ c.target_at.ensures

target_below : (c : After-from-j) → c.from-j.result < places
target_below c = rw (target c) (target_place c.requires.0.formed c.args.i c.args.e c.requires.1.exit)

pub target_at-requires : goal.target_at-requires
target_at-requires c = (formed_place c.requires.0.formed c.args.i c.requires.1.used, c.requires.1.exit)

pub bit_at-b-requires : goal.bit_at-b-requires
bit_at-b-requires c = (formed_place c.requires.0.formed c.args.i c.requires.1.used, c.requires.1.exit)

pub own_at-requires : goal.own_at-requires
own_at-requires c = target_below c.before

pub returns-then-b-own_at : goal.returns-then-b-own_at
returns-then-b-own_at c =
    let own = c.own_at.ensures ∙ ap (own_bit (table_of c.args.t.now)) (c.from-j.ensures ∙ c.target_at.ensures) in
    sym (weak_stops _ c.requires.0 _ _ c.requires.1 (λ q. c.if-b-own_at.true (c.bit_at-b.ensures ∙ q ∙ sym own)))

pub counter_at-requires : goal.counter_at-requires
counter_at-requires c =
    (target_below c.before.before.before.before, rw (c.from.ensures, c.bit_at-b.ensures) (c.requires.0.formed.bits c.args.i c.args.e c.requires.1.used c.requires.1.exit))

pub returns : goal.returns
returns c =
    let t = table_of c.args.t.now in
    let target = c.from-j.ensures ∙ c.target_at.ensures in
    let own = c.own_at.ensures ∙ ap (own_bit t) target in
    let same : c.counter_at.result ≡ counter_of t (target_of t c.args.i c.args.e) (link_bit t c.args.i c.args.e) =
    c.counter_at.ensures ∙ ap₂ (counter_of t) target (c.from.ensures ∙ c.bit_at-b.ensures) in
    rw same (sym (last_goes t c.requires.0 _ _ c.requires.1 (sym c.bit_at-b.ensures ∙ c.if-b-own_at.false ∙ own)))
