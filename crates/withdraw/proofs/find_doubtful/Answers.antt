-- `find_doubtful` marks the doubtful steps and the candidates, by a search that spares the counter of the exit's target. Assumes nothing.
use Rattle.std.proofs.Common.{◌≡◌, ◌∙◌, ap, ap₂, ℕ, ◌+◌, ◌*◌, ◌<◌}
use Rattle.table.specs.Table.{Table, places, counters, counter_place, own_bit, target_of}
use Rattle.table.proofs.Formed.{formed_place}
use Rattle.words.specs.Words.{table_of}
use Rattle.withdraw.specs.Search.{own_slot}
use Rattle.withdraw.specs.Withdraw.{Losing}
use Rattle.withdraw.proofs.Slots.{own_slot_below}
use Rattle.withdraw.proofs.Doubtful.{ranged, start_low, begin_doubt, found_doubt, found_candidates}
use Rattle.withdraw.proofs.find_doubtful.Goals as goal

-- The step j is the target of the exit, and its own bit is b.
module _ (t : Table) (i e : ℕ) (o : Losing t i e) (j : ℕ) (ej : j ≡ target_of t i e) where
  target_below : j < places
  target_below = rw ej (start_low t i e o)

  -- the counter of its own bit
  counter : (b : ℕ) → b ≡ own_bit t j → j * counters + b ≡ own_slot t (target_of t i e)
  unfolding own_slot counter_place
  counter b eb = ap₂ counter_place ej (eb ∙ ap (own_bit t) ej)

  counter_below : (b : ℕ) → b ≡ own_bit t j → j * counters + b < places * counters
  counter_below b eb = rw (counter b eb) (own_slot_below t (ranged t i e o) _ (start_low t i e o))

pub target_at-requires : goal.target_at-requires
target_at-requires c = (formed_place c.requires.0.sound.formed _ c.requires.0.fits.used, c.requires.0.fits.exit)

pub own_at-requires : goal.own_at-requires
own_at-requires c = target_below _ _ _ c.requires.0 _ (c.from-j.ensures ∙ c.target_at.ensures)

pub bounds-left-j : goal.bounds-left-j
bounds-left-j c = counter_below _ _ _ c.requires.0 _ (c.from-j.ensures ∙ c.target_at.ensures) _ (c.from.ensures ∙ c.own_at.ensures)

pub bounds-doubt-j : goal.bounds-doubt-j
bounds-doubt-j c = target_below _ _ _ c.requires.0 _ (c.from-j.ensures ∙ c.target_at.ensures)

pub withdraw_step-requires : goal.withdraw_step-requires
withdraw_step-requires c =
    let t = table_of c.args.t.now in
    let o = c.requires.0 in
    let target = c.from-j.ensures ∙ c.target_at.ensures in
    let own = counter _ _ _ o _ target _ (c.from.ensures ∙ c.own_at.ensures) in (
      target_below _ _ _ o _ target,
      ranged _ _ _ o,
      (t.counts, (_, (λ (q : ℕ). 0), begin_doubt _ _ _ o _ _ _ _ target own c.counters_of-left.ensures c.requires.1)),
    )

pub mark_wanted-requires : goal.mark_wanted-requires
mark_wanted-requires c = (ranged _ _ _ c.requires.0, c.requires.2)

pub returns : goal.returns
returns c =
    let o = c.requires.0 in
    let target = c.from-j.ensures ∙ c.target_at.ensures in
    let own = counter _ _ _ o _ target _ (c.from.ensures ∙ c.own_at.ensures) in
    let n = c.counters_of-left.ensures in
    let ends = c.withdraw_step.ensures in
    record {
      doubt = found_doubt _ _ _ o _ _ _ _ target own n c.requires.1 _ _ ends;
      wanted = c.mark_wanted.ensures ∙ found_candidates _ _ _ o _ _ _ _ target own n c.requires.1 _ _ ends;
    }
