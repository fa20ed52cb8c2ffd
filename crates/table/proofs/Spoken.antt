-- The spoken counts are those of the plain plan (document 01, "Keys"). Assumes nothing.
use mathlib.Core.Path.{◌≡◌, sym, ap, ap₂}
use Prim.Native.Nat.{◌-◌}
use Rattle.table.specs.Table.{Table}
use Rattle.table.specs.Said.{Answer, Given}
use Rattle.table.specs.Sound.{Sound}
use Rattle.table.specs.Plan.{plan_of, plan_count}
use Rattle.table.proofs.Links.{sound_wired}
use Rattle.table.proofs.Plan.{plan_capacity, plan_count_lem}
use Rattle.table.specs.Calls.{spoken_counts}

pub spoken_plan : (t : Table) → Sound t →
    spoken_counts t ≡ record { answer = Given (plan_count (plan_of t)) ((plan_of t).capacity - plan_count (plan_of t)); table = t }
unfolding spoken_counts
spoken_plan t s =
    ap (λ (a : Answer). record { answer = a; table = t })
    (ap₂ Given (sym (plan_count_lem (sound_wired s))) (ap₂ ◌-◌ (sym (plan_capacity t)) (sym (plan_count_lem (sound_wired s)))))
