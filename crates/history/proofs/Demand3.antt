-- Histories from any beginning: sound throughout, and as the plan says. Assumes nothing.
use mathlib.Core.Path.{◌≡◌, refl, sym, ◌∙◌, ap, ap₂, subst}
use mathlib.Core.Bool.{true, false}
use mathlib.Core.Logic.{⊎_elim}
use mathlib.Core.List.{List, [], ◌∷◌}
use Prim.Native.Nat.{ℕ, ◌<◌}
use native.Mathlib.Omega.{arith}
use Rattle.finite.specs.Below.{all, total}
use Rattle.finite.proofs.Bools.{test}
use Rattle.table.specs.Table.{Table, places, counters, in_use, counter_of, links_to, steps_in_use, StrongChain}
use Rattle.table.specs.Sound.{Sound, sound, capacity_fits}
use Rattle.table.specs.Cabins.{guarantee_of, limit_of, quotas_fit, list_fits, sole_quotas}
use Rattle.table.specs.Answer.{first, unless, refusal_of}
use Rattle.table.specs.Calls.{fresh_table, refused_table, fresh_call}
use Rattle.table.specs.Plan.{Plan, plan_of, fresh_plan}
use Rattle.table.proofs.Sound.{capacity_range, test_sound, sound_test}
use Rattle.table.proofs.Formed.{formed_counts}
use Rattle.table.proofs.Spine.{strong_chain_short}
use Rattle.table.proofs.Edits.{sound_fresh}
use Rattle.table.proofs.Plan.{plan_fresh}
use Rattle.table.proofs.Calls.{unless_refusal}
use Rattle.image.specs.Image.{accepted, image_table, load_call}
use Rattle.image.proofs.Laws.{accepted_sound, accepted_plan}
use Rattle.history.specs.History.{First, fresh, load, Call, run, with_told, table_after, heard_by, plan_after, drawn_by, first_row, first_refusal, first_table, first_plan}
use Rattle.history.specs.Demands.{Demand3}
use Rattle.history.proofs.Agree.{call_agrees}

-- what a refused fresh or load hands back
refused_sound : Sound refused_table
unfolding refused_table list_fits quotas_fit guarantee_of limit_of sole_quotas all total
refused_sound = sound_fresh 1 (sole_quotas 1) (omega arith) (omega arith) refl

refused_plan : plan_of refused_table ≡ fresh_plan 1 (sole_quotas 1)
unfolding refused_table
refused_plan = plan_fresh 1 (sole_quotas 1)

-- the first call is refused by the first of its conditions
first_refusal_lem : (f : First) → first_refusal f ≡ first (first_row f).conditions
unfolding first_refusal first_row fresh_call load_call refusal_of
first_refusal_lem (fresh c q) = unless_refusal _ refused_table _ refl
first_refusal_lem (load bs) = unless_refusal _ refused_table _ refl

-- what a history begins with is sound, and its plan is the plan that it begins with
pub record Begun (f : First) : Type 0 where
  pub sound : Sound (first_table f)
  plan : plan_of (first_table f) ≡ first_plan f

-- from the table that the first call came to
begun_as : (f : First) (u : Table) → first_table f ≡ u → Sound u → plan_of u ≡ first_plan f → Begun f
begun_as f u e s p = record { sound = subst Sound (sym e) s; plan = ap plan_of e ∙ p }

module _ (c : ℕ) (q : List ℕ) where
  fresh_made : capacity_fits c ≡ true → list_fits c q ≡ true → Begun (fresh c q)
  unfolding first_table first_row first_plan fresh_call unless first
  fresh_made h g =
      let r = capacity_range c h in
      begun_as (fresh c q) (fresh_table c q) (rw (h, g, first_table)) (sound_fresh c q r.0 r.1 g) (rw (h, g) (plan_fresh c q))

  fresh_listed : capacity_fits c ≡ true → list_fits c q ≡ false → Begun (fresh c q)
  unfolding first_table first_row first_plan fresh_call unless first
  fresh_listed h g = begun_as (fresh c q) refused_table (rw (h, g, first_table)) refused_sound (rw (h, g) refused_plan)

  fresh_refused : capacity_fits c ≡ false → Begun (fresh c q)
  unfolding first_table first_row first_plan fresh_call unless first
  fresh_refused h = begun_as (fresh c q) refused_table (rw (h, first_table)) refused_sound (rw h refused_plan)

module _ (bs : List ℕ) where
  load_made : accepted bs ≡ true → Begun (load bs)
  unfolding first_table first_row first_plan load_call unless first
  load_made h = begun_as (load bs) (image_table bs) (rw (h, first_table)) (test_sound (image_table bs) (accepted_sound bs h)) (rw h (accepted_plan bs h))

  load_refused : accepted bs ≡ false → Begun (load bs)
  unfolding first_table first_row first_plan load_call unless first
  load_refused h = begun_as (load bs) refused_table (rw (h, first_table)) refused_sound (rw h refused_plan)

pub begun : (f : First) → Begun f
begun (fresh c q) =
    ⊎_elim (λ h. ⊎_elim (fresh_made c q h) (fresh_listed c q h) (test (list_fits c q))) (fresh_refused c q) (test (capacity_fits c))
begun (load bs) = ⊎_elim (load_made bs) (load_refused bs) (test (accepted bs))

-- along the list, each call on the table as the one before left it
pub after_sound : (t : Table) → Sound t → (cs : List Call) → Sound (table_after t cs)
unfolding table_after
after_sound t s [] = s
after_sound t s (c ∷ cs) = after_sound (run t c).table (call_agrees s c).sound cs

after_plan : (t : Table) → Sound t → (cs : List Call) → plan_of (table_after t cs) ≡ plan_after (plan_of t) (with_told t cs)
unfolding table_after plan_after with_told
after_plan t s [] = refl
after_plan t s (c ∷ cs) =
    after_plan (run t c).table (call_agrees s c).sound cs ∙ ap (λ (p : Plan). plan_after p (with_told (run t c).table cs)) (call_agrees s c).plan

after_heard : (t : Table) → Sound t → (cs : List Call) → heard_by t cs ≡ drawn_by (plan_of t) (with_told t cs)
unfolding heard_by drawn_by with_told
after_heard t s [] = refl
after_heard t s (c ∷ cs) =
    ap₂ ◌∷◌ (call_agrees s c).heard
    (after_heard (run t c).table (call_agrees s c).sound cs ∙ ap (λ (p : Plan). drawn_by p (with_told (run t c).table cs)) (call_agrees s c).plan)

pub demand_3 : (f : First) (cs : List Call) → Demand3 f cs
demand_3 f cs =
    let b = begun f in
    let s = after_sound (first_table f) b.sound cs in
    record {
      sound = s;
      short = strong_chain_short s;
      reached = λ i u d. s.reached i u;
      plan = after_plan (first_table f) b.sound cs ∙ ap (λ (p : Plan). plan_after p (with_told (first_table f) cs)) b.plan;
      begun = first_refusal_lem f;
      heard = after_heard (first_table f) b.sound cs ∙ ap (λ (p : Plan). drawn_by p (with_told (first_table f) cs)) b.plan;
      counts = formed_counts s.formed;
    }

-- each part of it by itself
module _ (f : First) (cs : List Call) where
  abbrev left : Table
  left = table_after (first_table f) cs

  pub history_sound : sound left ≡ true
  history_sound = sound_test left (demand_3 f cs).sound

  pub history_short : (a b n : ℕ) → StrongChain left a b n → n < steps_in_use left
  history_short = (demand_3 f cs).short

  pub history_reached : (i : ℕ) → in_use left i ≡ true → (i ≡ 0 → ⊥) → (n : ℕ) × StrongChain left 0 i n
  history_reached = (demand_3 f cs).reached

  pub history_plan : plan_of left ≡ plan_after (first_plan f) (with_told (first_table f) cs)
  history_plan = (demand_3 f cs).plan

  pub history_begun : first_refusal f ≡ first (first_row f).conditions
  history_begun = (demand_3 f cs).begun

  pub history_heard : heard_by (first_table f) cs ≡ drawn_by (first_plan f) (with_told (first_table f) cs)
  history_heard = (demand_3 f cs).heard

  pub history_counts : (i b : ℕ) → i < places → b < counters → counter_of left i b ≡ links_to left i b
  history_counts = (demand_3 f cs).counts
