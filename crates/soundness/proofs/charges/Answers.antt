-- `charges` is the test of soundness, and tells what the cabins are charged. Assumes nothing.
use mathlib.Core.Path.{◌≡◌, sym, ◌∙◌, ap₂}
use mathlib.Core.Bool.{Bool}
use Prim.Native.Nat.{ℕ, ◌-◌, ◌≤◌}
use lib.ListN.{get_or, set}
use Rattle.finite.specs.Below.{tabulate}
use Rattle.finite.proofs.Bools.{clash}
use Rattle.table.specs.Table.{Table, cabin_count, kind_of, content_of, own_bit, cabin_of}
use Rattle.table.specs.Cabins.{charge}
use Rattle.words.specs.Words.{table_of}
use Rattle.words.proofs.Laws.{shape_table}
use Rattle.soundness.specs.Tests.{numbers_fit, alarm_fits, fields_at}
use Rattle.soundness.proofs.Tests.{numbers_least, numbers_most, alarm_apart}
use Rattle.soundness.proofs.Laws.{Fitted, Checked, charges_counted, checked_ranged, checked_spans, refused_first, refused_unsound, passed_sound}
use Rattle.soundness.proofs.charges.Goals as goal
use Rattle.soundness.proofs.charges.Goals.{After-cabin_steps, Else-counted-from, Else-not-quotas_hold}

-- what the first two parts of the test say of the table, as they come out
numbers : (t : Table) {capacity last : ℕ} {r b : Bool} → capacity ≡ t.capacity → last ≡ t.last → r ≡ numbers_fit capacity last → r ≡ b →
    numbers_fit t.capacity t.last ≡ b
numbers t c l e h = sym (e ∙ ap₂ numbers_fit c l) ∙ h

alarm : (t : Table) {used kind content own count cabin : ℕ} {r b : Bool} → used ≡ get_or t.used 0 0 → kind ≡ kind_of t 0 → content ≡ content_of t 0 →
    own ≡ own_bit t 0 → count ≡ get_or t.counts 0 0 → cabin ≡ cabin_of t 0 → r ≡ alarm_fits used kind content own count cabin → r ≡ b →
    alarm_fits (get_or t.used 0 0) (kind_of t 0) (content_of t 0) (own_bit t 0) (get_or t.counts 0 0) (cabin_of t 0) ≡ b
alarm t u k x o n i e h = sym (rw (u, k, x, o, n, i) at e) ∙ h

fit : (c : Else-counted-from) → Fitted (table_of c.args.t.now)
fit c =
    record {
      shape = shape_table _ c.told-t;
      numbers = numbers (table_of c.args.t.now) c.capacity.ensures c.last.ensures c.numbers_fit.ensures c.if-not-numbers_fit.false;
      alarm =
          alarm (table_of c.args.t.now) c.used_at.ensures c.kind_at.ensures c.content_at.ensures c.own_at.ensures
          c.count_in.ensures c.cabin_at.ensures c.alarm_fits.ensures c.if-not-alarm_fits.false;
      arrays = sym c.arrays_fit.ensures ∙ c.if-not-arrays_fit.false;
    }

-- what the pass counted
counts : (c : After-cabin_steps) →
    let cabins = c.cabin_steps.result in
    (1 ≤ get_or cabins 0 0) × (set cabins 0 (get_or cabins 0 0 - 1) ≡ tabulate cabin_count (charge (table_of c.args.t.now)))
counts c = charges_counted (fit c.before) _ c.cabin_steps.ensures

checked : (c : Else-not-quotas_hold) → Checked (table_of c.args.t.now)
checked c =
    record {
      fitted = fit c.before.before.before.before.before;
      sum = sym c.counted.ensures ∙ c.if-counted-from.false ∙ c.from.ensures ∙ c.filled.ensures;
      quotas = sym c.quotas_hold.ensures ∙ c.if-not-quotas_hold.false;
    }

pub returns-then-not-numbers_fit-clause-sound : goal.returns-then-not-numbers_fit-clause-sound
returns-then-not-numbers_fit-clause-sound c =
    refused_unsound (table_of c.args.t.now)
    (λ k.
    clash k.fitted.numbers (numbers (table_of c.args.t.now) c.capacity.ensures c.last.ensures c.numbers_fit.ensures c.if-not-numbers_fit.true))

pub returns-then-not-alarm_fits-clause-sound : goal.returns-then-not-alarm_fits-clause-sound
returns-then-not-alarm_fits-clause-sound c =
    refused_unsound (table_of c.args.t.now)
    (λ k.
    clash k.fitted.alarm
    (alarm (table_of c.args.t.now) c.used_at.ensures c.kind_at.ensures c.content_at.ensures c.own_at.ensures
    c.count_in.ensures c.cabin_at.ensures c.alarm_fits.ensures c.if-not-alarm_fits.true))

pub arrays_fit-requires : goal.arrays_fit-requires
unfolding fields_at
arrays_fit-requires c = (
  numbers_most _ _ (numbers (table_of c.args.t.now) c.capacity.ensures c.last.ensures c.numbers_fit.ensures c.if-not-numbers_fit.false),
  alarm_apart _ _ _ _ _ _
      (alarm (table_of c.args.t.now) c.used_at.ensures c.kind_at.ensures c.content_at.ensures c.own_at.ensures
      c.count_in.ensures c.cabin_at.ensures c.alarm_fits.ensures c.if-not-alarm_fits.false),
)

pub returns-then-not-arrays_fit-clause-sound : goal.returns-then-not-arrays_fit-clause-sound
returns-then-not-arrays_fit-clause-sound c = refused_unsound (table_of c.args.t.now) (λ k. clash k.fitted.arrays (sym c.arrays_fit.ensures ∙ c.if-not-arrays_fit.true))

pub returns-then-counted-from-clause-sound : goal.returns-then-counted-from-clause-sound
returns-then-counted-from-clause-sound c = refused_unsound (table_of c.args.t.now) (λ k. c.if-counted-from.true (c.counted.ensures ∙ k.sum ∙ sym (c.from.ensures ∙ c.filled.ensures)))

pub charges_of-charges-requires : goal.charges_of-charges-requires
charges_of-charges-requires c = (counts c).0

pub quotas_hold-requires : goal.quotas_hold-requires
quotas_hold-requires c = (
  numbers_least _ _ (numbers (table_of c.args.t.now) c.capacity.ensures c.last.ensures c.numbers_fit.ensures c.if-not-numbers_fit.false),
  c.charges_of-charges.ensures ∙ (counts c.before.before).1,
)

pub returns-then-not-quotas_hold-clause-sound : goal.returns-then-not-quotas_hold-clause-sound
returns-then-not-quotas_hold-clause-sound c = refused_unsound (table_of c.args.t.now) (λ k. clash k.quotas (sym c.quotas_hold.ensures ∙ c.if-not-quotas_hold.true))

pub spans-requires : goal.spans-requires
spans-requires c = checked_ranged (checked c)

pub returns-then-not-spans-clause-sound : goal.returns-then-not-spans-clause-sound
returns-then-not-spans-clause-sound c =
    refused_first (table_of c.args.t.now) (sym (checked_spans _ (checked c.before.before) _ c.spans.ensures) ∙ c.if-not-spans.true)

pub returns : goal.returns
returns c =
    record {
      sound = passed_sound (table_of c.args.t.now) (sym (checked_spans _ (checked c.before.before) _ c.spans.ensures) ∙ c.if-not-spans.false);
      charges = c.charges_of-charges.ensures ∙ (counts c.before.before.before.before.before.before).1;
    }
