-- `squeezing::moved_fields` meets its contract. The loop's invariant is `Renamed`. Assumes nothing.
use mathlib.Core.Path.{◌≡◌, refl, sym, ◌∙◌, ap}
use mathlib.Core.List.{List}
use Rattle.std.specs.Prelude.{map}
use Prim.Native.Nat.{ℕ, ◌<◌}
use native.Mathlib.Omega.{arith}
use lib.ListN.{length, get_or}
use Rattle.finite.specs.Below.{tabulate, tabulate_from}
use Rattle.finite.proofs.Below.{get_or_tabulate}
use Rattle.finite.proofs.Select.{tabulate_entries}
use Rattle.table.specs.declared.Fields.{Fields}
use Rattle.table.specs.Table.{Table, exits, target_of}
use Rattle.table.specs.Calls.{fields_of}
use Rattle.squeezing.specs.Moves.{followed}
use Rattle.squeezing.proofs.moved_fields.Invariants.{Renamed}
use Rattle.squeezing.proofs.moved_fields.Goals as goal

-- The fields f of step i.
module _ (t : Table) (i : ℕ) {f : Fields} (q : f ≡ fields_of t i) where
  target : (e : ℕ) → e < exits → get_or f.targets e 0 ≡ target_of t i e
  unfolding fields_of
  target e l = rw (q, get_or_tabulate exits (target_of t i) 0 e l)

  size : length f.targets ≡ exits
  unfolding fields_of tabulate tabulate_from
  size = rw q

  renamed : (numbers after : List ℕ) (e : ℕ) → Renamed numbers f.targets after e → e ≡ exits →
      after ≡ map (λ j. get_or numbers j 0) (fields_of t i).targets
  unfolding fields_of tabulate tabulate_from
  renamed numbers after e r z =
      sym (tabulate_entries exits (λ k. get_or numbers (target_of t i k) 0) after 0 (r.size ∙ size)
      (λ k l. ap (λ (j : ℕ). get_or numbers j 0) (sym (target k l)) ∙ sym (r.new k (rw z l))))

pub loop-target-init : goal.loop-target-init
loop-target-init c = record { size = refl; new = λ k l. absurd (omega arith); old = λ k l. refl }

pub bounds-numbers-from : goal.bounds-numbers-from
bounds-numbers-from c =
    let e = c.loop-target.target-index in
    let was = c.from.ensures ∙ c.loop-target.invariant.old e (omega arith) ∙ target _ _ c.fields_of-moved.ensures e (omega arith) in
    rw was (c.requires.targets e (omega arith))

pub returns : goal.returns
unfolding followed
returns c =
    let e = renamed _ _ c.fields_of-moved.ensures c.args.numbers.now _ _ c.loop-target.invariant (omega arith) in
    rw (e, c.fields_of-moved.ensures)
