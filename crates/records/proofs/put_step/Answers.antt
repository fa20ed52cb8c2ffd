-- `records::put_step` meets its contract: the numbers that are put are those of the record. Assumes nothing.
use mathlib.Core.Path.{◌≡◌, sym, ap}
use mathlib.Core.List.{List, [], ◌∷◌, ◌++◌}
use Prim.Native.Nat.{ℕ, ◌≤◌}
use native.Mathlib.Omega.{arith}
use lib.ListN.{length, drop}
use Rattle.image.specs.Image.{step_kind_of, step_field_count, record_size, record_bytes}
use Rattle.records.specs.declared.StepRecord.{StepRecord}
use Rattle.records.specs.declared.Edition.{Edition}
use Rattle.records.specs.Records.{edition_of, put_words, added, record_fields}
use Rattle.records.proofs.Laws.{put_more, put_record, step_length, step_most}
use Rattle.records.proofs.Reading.{step_least}
use Rattle.records.proofs.put_step.Goals as goal

-- the fields before the one that edition 2 adds, and that one
abbrev fields : StepRecord → List ℕ → List ℕ
fields r rest = r.number ∷ r.kind ∷ r.content ∷ r.bits ∷ r.first ∷ r.second ∷ r.third ∷ r.fourth ∷ rest

-- the record, where what the edition adds is put behind them
whole : (part ds : List ℕ) (edition : Edition) (size kind : ℕ) (r : StepRecord) (rest : List ℕ) →
    let e = edition_of edition in
    size ≡ record_size (step_field_count e) → kind ≡ step_kind_of e → record_size (step_field_count e) ≤ length part →
    rest ≡ added e (r.cabin ∷ []) → ds ≡ put_words part 0 (size ∷ kind ∷ fields r rest) →
    ds ≡ record_bytes (step_kind_of e) (record_fields e r) ++ drop (record_size (step_field_count e)) part
unfolding record_fields
whole part ds edition size kind r rest n k h q p =
    let e = edition_of edition in
    put_record part ds (step_field_count e) size kind (step_kind_of e) (fields r rest) _ n k (ap (fields r) q) (step_length e r) h p

pub overflow_cast-step_size : goal.overflow_cast-step_size
overflow_cast-step_size c = omega (arith, step_most (edition_of c.args.edition))

pub put_numbers-requires : goal.put_numbers-requires
put_numbers-requires c = omega (arith, step_least (edition_of c.args.edition))

pub put_word-requires : goal.put_word-requires
unfolding record_size
put_word-requires c =
    let more : 22 ≤ length c.args.part.now = rw c.in-Two.is at c.requires in
    omega arith

pub returns-in-Two : goal.returns-in-Two
unfolding added
returns-in-Two c =
    let a = c.args in
    let size = c.step_size.result in
    let kind = c.step_kind.result in
    whole a.part.now _ a.edition size kind a.r (a.r.cabin ∷ []) c.step_size.ensures c.step_kind.ensures c.requires
    (ap (λ (e : Edition). added (edition_of e) (a.r.cabin ∷ [])) (sym c.in-Two.is))
    (put_more a.part.now 0 20 (size ∷ kind ∷ fields a.r []) (a.r.cabin ∷ []) (omega arith) c.put_numbers.ensures c.put_word.ensures)

pub returns-in_default : goal.returns-in_default
unfolding added
returns-in_default c =
    let a = c.args in
    let size = c.step_size.result in
    let kind = c.step_kind.result in
    whole a.part.now _ a.edition size kind a.r [] c.step_size.ensures c.step_kind.ensures c.requires
    (ap (λ (e : Edition). added (edition_of e) (a.r.cabin ∷ [])) (sym c.in_default.is))
    c.put_numbers.ensures
