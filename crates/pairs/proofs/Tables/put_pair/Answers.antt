-- `pairs::Tables::put_pair` meets its contract: one record behind the other. Assumes nothing.
use mathlib.Core.Path.{◌≡◌, ◌∙◌, ap}
use mathlib.Core.List.{List, ◌++◌}
use Prim.Native.Nat.{ℕ, ◌+◌, ◌-◌, ◌*◌, ◌≤◌}
use native.Mathlib.Omega.{arith}
use lib.ListN.{length, take, drop, length-drop, length-append}
use lib.Seq.{length-take-le, drop-drop}
use Rattle.table.specs.Table.{Table}
use Rattle.image.specs.Image.{edition2, step_kind_of, step_fields_of, record_size, record_bytes}
use Rattle.image.specs.Slip.{record_length, record_in}
use Rattle.image.proofs.Slips.{length_record_in}
use Rattle.words.specs.Words.{table_of}
use Rattle.records.specs.declared.StepRecord.{StepRecord}
use Rattle.records.specs.Records.{record_fields}
use Rattle.records.proofs.Laws.{part_back}
use Rattle.pairs.proofs.Tables.put_pair.Goals as goal

-- what is put is the record of the step
put : (t : Table) (i : ℕ) (r : StepRecord) (p : List ℕ) {q : List ℕ} → record_fields edition2 r ≡ step_fields_of edition2 t i →
    q ≡ record_bytes (step_kind_of edition2) (record_fields edition2 r) ++ p → q ≡ record_in t i ++ p
unfolding record_in
put t i r p e f = f ∙ ap (λ (l : List ℕ). record_bytes (step_kind_of edition2) l ++ p) e

-- one record put, then another behind it
two_put : (p r s : List ℕ) {p₁ q : List ℕ} → length r ≡ record_length → 2 * record_length ≤ length p → p₁ ≡ r ++ drop record_length p →
    q ≡ s ++ drop record_length (take (length p₁ - record_length) (drop record_length p₁)) →
    take record_length p₁ ++ (q ++ drop (length p₁ - record_length) (drop record_length p₁)) ≡ (r ++ s) ++ drop (2 * record_length) p
two_put p r s {p₁} lr n e f =
    let d = length-drop record_length p in
    let long = ap length e ∙ length-append r (drop record_length p) in
    let twice : record_length + record_length ≡ 2 * record_length = omega arith in
    ap (λ (x : List ℕ). take record_length p₁ ++ (x ++ drop (length p₁ - record_length) (drop record_length p₁))) f
    ∙ part_back p₁ r (drop record_length p) s record_length record_length e lr (omega arith)
    ∙ ap (λ (x : List ℕ). (r ++ s) ++ x) (drop-drop record_length record_length p ∙ ap (λ (k : ℕ). drop k p) twice)

pub slice_bounds-put_step-count : goal.slice_bounds-put_step-count
unfolding record_size
slice_bounds-put_step-count c = omega arith

pub slice_bounds-put_step-start : goal.slice_bounds-put_step-start
unfolding record_size
slice_bounds-put_step-start c = omega arith

pub put_step-requires-2 : goal.put_step-requires-2
unfolding record_size
put_step-requires-2 c =
    let p₁ = c.put_step.new.part in
    let k = length-drop 22 p₁ in
    let m = length-take-le (length p₁ - 22) (drop 22 p₁) (omega arith) in
    omega arith

pub returns : goal.returns
unfolding record_size
returns c =
    let t = table_of c.args.self.now.t.now in
    let u = table_of c.args.self.now.u.now in
    let i = c.args.i in
    two_put c.args.part.now (record_in t i) (record_in u i) (length_record_in t i) c.requires.0
    (put t i _ _ c.step_record-old.ensures c.put_step.ensures)
    (put u i _ _ c.step_record-new.ensures c.put_step-2.ensures)
