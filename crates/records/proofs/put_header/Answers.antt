-- `records::put_header` meets its contract: the numbers that are put are those of the record. Assumes nothing.
use mathlib.Core.Path.{◌≡◌, sym, ap}
use mathlib.Core.List.{List, [], ◌∷◌, ◌++◌}
use Prim.Native.Nat.{ℕ, ◌≤◌}
use native.Mathlib.Omega.{arith}
use lib.ListN.{length, drop}
use Rattle.table.specs.Table.{quota_numbers}
use Rattle.image.specs.Image.{header_kind_of, header_field_count, record_size, record_bytes}
use Rattle.records.specs.declared.Edition.{Edition}
use Rattle.records.specs.Records.{edition_of, put_words, added}
use Rattle.records.proofs.Laws.{put_more, put_record, header_length, header_most}
use Rattle.records.proofs.Reading.{header_least}
use Rattle.records.proofs.put_header.Goals as goal

-- the record, where what the edition adds is put behind them
whole : (part ds : List ℕ) (edition : Edition) (size kind capacity last steps : ℕ) (quotas rest : List ℕ) →
    let e = edition_of edition in
    size ≡ record_size (header_field_count e) → kind ≡ header_kind_of e → length quotas ≡ quota_numbers →
    record_size (header_field_count e) ≤ length part → rest ≡ added e quotas →
    ds ≡ put_words part 0 (size ∷ kind ∷ capacity ∷ last ∷ steps ∷ rest) →
    ds ≡ record_bytes (header_kind_of e) (capacity ∷ last ∷ steps ∷ added e quotas) ++ drop (record_size (header_field_count e)) part
whole part ds edition size kind capacity last steps quotas rest n k l h q p =
    let e = edition_of edition in
    put_record part ds (header_field_count e) size kind (header_kind_of e) (capacity ∷ last ∷ steps ∷ rest) _ n k
    (ap (λ (x : List ℕ). capacity ∷ last ∷ steps ∷ x) q) (header_length e capacity last steps quotas l) h p

pub overflow_cast-header_size : goal.overflow_cast-header_size
overflow_cast-header_size c = omega (arith, header_most (edition_of c.args.edition))

pub put_numbers-requires : goal.put_numbers-requires
put_numbers-requires c = omega (arith, header_least (edition_of c.args.edition))

pub put_numbers-requires-in-Two : goal.put_numbers-requires-in-Two
unfolding record_size
put_numbers-requires-in-Two c =
    let room : 42 ≤ length c.args.part.now = rw c.in-Two.is at c.requires in
    omega (arith, room, c.told-quotas)

pub returns-in-Two : goal.returns-in-Two
unfolding added
returns-in-Two c =
    let a = c.args in
    let size = c.header_size.result in
    let kind = c.header_kind.result in
    whole a.part.now _ a.edition size kind a.capacity a.last a.steps a.quotas.now a.quotas.now c.header_size.ensures c.header_kind.ensures
    c.told-quotas c.requires (ap (λ (e : Edition). added (edition_of e) a.quotas.now) (sym c.in-Two.is))
    (put_more a.part.now 0 10 (size ∷ kind ∷ a.capacity ∷ a.last ∷ a.steps ∷ []) a.quotas.now (omega arith) c.put_numbers.ensures
    c.put_numbers-in-Two.ensures)

pub returns-in_default : goal.returns-in_default
unfolding added
returns-in_default c =
    let a = c.args in
    let size = c.header_size.result in
    let kind = c.header_kind.result in
    whole a.part.now _ a.edition size kind a.capacity a.last a.steps a.quotas.now [] c.header_size.ensures c.header_kind.ensures
    c.told-quotas c.requires (ap (λ (e : Edition). added (edition_of e) a.quotas.now) (sym c.in_default.is))
    c.put_numbers.ensures
