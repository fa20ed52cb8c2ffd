-- `records::Edition::image_size` meets its contract: with 16 bits for the number of records no length is above 64 bits. Assumes nothing.
use Prim.Native.Nat.{ℕ, ◌+◌, ◌*◌, ◌^◌, ◌<◌}
use native.Mathlib.Omega.{arith}
use borrow.Author.Rules.{rules}
use Rattle.image.specs.Image.{header_field_count, step_field_count, record_size}
use Rattle.records.specs.declared.Edition.{Edition}
use Rattle.records.specs.declared.Edition.TheVariants.{One, Two}
use Rattle.records.specs.Records.{edition_of}
use Rattle.records.proofs.Edition.image_size.Goals as goal
use Rattle.records.proofs.Edition.image_size.Goals.{After-from}

short : (e : Edition) (n : ℕ) → n < 65536 →
    record_size (header_field_count (edition_of e)) + record_size (step_field_count (edition_of e)) * n < 2 ^ 64
unfolding record_size
short One n l = omega arith
short Two n l = omega arith

-- the sum that is worked out
fits : (c : After-from) → c.header_size.result + c.step_size.result * c.from.result < 2 ^ 64
fits c =
    let a = c.args in
    rw (c.header_size.ensures, c.step_size.ensures, c.from.ensures) (short a.self a.steps (search rules))

pub returns : goal.returns
returns c = rw (c.header_size.ensures, c.step_size.ensures, c.from.ensures)

pub overflow_mul-result : goal.overflow_mul-result
overflow_mul-result c = omega (arith, fits c)

pub overflow_add-result : goal.overflow_add-result
overflow_add-result c = omega (arith, fits c)
