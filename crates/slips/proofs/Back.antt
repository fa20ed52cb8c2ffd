-- The old records of a slip put into a table, one after the other. Assumes nothing.
--   record_read      the fields of a record that was read
--   small_bits       the bits of a sound table are 0 or 1
--   after_bits after_capacity   what the records leave of bits and capacity
--   framed_test test_framed     both ways of the test of a slip's form
use mathlib.Core.Path.{◌≡◌, refl, sym, ap}
use mathlib.Core.Bool.{true}
use mathlib.Core.Logic.{⊎_elim}
use mathlib.Core.List.{List}
use Prim.Native.Nat.{ℕ, zero, suc, ◌/◌, ◌%◌, ◌≤◌, ◌<◌}
use native.Mathlib.Omega.{arith}
use lib.ListN.{length, get_or, set, get_or-eq_default}
use lib.Seq.{get_or-set_same, get_or-set_other, set_out}
use lib.Dec.{eqb}
use borrow.Author.Tests.{eqb-true, eq-eqb, ltb-true, lt-ltb}
use Rattle.finite.specs.Below.{rounds, tabulate, tabulate_from}
use Rattle.finite.proofs.Bools.{and_intro, and_left, and_right, test}
use Rattle.finite.proofs.Below.{le_or_lt, eq_or_ne, all_at, all_intro}
use Rattle.table.specs.Table.{Table, places, exit_places, holder_at, exit_at, in_use, link_bit, with_links, with_steps}
use Rattle.table.specs.Sound.{Sound}
use Rattle.table.proofs.Places.{exit_at_below, exit_place_split}
use Rattle.image.specs.Image.{edition2, with_record}
use Rattle.image.specs.Slip.{slip_size, slip_count, old_place, fields_at}
use Rattle.records.specs.Records.{added, record_fields, cabin_at, step_read}
use Rattle.slips.specs.Framed.{framed, Framed}

pub record_read : (bs : List ℕ) (at : ℕ) → record_fields edition2 (step_read edition2 bs at) ≡ fields_at bs at
unfolding record_fields added step_read cabin_at fields_at tabulate tabulate_from
record_read bs at = refl

-- numbers below m stay below m where a number below m is stored
set_small : (m : ℕ) (l : List ℕ) (i a : ℕ) → a < m → ((p : ℕ) → get_or l p 0 < m) → (p : ℕ) → get_or (set l i a) p 0 < m
set_small m l i a h small p =
    ⊎_elim
    (λ (o : length l ≤ i). rw (set_out l i a o) (small p))
    (λ (o : i < length l).
    ⊎_elim (λ (q : p ≡ i). rw (q, get_or-set_same l i a 0 o) h) (λ d. rw (get_or-set_other l i p a 0 d) (small p)) (eq_or_ne p i))
    (le_or_lt (length l) i)

-- and so do the bits of a table where a record is put in
record_bits : (w : Table) (fields : List ℕ) → ((p : ℕ) → get_or w.bits p 0 < 2) → (p : ℕ) → get_or (with_record w fields).bits p 0 < 2
unfolding with_record with_links with_steps
record_bits w fields h =
    let i = get_or fields 0 0 in
    let n = get_or fields 3 0 in
    let a = set_small 2 w.bits (exit_places i) (n % 2) (omega arith) h in
    let l₁ = set w.bits (exit_places i) (n % 2) in
    let b = set_small 2 l₁ (suc (exit_places i)) (n / 2 % 2) (omega arith) a in
    let l₂ = set l₁ (suc (exit_places i)) (n / 2 % 2) in
    let c = set_small 2 l₂ (suc (suc (exit_places i))) (n / 4 % 2) (omega arith) b in
    set_small 2 (set l₂ (suc (suc (exit_places i))) (n / 4 % 2)) (suc (suc (suc (exit_places i)))) (n / 8 % 2) (omega arith) c

pub small_bits : (t : Table) → Sound t → (p : ℕ) → get_or t.bits p 0 < 2
unfolding link_bit
small_bits t s p =
    ⊎_elim
    (λ (o : exit_places places ≤ p). let z = get_or-eq_default t.bits 0 {n = p} (rw s.formed.shape.bits o) in omega arith)
    (λ (o : p < exit_places places).
    let i = holder_at p in
    let e = exit_at p in
    let at : get_or t.bits p 0 ≡ link_bit t i e = ap (λ (q : ℕ). get_or t.bits q 0) (sym (exit_place_split p)) in
    ⊎_elim
    (λ u. let b = s.formed.bits i e u (exit_at_below p) in omega (arith, at))
    (λ u. let b = (s.formed.free i (omega arith) u).bits e (exit_at_below p) in omega (arith, at))
    (test (in_use t i)))
    (le_or_lt (exit_places places) p)

-- the table with the first n old records in place
abbrev pub after : Table → List ℕ → ℕ → Table
after t bs n = rounds n (λ k w. with_record w (fields_at bs (old_place k))) t

module _ (t : Table) (s : Sound t) (bs : List ℕ) where
  pub after_capacity : (n : ℕ) → (after t bs n).capacity ≡ t.capacity
  unfolding rounds with_record with_links with_steps
  after_capacity zero = refl
  after_capacity (suc n) = after_capacity n

  pub after_bits : (n p : ℕ) → get_or (after t bs n).bits p 0 < 2
  unfolding rounds
  after_bits zero = small_bits t s
  after_bits (suc n) = record_bits (after t bs n) (fields_at bs (old_place n)) (after_bits n)

pub framed_test : (bs : List ℕ) → Framed bs → framed bs ≡ true
unfolding framed
framed_test bs f = and_intro (eq-eqb _ _ f.size) (all_intro (slip_count bs) _ (λ k l. lt-ltb _ _ (f.numbers k l)))

pub test_framed : (bs : List ℕ) → framed bs ≡ true → Framed bs
unfolding framed
test_framed bs h =
    record {
      size = eqb-true _ _ (and_left (eqb (length bs) (slip_size (slip_count bs))) _ h);
      numbers = λ k l. ltb-true _ _ (all_at (slip_count bs) _ (and_right (eqb (length bs) (slip_size (slip_count bs))) _ h) k l);
    }
