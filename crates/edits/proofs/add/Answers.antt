-- `edits::add` meets its contract: an accepted add is on a sound table with room, so the number given is below the capacity.
-- Assumes nothing.
use mathlib.Core.Path.{◌≡◌, sym, ◌∙◌, ap}
use mathlib.Core.Bool.{not}
use Prim.Native.Nat.{ℕ, ◌<◌}
use native.Mathlib.Omega.{arith}
use Rattle.table.specs.Said.{Given}
use Rattle.table.specs.Table.{Table, places, in_use}
use Rattle.table.specs.Sound.{Sound}
use Rattle.table.specs.Calls.{number_given, add_refusal, add_table, add_call}
use Rattle.table.proofs.Edits.{number_given_lem, formed_with_step, with_step_kept}
use Rattle.table.proofs.Calls.{AddFits, add_fits}
use Rattle.words.proofs.Refusals.{accepted_sound, passed_answer, refused_words, given_answer, given_words}
use Rattle.words.proofs.Formed.{formed_relinkable}
use Rattle.edits.proofs.add.Goals as goal

-- what an accepted add finds: a sound table, with a number to give below the capacity
module _ (t : Table) (h x k n c : ℕ) (z : add_refusal t h x k n c ≡ 0) where
  sound_table : Sound t
  unfolding add_refusal
  sound_table = accepted_sound _ _ z

  fits : AddFits t h x k n c
  fits = add_fits _ _ _ _ _ _ z

  number_place : {m : ℕ} → m ≡ number_given t.capacity t.last (λ i. not (in_use t i)) → m < places
  number_place e = rw e (omega (arith, (number_given_lem sound_table fits.room).2, sound_table.formed.most))

pub returns-in_err-check_add : goal.returns-in_err-check_add
unfolding add_call
returns-in_err-check_add c =
    let e = c.in_err-check_add.ensures in
    record {
      answer = passed_answer _ e _ c.from_residual.result c.from_residual.ensures.1 _;
      table = refused_words _ e _ _ c.told-t;
    }

pub number_given-n-requires : goal.number_given-n-requires
number_given-n-requires c =
    let z = sym c.in_ok-check_add.ensures in
    let s = sound_table _ _ _ _ _ _ z in
    (s.formed.most, omega (arith, s.formed.last, s.formed.most))

pub relink-requires : goal.relink-requires
relink-requires c =
    let a = c.args in
    let z = sym c.in_ok-check_add.ensures in
    let s = sound_table _ _ _ _ _ _ z in
    let f = fits _ _ _ _ _ _ z in
    let g = number_given_lem s f.room in
    let n = c.number_given-n.ensures in
    let formed = formed_with_step _ s.formed _ a.kind a.content a.cabin g.2 g.1 g.0 f.fits f.shared in
    let kept = with_step_kept _ s.formed _ a.kind a.content a.cabin g.2 g.1 g.0 f.fits f.shared a.holder f.fill.used in
    rw (c.take_step.ensures.table, c.from-2.ensures, c.from.ensures)
    (formed_relinkable (rw n formed) a.holder a.exit c.number_given-n.result 0 (rw n kept) f.fill.exit (number_place _ _ _ _ _ _ z n) (omega arith))

pub returns : goal.returns
unfolding add_call add_table
returns c =
    let a = c.args in
    let e = c.in_ok-check_add.ensures in
    let n = c.number_given-n.ensures in
    let size = c.told-t in
    let stepped = c.take_step.ensures in record {
      answer = given_answer e _ _ _ (ap (λ (k : ℕ). Given k 0) n);
      table = given_words e _ _ _ size
          (record {
            table = c.relink.ensures.table ∙ rw (stepped.table, c.from-2.ensures, c.from.ensures, n);
            size = c.relink.ensures.size ∙ stepped.size;
          });
    }

pub take_step-requires : goal.take_step-requires
take_step-requires c =
    let z = sym c.in_ok-check_add.ensures in
    number_place _ _ _ _ _ _ z c.number_given-n.ensures
