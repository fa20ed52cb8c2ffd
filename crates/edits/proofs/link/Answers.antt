-- `edits::link` meets its contract: an accepted link is on a sound table, so its target is in use and its target's bit is 0 or 1.
-- Assumes nothing.
use mathlib.Core.Path.{◌≡◌, refl, sym, ◌∙◌}
use mathlib.Core.Bool.{true}
use Prim.Native.Nat.{ℕ, ◌<◌}
use native.Mathlib.Omega.{arith}
use Rattle.table.specs.Table.{Table, places, counters, in_use, own_bit, target_of}
use Rattle.table.specs.Sound.{Sound}
use Rattle.table.specs.Calls.{weak_bit, link_refusal, link_table, link_call}
use Rattle.table.proofs.Links.{used_place}
use Rattle.table.proofs.Calls.{LinkFits, link_fits}
use Rattle.words.proofs.Refusals.{accepted_sound, passed_answer, refused_words, given_answer, given_words}
use Rattle.words.proofs.Formed.{formed_relinkable}
use Rattle.edits.proofs.link.Goals as goal

-- what an accepted link finds: a sound table, its source's target in use, and the target's bit
module _ (t : Table) (i e k f : ℕ) (z : link_refusal t i e k f ≡ 0) where
  sound_table : Sound t
  unfolding link_refusal
  sound_table = accepted_sound _ _ z

  fits : LinkFits t i e k f
  fits = link_fits _ _ _ _ _ z

  source_place : i < places
  source_place = used_place sound_table.formed.shape _ fits.hold.used

  target_used : in_use t (target_of t i e) ≡ true
  target_used = sound_table.formed.targets _ _ fits.hold.used fits.hold.exit fits.hold.filled

  target_place : target_of t i e < places
  target_place = used_place sound_table.formed.shape _ target_used

  target_bit : own_bit t (target_of t i e) < counters
  target_bit = sound_table.formed.own _ target_used

pub returns-in_err-check_link : goal.returns-in_err-check_link
unfolding link_call
returns-in_err-check_link c =
    let e = c.in_err-check_link.ensures in
    record {
      answer = passed_answer _ e _ c.from_residual.result c.from_residual.ensures.1 _;
      table = refused_words _ e _ _ c.told-t;
    }

pub target_at-j-requires : goal.target_at-j-requires
target_at-j-requires c =
    let z = sym c.in_ok-check_link.ensures in
    rw (c.from-2.ensures, c.from.ensures) (source_place _ _ _ _ _ z, (fits _ _ _ _ _ z).hold.exit)

pub own_at-own-requires : goal.own_at-own-requires
own_at-own-requires c =
    let z = sym c.in_ok-check_link.ensures in
    let target = c.target_at-j.ensures in
    rw (c.from-3.ensures, target, c.from-2.ensures, c.from.ensures) (target_place _ _ _ _ _ z)

pub overflow_sub-weak : goal.overflow_sub-weak
overflow_sub-weak c =
    let z = sym c.in_ok-check_link.ensures in
    let target = c.target_at-j.ensures in
    rw (c.own_at-own.ensures, c.from-3.ensures, target, c.from-2.ensures, c.from.ensures) (omega (arith, target_bit _ _ _ _ _ z))

pub relink-requires : goal.relink-requires
relink-requires c =
    let z = sym c.in_ok-check_link.ensures in
    let f = fits _ _ _ _ _ z in
    let target = c.target_at-j.ensures in
    rw (c.from-5.ensures, c.from-4.ensures, target, c.from-2.ensures, c.from.ensures)
    (formed_relinkable (sound_table _ _ _ _ _ z).formed _ _ _ _ f.fill.used f.fill.exit (target_place _ _ _ _ _ z) (omega arith))

pub returns : goal.returns
unfolding link_call link_table weak_bit
returns c =
    let e = c.in_ok-check_link.ensures in
    let size = c.told-t in
    let target = c.target_at-j.ensures in record {
      answer = given_answer e _ _ _ refl;
      table = given_words e _ _ _ size
          (record {
            table = c.relink.ensures.table
                ∙ rw (c.from-5.ensures, c.from-4.ensures, c.own_at-own.ensures, c.from-3.ensures, target, c.from-2.ensures, c.from.ensures);
            size = c.relink.ensures.size;
          });
    }
