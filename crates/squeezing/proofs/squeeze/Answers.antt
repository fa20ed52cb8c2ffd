-- `squeezing::squeeze` meets its contract: an accepted squeeze is on a sound table. Assumes nothing.
use mathlib.Core.Path.{◌≡◌, refl, sym, ◌∙◌, ap}
use Prim.Native.Nat.{ℕ, ◌-◌}
use mathlib.Core.List.{List}
use native.Mathlib.Omega.{arith}
use Rattle.table.specs.Table.{Table, with_numbers}
use Rattle.table.specs.Sound.{Sound}
use Rattle.table.specs.Squeeze.{squeezed, squeeze_refusal, squeeze_call}
use Rattle.table.proofs.Links.{sound_wired}
use Rattle.table.proofs.Renumber.{new_below}
use Rattle.words.proofs.Refusals.{accepted_sound, passed_answer, refused_words, given_answer, given_words}
use Rattle.squeezing.specs.Moves.{squeezed_steps}
use Rattle.squeezing.proofs.squeeze.Goals as goal

sound_table : {t : Table} (capacity : ℕ) (quotas : List ℕ) → 0 ≡ squeeze_refusal t capacity quotas → Sound t
unfolding squeeze_refusal
sound_table capacity quotas e = accepted_sound _ _ (sym e)

pub returns-in_err-check_squeeze : goal.returns-in_err-check_squeeze
unfolding squeeze_call
returns-in_err-check_squeeze c =
    let e = c.in_err-check_squeeze.ensures in
    record {
      answer = passed_answer _ e _ c.from_residual.result c.from_residual.ensures.1 _;
      table = refused_words _ e _ _ c.told-t;
    }

pub count_used-steps-requires : goal.count_used-steps-requires
count_used-steps-requires c = (sound_table _ _ c.in_ok-check_squeeze.ensures).formed.most

pub move_steps-requires : goal.move_steps-requires
move_steps-requires c = sound_table _ _ c.in_ok-check_squeeze.ensures

-- step 0 is in use, so there is a last number
pub overflow_sub-steps : goal.overflow_sub-steps
overflow_sub-steps c =
    let s = sound_table _ _ c.in_ok-check_squeeze.ensures in
    omega (arith, c.count_used-steps.ensures, new_below (sound_wired s) 0 s.formed.alarm)

pub returns : goal.returns
unfolding squeeze_call squeezed squeezed_steps with_numbers
returns c =
    let a = c.args in
    let e = c.in_ok-check_squeeze.ensures in
    record {
      answer = given_answer e _ _ _ refl;
      table =
          given_words e _ _ _ c.told-t
          (record {
            table =
                c.put_quotas.ensures.table ∙
                ap (λ (t : Table). with_numbers t t.capacity t.last a.quotas.now)
                (c.put_numbers.ensures.table ∙
                ap (λ (t : Table). with_numbers t a.capacity (c.count_used-steps.result - 1) t.quotas) c.move_steps.ensures.table) ∙
                rw c.count_used-steps.ensures;
            size = c.put_quotas.ensures.size ∙ c.put_numbers.ensures.size ∙ c.move_steps.ensures.size;
          });
    }
