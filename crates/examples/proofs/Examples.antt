-- The examples of calls hold: each run is one test that computes. Assumes nothing.
--   examples_hold    every entry of the table passes
use mathlib.Core.Path.{◌≡◌, refl}
use mathlib.Core.Bool.{Bool, true}
use mathlib.Core.List.{◌++◌}
use Rattle.finite.proofs.Bools.{and_intro}
use Rattle.cases.specs.Cases.{walk, every_run, table_f4}
use Rattle.cases.proofs.Computes.{computes}
use Rattle.examples.specs.Examples.{p1_to_p7, p8, p9, two_candidates, squeezes, waits, messages, ends, shares5, shared, lists, previews, rings, flat, examples, beginnings, no_alarm, not_sound_reasons, reasons, refusals, key_lines, Decodes, failing, table_p1, unsound, fail_as_said}

runs : Bool
unfolding computes previews rings flat shares5 shared lists two_candidates squeezes waits messages ends failing table_p1 unsound fail_as_said p1_to_p7 p8 p9 beginnings no_alarm not_sound_reasons reasons
runs = true

-- one declaration for each run, since antt bounds the steps of one
p1_to_p7_hold : walk table_f4 p1_to_p7 ≡ true
unfolding runs
p1_to_p7_hold = refl

p8_holds : walk table_f4 p8 ≡ true
unfolding runs
p8_holds = refl

p9_holds : walk table_f4 p9 ≡ true
unfolding runs
p9_holds = refl

two_candidates_hold : walk table_f4 (two_candidates ++ squeezes) ≡ true
unfolding runs
two_candidates_hold = refl

waits_hold : walk table_f4 waits ≡ true
unfolding runs
waits_hold = refl

messages_hold : walk table_f4 messages ≡ true
unfolding runs
messages_hold = refl

ends_hold : walk table_f4 ends ≡ true
unfolding runs
ends_hold = refl

previews_hold : walk table_f4 previews ≡ true
unfolding runs
previews_hold = refl

rings_hold : walk table_f4 rings ≡ true
unfolding runs
rings_hold = refl

flat_holds : walk table_f4 flat ≡ true
unfolding runs
flat_holds = refl

shared_holds : walk table_f4 (shared ++ lists) ≡ true
unfolding runs
shared_holds = refl

beginnings_hold : walk table_f4 beginnings ≡ true
unfolding runs
beginnings_hold = refl

not_sound_reasons_hold : walk no_alarm not_sound_reasons ≡ true
unfolding runs
not_sound_reasons_hold = refl

reasons_hold : walk table_f4 reasons ≡ true
unfolding runs
reasons_hold = refl

pub examples_hold : every_run (examples ++ refusals) ≡ true
unfolding every_run examples refusals
examples_hold =
    and_intro p1_to_p7_hold
    (and_intro p8_holds
    (and_intro p9_holds
    (and_intro two_candidates_hold
    (and_intro waits_hold
    (and_intro messages_hold
    (and_intro ends_hold
    (and_intro previews_hold
    (and_intro rings_hold
    (and_intro flat_holds
    (and_intro shared_holds
    (and_intro beginnings_hold
    (and_intro not_sound_reasons_hold
    (and_intro reasons_hold refl)))))))))))))

pub lines_decoded : Decodes key_lines
unfolding runs key_lines
lines_decoded = (refl, (refl, (refl, (refl, (refl, tt)))))

-- each clause of soundness is needed: some table fails it and as few others as can be
pub unsound_fail : fail_as_said unsound ≡ true
unfolding runs
unsound_fail = refl
