-- What the tests of the examples compute with: all that a call's definition names. Assumes nothing.
use mathlib.Core.Bool.{Bool, true}
use Rattle.finite.specs.Below.{all, any, count, total, find, lowest, rounds, tabulate_from, tabulate, those, same}
use Rattle.finite.specs.Reach.{grow, reach, reaches}
use Rattle.table.specs.Table.{entries_of, exit_place, exit_at, counter_place, in_use, kind_of, content_of, own_bit, cabin_of, target_of, link_bit, counter_of, holds, strong, leads, linked, strongly_linked, counts_at, links_to, steps_in_use, same_fields, same_table, with_numbers, with_links, with_steps}
use Rattle.table.specs.Cabins.{guarantee_of, limit_of, quotas_fit, list_fits, sole_quotas, unmet, reserved, at_limit, none_to_spare, within_limits, charges_fit, charged, charge, free_steps}
use Rattle.table.specs.Sound.{capacity_fits, content_fits, kind_fits, each_used, shape_tests, blank_tests, ringless, sound_tests, sound}
use Rattle.table.specs.Answer.{first, refusal_of, first_of, second_of, unless, ending_number, tried_refusal, ending_of, last_of, moves_of, listing}
use Rattle.table.specs.Calls.{fresh_table, refused_table, fresh_call, lowered, raised, relink, after, number_given, add_refusal, with_step, add_table, add_call, link_refusal, weak_bit, link_table, link_call, fields_of, no_fields, read_refusal, read_call, spoken_counts}
use Rattle.table.specs.Trial.{is_contact, exit_of, results_after, no_result, at_step, try_from, results_fit, trial_refusal, trial_call}
use Rattle.table.specs.Clear.{emptied, held_strongly, stops, doubtful, wanted, flipped, weakened, restored, repair, repair_of, unlinked, blanked, each_doubtful, release, size, repaired, clear_refusal, clear_call}
use Rattle.table.specs.Preview.{is_freed, would_go, preview_refusal, preview_call}
use Rattle.table.specs.Rung.{goes_by, goes_on, is_entered, rung_by, rung_refusal, rung_call}
use Rattle.table.specs.Squeeze.{new_number, old_number, moved, squeezed, squeeze_refusal, squeeze_call}
use Rattle.image.specs.Image.{header_adds, step_adds, edition_in, quotas_by, quotas_in, cabin_by, cabin_in, word, word_at, words, record_size, record_bytes, header_fields_of, bits_of, step_fields_of, steps_below, image, image_length, put, write_refusal, write_call, field_at, record_at, capacity_in, last_in, count_in, step_place, number_in, kind_in, content_in, bits_in, target_in, bit_in, record_of, has_record, record_field, with_record, counted, image_table, framed, old_content, contents_sayable, accepted, load_call}
use Rattle.image.specs.Convert.{has_sole_quotas, sayable, convert_refusal, convert_call}
use Rattle.image.specs.Slip.{record_in, changed, pairs_below, slip, slip_length, clear_slip_refusal, clear_slip_call, slip_step, slip_exit, slip_count, fields_at, present, rebuilt, cleared_again, retraced, take_back_refusal, take_back_call}
use Rattle.keyline.specs.Keys.{is_digit, is_line, decimal, decode, perform, perform_line, key_call}
use Rattle.history.specs.History.{field_numbers, tried_numbers, row, first_row, first_table}
use Rattle.history.specs.Acts.{act_row, done_by, table_kept, refused_by}
use Rattle.cases.specs.Cases.{take_one, taken, taken_by, strength, seen, done_tests, facts_hold, passed, walk, table_f4, digits, line}
use Rattle.cases.specs.Bytes.{old_header_p5, old_step0_p5, old_step1_p5, old_step2_p5, header_p5, step0_p5, step1_p5, step2_p5, image_p5}

-- a name for the list of definitions, which each run unfolds
unfoldable pub computes : Bool
unfolding those is_freed would_go preview_refusal preview_call listing goes_by goes_on is_entered rung_by rung_refusal rung_call record_in changed pairs_below slip slip_length clear_slip_refusal clear_slip_call slip_step slip_exit slip_count fields_at present rebuilt cleared_again retraced take_back_refusal take_back_call with_record same_fields total cabin_of guarantee_of limit_of quotas_fit list_fits sole_quotas unmet reserved at_limit none_to_spare within_limits charges_fit charged charge free_steps refused_table header_adds step_adds edition_in quotas_by quotas_in cabin_by cabin_in all any count find lowest rounds tabulate_from tabulate grow reach reaches entries_of exit_place exit_at counter_place in_use kind_of content_of own_bit target_of link_bit counter_of holds strong leads linked strongly_linked counts_at links_to steps_in_use with_numbers with_links with_steps capacity_fits content_fits kind_fits each_used shape_tests blank_tests ringless sound_tests sound first refusal_of first_of second_of unless ending_number tried_refusal ending_of last_of moves_of fresh_table fresh_call lowered raised relink after number_given add_refusal with_step add_table add_call link_refusal weak_bit link_table link_call fields_of no_fields read_refusal read_call is_contact exit_of results_after no_result at_step try_from results_fit trial_refusal trial_call emptied held_strongly stops doubtful wanted flipped weakened restored repair repair_of unlinked blanked each_doubtful release size repaired clear_refusal clear_call new_number old_number moved squeezed squeeze_refusal squeeze_call word word_at words record_size record_bytes header_fields_of bits_of step_fields_of steps_below image image_length put write_refusal write_call has_sole_quotas sayable convert_refusal convert_call field_at record_at capacity_in last_in count_in step_place number_in kind_in content_in bits_in target_in bit_in record_of has_record record_field counted image_table framed old_content contents_sayable accepted load_call is_digit is_line decimal decode spoken_counts perform perform_line key_call first_row first_table field_numbers tried_numbers row act_row done_by table_kept refused_by same same_table take_one taken taken_by strength seen done_tests facts_hold passed walk table_f4 digits line old_header_p5 old_step0_p5 old_step1_p5 old_step2_p5 header_p5 step0_p5 step1_p5 step2_p5 image_p5
computes = true
