-- One call of a history on a sound table: the table that it leaves is sound, its plan is the plan drawn, and what is heard is what the plan
-- says. Assumes nothing.
--   Beside r d      the three facts of a call on a table and its drawing; Agrees t c, of the call c on t
--   call_agrees     every call with any arguments
use mathlib.Core.Path.{◌≡◌, refl, sym, ◌∙◌, ap, ap₂, subst}
use mathlib.Core.Bool.{false, cond}
use mathlib.Core.Logic.{⊎_elim}
use mathlib.Core.List.{List, [], ◌∷◌, ◌++◌}
use Prim.Native.Nat.{ℕ, ◌-◌, ◌≤◌, ◌<◌}
use native.Mathlib.Omega.{arith}
use lib.ListN.{length}
use lib.Dec.{eqb, ltb}
use borrow.Author.Tests.{eq-eqb, ne_eqb}
use Rattle.std.specs.Prelude.{Option, Some, None}
use Rattle.finite.proofs.Below.{le_or_lt, eq_or_ne}
use Rattle.table.specs.Said.{Answer, Refused, Given}
use Rattle.table.specs.Table.{Table}
use Rattle.table.specs.Sound.{Sound}
use Rattle.table.specs.Answer.{Outcome, WriteOutcome, too_short, slip_not_accepted, first, steps_room, unless, refusal_of, second_of, tried_refusal}
use Rattle.table.specs.Calls.{HoldFits, add_call, link_call, read_call, spoken_counts}
use Rattle.table.specs.Trial.{trial_call}
use Rattle.table.specs.Clear.{cleared, clear_refusal, clear_call}
use Rattle.table.specs.Preview.{preview_refusal, preview_call}
use Rattle.table.specs.Rung.{rung_refusal, rung_call}
use Rattle.table.specs.Plan.{plan_of, plan_count, plan_hold_tests, plan_clear_refusal, plan_clear_into_refusal, plan_read_refusal, plan_trial_refusal, plan_rung_refusal}
use Rattle.table.proofs.Links.{sound_wired}
use Rattle.table.proofs.Plan.{plan_capacity, plan_count_lem}
use Rattle.table.proofs.Clear.{emptied_steps}
use Rattle.table.proofs.Trials.{trial_refusal_given}
use Rattle.table.proofs.Calls.{done, next, first_same, nonzero, first_append, past_sound, unless_zero, unless_refused, add_refusal_lem, link_refusal_lem, clear_refusal_lem, into_refusal, read_refusal_lem, trial_refusal_lem, add_fits, link_fits, clear_fits, number_plan, add_sound, add_plan, link_sound, link_plan, clear_cleared, clear_plan}
use Rattle.table.proofs.Preview.{preview_made, preview_refused_as, preview_accepted}
use Rattle.table.proofs.Rung.{rung_refused_as, rung_refusal_given, rung_refusal_lem, plan_rung}
use Rattle.table.specs.Squeeze.{squeeze_call}
use Rattle.table.proofs.Squeeze.{squeeze_fits, squeeze_sound, squeeze_plan, squeeze_refusal_lem}
use Rattle.image.specs.Image.{written_edition, image_size, image_length, write_refusal, write_call}
use Rattle.image.specs.Slip.{slip_length, SlipOutcome, clear_slip_refusal, clear_slip_call, cleared_again, take_back_refusal, take_back_call, plan_taken_back}
use Rattle.image.proofs.Laws.{put_refusal}
use Rattle.image.proofs.TakenBack.{slip_refused, slip_short, slip_fits, slip_cleared, slip_outcome, slip_refusal_given, accepted_taken, taken_accepted, not_taken, taken_rise, back_refusal_given, rebuilt_plan}
use Rattle.keyline.specs.declared.Command.{Command}
use Rattle.keyline.specs.declared.Command.TheVariants.{Add, Link, Clear, Count}
use Rattle.keyline.specs.Keys.{key_cabin, decode, perform, perform_line, key_call}
use Rattle.history.specs.History.{Call, add, link, clear, read, trial, write, key_line, squeeze, clear_slip, take_back, preview, rung, Said, silent, number, freed, back, foreseen, spoken, Heard, said_by, list_says, command_says, line_says, row, Ran, run, is_told, PlanRow, draw_add, draw_link, plan_fall, draw_clear, draw_count, unchanged, plan_write_refusal, draw_command, draw_line, plan_row, Drawn, drawn, draw}

-- what is heard of a refusal, and of an accepted call
abbrev only_refusal : ℕ → Heard
only_refusal n = record { refusal = n; said = silent }

abbrev saying : Said → Heard
saying s = record { refusal = 0; said = s }

-- an outcome in a history, and a row of the plan that is not refused
abbrev heard_of : (ℕ → ℕ → Said) → Answer → Heard
heard_of says a = record { refusal = refusal_of a; said = said_by says a }

abbrev ran_by : (ℕ → ℕ → Said) → Outcome → Ran
ran_by says o = record { heard = heard_of says o.answer; table = o.table }

abbrev allowed : PlanRow → Drawn
allowed r = record { heard = saying r.said; plan = r.plan }

refused_heard : (says : ℕ → ℕ → Said) (n : ℕ) → heard_of says (Refused n) ≡ only_refusal n
unfolding said_by refusal_of
refused_heard says n = refl

given_heard : (says : ℕ → ℕ → Said) (a b : ℕ) → heard_of says (Given a b) ≡ saying (says a b)
unfolding said_by refusal_of
given_heard says a b = refl

-- an answer by which nothing is said, given or not
pub silent_said : (a : Answer) → said_by (λ a b. silent) a ≡ silent
unfolding said_by
silent_said (Refused n) = refl
silent_said (Given a b) = refl

-- a call on a table, and what is drawn beside it
pub record Beside (r : Ran) (d : Drawn) : Type 0 where
  pub sound : Sound r.table
  pub plan : plan_of r.table ≡ d.plan
  pub heard : r.heard ≡ d.heard

-- refused alike, or accepted with an outcome beside the row
beside_unless : {t : Table} (says : ℕ → ℕ → Said) (n : ℕ) (o : Outcome) (r : PlanRow) → Sound t → n ≡ r.refusal →
    (n ≡ 0 → Beside (ran_by says o) (allowed r)) → Beside (ran_by says (unless n t o)) (drawn (plan_of t) r)
unfolding drawn
beside_unless {t} says n o r s q f =
    ⊎_elim
    (λ (z : n ≡ 0). rw (unless_zero n t o z, eq-eqb r.refusal 0 (sym q ∙ z)) (f z))
    (λ (z : n ≡ 0 → ⊥).
    rw (unless_refused n t o z, ne_eqb r.refusal 0 (λ y. z (q ∙ y)))
    (record { sound = s; plan = refl; heard = refused_heard says n ∙ ap only_refusal q }))
    (eq_or_ne n 0)

-- a call that leaves the table and says nothing
beside_still : {t : Table} (n m : ℕ) → Sound t → n ≡ m → Beside (record { heard = only_refusal n; table = t }) (drawn (plan_of t) (unchanged m (plan_of t)))
unfolding drawn unchanged
beside_still n m s q =
    ⊎_elim
    (λ (z : m ≡ 0). rw (eq-eqb m 0 z) (record { sound = s; plan = refl; heard = ap only_refusal (q ∙ z) }))
    (λ d. rw (ne_eqb m 0 d) (record { sound = s; plan = refl; heard = ap only_refusal q }))
    (eq_or_ne m 0)

module _ {t : Table} (s : Sound t) where
  beside_add : (holder e kind content cabin : ℕ) →
      Beside (ran_by (λ a b. number a) (add_call t holder e kind content cabin)) (drawn (plan_of t) (draw_add (plan_of t) holder e kind content cabin))
  unfolding add_call draw_add
  beside_add holder e kind content cabin =
      beside_unless _ _ _ _ s (add_refusal_lem s holder e kind content cabin)
      (λ z.
      let f = add_fits t holder e kind content cabin z in
      record {
        sound = add_sound s holder e kind content cabin f;
        plan = add_plan s holder e kind content cabin f;
        heard = given_heard _ _ _ ∙ ap (λ (n : ℕ). saying (number n)) (number_plan s);
      })

  beside_link : (source e second f : ℕ) →
      Beside (ran_by (λ a b. silent) (link_call t source e second f)) (drawn (plan_of t) (draw_link (plan_of t) source e second f))
  unfolding link_call draw_link
  beside_link source e second f =
      beside_unless _ _ _ _ s (link_refusal_lem s source e second f)
      (λ z.
      let g = link_fits t source e second f z in
      record {
        sound = link_sound s source e second f g;
        plan = link_plan s source e second f g;
        heard = given_heard _ _ _;
      })

  -- what a clearing frees is the fall in the plan's steps
  plan_fall_lem : (i e : ℕ) (g : HoldFits t i e) → (clear_cleared s i e g).1 ≡ plan_fall (plan_of t) i e
  plan_fall_lem i e g =
      let c = (clear_cleared s i e g).3 in
      let before = plan_count_lem (sound_wired s) in
      let after = ap plan_count (sym (clear_plan s i e g)) ∙ plan_count_lem (sound_wired c.sound) in
      let fall = c.fall in
      let same = emptied_steps t i e in
      omega arith

  -- a clearing that is not refused
  beside_cleared : (i e : ℕ) → clear_refusal t i e ≡ 0 → Beside (ran_by (λ a b. freed b) (cleared t i e)) (allowed (draw_clear (plan_of t) i e))
  unfolding draw_clear
  beside_cleared i e z =
      let g = clear_fits t i e z in
      let r = clear_cleared s i e g in
      record {
        sound = r.3.sound;
        plan = clear_plan s i e g;
        heard = ap (heard_of (λ a b. freed b)) r.2 ∙ given_heard _ _ _ ∙ ap (λ (n : ℕ). saying (freed n)) (plan_fall_lem i e g);
      }

  beside_clear : (i e : ℕ) → Beside (ran_by (λ a b. freed b) (clear_call t i e)) (drawn (plan_of t) (draw_clear (plan_of t) i e))
  unfolding clear_call draw_clear
  beside_clear i e = beside_unless _ _ _ _ s (clear_refusal_lem s i e) (beside_cleared i e)

  -- W8: a preview foresees the same fall, and leaves the table
  beside_preview : (i e : ℕ) (buffer : List ℕ) →
      Beside (ran_by (λ a b. foreseen b) (record { answer = (preview_call t i e buffer).answer; table = t })) (draw (plan_of t) false (preview i e buffer))
  unfolding draw plan_row preview_refusal
  beside_preview i e buffer =
      subst (λ (o : Outcome). Beside (ran_by (λ a b. foreseen b) o) (draw (plan_of t) false (preview i e buffer))) (sym outcome)
      (beside_unless _ _ _ _ s (into_refusal s i e (ltb (length buffer) steps_room))
      (λ z.
      let g = clear_fits t i e (preview_accepted t i e buffer z).0 in
      let r = clear_cleared s i e g in
      record {
        sound = s;
        plan = refl;
        heard = ap (heard_of (λ a b. foreseen b)) r.2 ∙ given_heard _ _ _ ∙ ap (λ (n : ℕ). saying (foreseen n)) (plan_fall_lem i e g);
      }))
    where
      outcome : record { answer = (preview_call t i e buffer).answer; table = t } ≡
          unless (preview_refusal t i e (length buffer)) t (record { answer = (cleared t i e).answer; table = t })
      outcome =
          ⊎_elim
          (λ (z : preview_refusal t i e (length buffer) ≡ 0).
          ap (λ (o : WriteOutcome). record { answer = o.answer; table = t }) (preview_made t i e buffer z) ∙ sym (unless_zero _ t _ z))
          (λ d. ap (λ (o : WriteOutcome). record { answer = o.answer; table = t }) (preview_refused_as t i e buffer d) ∙ sym (unless_refused _ t _ d))
          (eq_or_ne (preview_refusal t i e (length buffer)) 0)

  silent_list : (buffer : List ℕ) → (rung_refusal t (length buffer) ≡ 0 → ⊥) → list_says (rung_call t buffer) ≡ silent
  unfolding said_by
  silent_list buffer d = rw (rung_refused_as t buffer d)

  -- who can be rung: the plan says it too
  beside_rung : (buffer : List ℕ) →
      Beside (record { heard = record { refusal = refusal_of (rung_call t buffer).answer; said = list_says (rung_call t buffer) }; table = t })
      (draw (plan_of t) false (rung buffer))
  unfolding draw plan_row drawn
  beside_rung buffer =
      let given = rung_refusal_given t buffer in
      let plan : plan_rung_refusal (length buffer) ≡ rung_refusal t (length buffer) = sym (rung_refusal_lem s buffer) in
      rw (plan_rung s buffer, plan, given)
      (⊎_elim
      (λ (z : rung_refusal t (length buffer) ≡ 0). rw z (record { sound = s; plan = refl; heard = refl }))
      (λ (d : rung_refusal t (length buffer) ≡ 0 → ⊥).
      rw (ne_eqb (rung_refusal t (length buffer)) 0 d)
      (record { sound = s; plan = refl; heard = ap (λ (a : Said). record { refusal = rung_refusal t (length buffer); said = a }) (silent_list buffer d) }))
      (eq_or_ne (rung_refusal t (length buffer)) 0))

  -- W7: the plan is told of 11, and of nothing else
  slip_refusal : (i e : ℕ) (buffer : List ℕ) →
      clear_slip_refusal t i e (length buffer) ≡ plan_clear_into_refusal (plan_of t) (is_told t (clear_slip i e buffer)) i e
  unfolding plan_clear_into_refusal plan_clear_refusal is_told row
  slip_refusal i e buffer =
      let n = clear_slip_refusal t i e (length buffer) in
      let told = eqb (refusal_of (clear_slip_call t i e buffer).answer) too_short in
      let plan : first (plan_hold_tests (plan_of t) i e ++ ((told, too_short) ∷ [])) ≡ cond (eqb (clear_refusal t i e) 0) (cond told too_short 0) (clear_refusal t i e) =
      first_append (plan_hold_tests (plan_of t) i e) ((told, too_short) ∷ []) (unfold nonzero in refl)
      ∙ ap (λ (m : ℕ). cond (eqb m 0) (first ((told, too_short) ∷ [])) m) (sym (clear_refusal_lem s i e)) ∙ (unfold first in refl) in
      ⊎_elim
      (λ (z : clear_refusal t i e ≡ 0).
      ⊎_elim
      (λ (l : slip_length t i e ≤ length buffer).
      let q = slip_fits t i e buffer z l in
      let r = slip_refusal_given t i e buffer ∙ q in
      q ∙ sym (plan ∙ rw (z, r)))
      (λ (l : length buffer < slip_length t i e).
      let c = slip_short t i e buffer z l in
      let r : refusal_of (clear_slip_call t i e buffer).answer ≡ too_short = ap (λ (o : SlipOutcome). refusal_of o.answer) c ∙ (unfold refusal_of in refl) in
      sym (slip_refusal_given t i e buffer) ∙ r ∙ sym (plan ∙ rw (z, r)))
      (le_or_lt (slip_length t i e) (length buffer)))
      (λ d.
      let c = slip_refused t i e buffer d in
      let r : refusal_of (clear_slip_call t i e buffer).answer ≡ clear_refusal t i e = ap (λ (o : SlipOutcome). refusal_of o.answer) c ∙ (unfold refusal_of in refl) in
      sym (slip_refusal_given t i e buffer) ∙ r ∙ sym (plan ∙ rw (ne_eqb (clear_refusal t i e) 0 d)))
      (eq_or_ne (clear_refusal t i e) 0)

  beside_slip : (i e : ℕ) (buffer : List ℕ) →
      Beside (ran_by (λ a b. freed b) (record { answer = (clear_slip_call t i e buffer).answer; table = (clear_slip_call t i e buffer).table }))
      (draw (plan_of t) (is_told t (clear_slip i e buffer)) (clear_slip i e buffer))
  unfolding draw plan_row draw_clear
  beside_slip i e buffer =
      subst (λ (o : Outcome). Beside (ran_by (λ a b. freed b) o) (draw (plan_of t) (is_told t (clear_slip i e buffer)) (clear_slip i e buffer)))
      (sym (slip_outcome t i e buffer))
      (beside_unless _ _ _ _ s (slip_refusal i e buffer) (λ z. beside_cleared i e (slip_cleared t i e buffer z).0))

  -- W7: and of 18
  back_refusal : (bs : List ℕ) → take_back_refusal t bs ≡ first ((is_told t (take_back bs), slip_not_accepted) ∷ [])
  unfolding first is_told row
  back_refusal bs =
      ⊎_elim
      (λ (z : take_back_refusal t bs ≡ 0). z ∙ sym (rw (back_refusal_given t bs, z)))
      (λ d.
      let n = not_taken t bs s (λ x. d (taken_accepted t bs s x)) in
      n ∙ sym (rw (back_refusal_given t bs, n)))
      (eq_or_ne (take_back_refusal t bs) 0)

  beside_back : (bs : List ℕ) → Beside (ran_by (λ a b. back a) (take_back_call t bs)) (draw (plan_of t) (is_told t (take_back bs)) (take_back bs))
  unfolding take_back_call draw plan_row
  beside_back bs =
      beside_unless _ _ _ _ s (back_refusal bs)
      (λ z.
      let x = accepted_taken t bs z in
      let plan = rebuilt_plan t s.formed.shape s.formed.most bs in
      let rise : second_of (cleared_again t bs).answer ≡ plan_count (plan_taken_back (plan_of t) bs) - plan_count (plan_of t) =
      (let before = plan_count_lem (sound_wired s) in
      let after = ap plan_count (sym plan) ∙ plan_count_lem (sound_wired x.sound) in
      let more = taken_rise t bs x in
      omega arith) in
      record { sound = x.sound; plan = plan; heard = given_heard _ _ _ ∙ ap (λ (n : ℕ). saying (back n)) rise })

  beside_count : Beside (ran_by (λ a b. spoken a b) (spoken_counts t)) (drawn (plan_of t) (draw_count (plan_of t)))
  unfolding spoken_counts drawn draw_count
  beside_count =
      record {
        sound = s;
        plan = refl;
        heard =
            given_heard _ _ _
            ∙ ap₂ (λ (a b : ℕ). saying (spoken a b)) (sym (plan_count_lem (sound_wired s)))
            (ap₂ ◌-◌ (sym (plan_capacity t)) (sym (plan_count_lem (sound_wired s))));
      }

  beside_command : (c : Command) → Beside (ran_by (command_says c) (perform t c)) (drawn (plan_of t) (draw_command (plan_of t) c))
  unfolding command_says perform draw_command
  beside_command (Add holder e kind content) = beside_add holder e kind content key_cabin
  beside_command (Link source e second f) = beside_link source e second f
  beside_command (Clear i e) = beside_clear i e
  beside_command Count = beside_count

  beside_line : (d : Option Command) → Beside (ran_by (line_says d) (perform_line t d)) (drawn (plan_of t) (draw_line (plan_of t) d))
  unfolding line_says perform_line draw_line drawn unchanged
  beside_line None = record { sound = s; plan = refl; heard = refused_heard _ _ }
  beside_line (Some c) = beside_command c

  beside_keys : (bs : List ℕ) → Beside (ran_by (line_says (decode bs)) (key_call t bs)) (drawn (plan_of t) (draw_line (plan_of t) (decode bs)))
  unfolding key_call
  beside_keys bs = rw (unless_zero _ t (perform_line t (decode bs)) (past_sound s [] ∙ (unfold first in refl))) (beside_line (decode bs))

  -- a squeeze gives no number
  beside_squeeze : (c : ℕ) (q : List ℕ) → Beside (ran_by (λ a b. silent) (squeeze_call t c q)) (draw (plan_of t) false (squeeze c q))
  unfolding squeeze_call draw plan_row
  beside_squeeze c q =
      beside_unless _ _ _ _ s (squeeze_refusal_lem s c q)
      (λ z.
      let f = squeeze_fits s c q z in
      record { sound = squeeze_sound s c q f.roomy f.charges; plan = squeeze_plan s c q f.roomy; heard = given_heard _ _ _ })

  read_heard : (i : ℕ) → (read_call t i).refusal ≡ plan_read_refusal (plan_of t) i
  unfolding read_call
  read_heard i = read_refusal_lem s i

  trial_heard : (limit : ℕ) (results trace : List ℕ) → tried_refusal (trial_call t limit results trace).answer ≡ plan_trial_refusal limit results (length trace)
  trial_heard limit results trace = trial_refusal_given t limit results trace ∙ trial_refusal_lem s limit results trace

  write_refusal_lem : (room : ℕ) → write_refusal t room ≡ plan_write_refusal (plan_of t) room
  unfolding write_refusal plan_write_refusal image_length
  write_refusal_lem room =
      past_sound s _ ∙ first_same (next (ap (λ (n : ℕ). ltb room (image_size written_edition n)) (sym (plan_count_lem (sound_wired s)))) (λ _. done))

  written_refusal : (buffer : List ℕ) → refusal_of (write_call t buffer).answer ≡ write_refusal t (length buffer)
  unfolding write_call
  written_refusal buffer = put_refusal (write_refusal t (length buffer)) written_edition t buffer

-- what a call on a sound table comes to
abbrev pub Agrees : Table → Call → Type 0
Agrees t c = Beside (run t c) (draw (plan_of t) (is_told t c) c)

pub call_agrees : {t : Table} → Sound t → (c : Call) → Agrees t c
unfolding run row draw plan_row is_told
call_agrees s (add holder e kind content cabin) = beside_add s holder e kind content cabin
call_agrees s (link source e second f) = beside_link s source e second f
call_agrees s (clear i e) = beside_clear s i e
call_agrees s (read i) = beside_still _ _ s (read_heard s i)
call_agrees s (trial limit results trace) = beside_still _ _ s (trial_heard s limit results trace)
call_agrees {t} s (write buffer) =
    rw (silent_said (write_call t buffer).answer) (beside_still _ _ s (written_refusal s buffer ∙ write_refusal_lem s (length buffer)))
call_agrees s (key_line bs) = beside_keys s bs
call_agrees s (squeeze c q) = beside_squeeze s c q
call_agrees s (clear_slip i e buffer) = beside_slip s i e buffer
call_agrees s (take_back bs) = beside_back s bs
call_agrees s (preview i e buffer) = beside_preview s i e buffer
call_agrees s (rung buffer) = beside_rung s buffer
