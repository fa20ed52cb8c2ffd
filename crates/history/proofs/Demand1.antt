-- Demand 1: each call is refused as its conditions say, and a refused call does nothing else. Assumes nothing.
use mathlib.Core.Path.{◌≡◌, refl, sym, ◌∙◌, ap, subst}
use mathlib.Core.Bool.{Bool, true, not, cond}
use mathlib.Core.Logic.{◌⊎◌, inl, inr, ⊎_elim}
use mathlib.Core.List.{List, [], ◌∷◌, ◌++◌}
use Prim.Native.Nat.{ℕ}
use lib.ListN.{length}
use lib.Dec.{eqb}
use borrow.Author.Tests.{eq-eqb, ne_eqb}
use Rattle.std.specs.Prelude.{Option, Some, None}
use Rattle.finite.proofs.Bools.{and_intro, and_left, and_right}
use Rattle.finite.proofs.Below.{eq_or_ne}
use Rattle.table.specs.Answer.{Outcome, first, FirstHeld, unless, refusal_of, first_of, second_of, tried_refusal, ending_of, last_of, moves_of}
use Rattle.table.specs.Calls.{fresh_call, add_refusal, add_call, link_refusal, link_call, no_fields, read_refusal, read_call, table_tests, spoken_counts}
use Rattle.table.specs.Trial.{trial_refusal}
use Rattle.table.specs.Clear.{cleared, clear_refusal, clear_call}
use Rattle.table.specs.Preview.{preview_refusal}
use Rattle.table.specs.Rung.{rung_refusal}
use Rattle.table.specs.Squeeze.{squeeze_refusal, squeeze_call}
use Rattle.table.specs.Table.{Table}
use Rattle.table.proofs.Held.{first_held}
use Rattle.table.proofs.Calls.{nonzero, first_append, unless_zero, unless_refused, unless_refusal, cleared_given, read_refused, trial_refused}
use Rattle.table.proofs.Trials.{trial_refusal_given}
use Rattle.table.proofs.Preview.{preview_refused_as, preview_refusal_given}
use Rattle.table.proofs.Rung.{rung_refused_as, rung_refusal_given}
use Rattle.image.specs.Image.{Edition, written_edition, write_refusal, write_call, image_table, load_call}
use Rattle.image.specs.Convert.{convert_refusal, convert_call}
use Rattle.image.specs.Slip.{clear_slip_refusal, take_back_refusal, take_back_call}
use Rattle.image.proofs.Laws.{put_refused, put_refusal}
use Rattle.image.proofs.TakenBack.{slip_refusal_given, slip_refused_as}
use Rattle.keyline.specs.declared.Command.{Command}
use Rattle.keyline.specs.declared.Command.TheVariants.{Add, Link, Clear, Count}
use Rattle.keyline.specs.Keys.{decode, perform, call_conditions, line_conditions, key_conditions, perform_line, key_call}
use Rattle.history.specs.History.{fresh, load, add, link, clear, read, trial, write, key_line, squeeze, clear_slip, take_back, preview, rung, silent, Done, field_numbers, tried_numbers, changing, row, first_row}
use Rattle.history.specs.Acts.{Act, begin, call, convert, act_row, done_by, table_kept, refused_by, conditions_of}
use Rattle.history.specs.Demands.{Demand1, Lent, to_trial, to_write, to_clear, to_preview, to_rung, to_convert}

nonzero_append : (xs ys : List (Bool × ℕ)) → nonzero xs ≡ true → nonzero ys ≡ true → nonzero (xs ++ ys) ≡ true
unfolding nonzero
nonzero_append [] ys d e = e
nonzero_append (x ∷ xs) ys d e =
    and_intro (and_left (not (eqb x.1 0)) (nonzero xs) d) (nonzero_append xs ys (and_right (not (eqb x.1 0)) (nonzero xs) d) e)

unless_unless : (n m : ℕ) (t : Table) (o : Outcome) → unless n t (unless m t o) ≡ unless (cond (eqb n 0) m n) t o
unless_unless n m t o =
    ⊎_elim
    (λ (z : n ≡ 0). unless_zero n t _ z ∙ (rw (eq-eqb n 0 z)))
    (λ (d : n ≡ 0 → ⊥). unless_refused n t _ d ∙ (rw (ne_eqb n 0 d) (sym (unless_refused n t o d))))
    (eq_or_ne n 0)

-- an act whose refusal n is the first of its conditions: it remains to say what it does where it is refused
conditions_demand : (t : Table) (a : Act) (n : ℕ) → nonzero (conditions_of t a) ≡ true → (done_by t a).refusal ≡ n → n ≡ first (conditions_of t a) →
    ((n ≡ 0 → ⊥) → done_by t a ≡ refused_by n t a) → Demand1 t a
conditions_demand t a n z e c f =
    record {
      listed = subst (FirstHeld (conditions_of t a)) (sym (e ∙ c)) (first_held (conditions_of t a) z);
      refused = λ h. f (λ q. h (e ∙ q)) ∙ ap (λ (m : ℕ). refused_by m t a) (sym e);
    }

-- what a call that is lent nothing does by its outcome, and where it is refused
abbrev told : Outcome → Done
told o = (changing [] o (λ a b. silent)).done

abbrev nothing_done : ℕ → Table → Done
nothing_done n t = record { refusal = n; numbers = 0 ∷ 0 ∷ []; lent = []; table = t }

told_refused : (n : ℕ) (t : Table) (o : Outcome) → (n ≡ 0 → ⊥) → told (unless n t o) ≡ nothing_done n t
unfolding refusal_of first_of second_of
told_refused n t o d = ap told (unless_refused n t o d)

-- u is the table handed back where the act is refused
outcome_demand : (t u : Table) (a : Act) (o : Outcome) → nonzero (conditions_of t a) ≡ true → refusal_of o.answer ≡ 0 →
    done_by t a ≡ told (unless (first (conditions_of t a)) u o) → ((n : ℕ) → refused_by n t a ≡ nothing_done n u) → Demand1 t a
outcome_demand t u a o z r d f =
    let n = first (conditions_of t a) in
    conditions_demand t a n z (ap (λ (x : Done). x.refusal) d ∙ unless_refusal n u o r) refl
    (λ q. d ∙ told_refused n u o q ∙ sym (f n))

-- a decoded line as one outcome: refused by the conditions of its call, or accepted
pub record Performed (t : Table) (d : Option Command) : Type 0 where
  pub outcome : Outcome
  pub given : refusal_of outcome.answer ≡ 0
  pub same : perform_line t d ≡ unless (first (line_conditions t d)) t outcome
  pub numbers : nonzero (line_conditions t d) ≡ true

pub performed : (t : Table) (d : Option Command) → Performed t d
unfolding perform_line line_conditions call_conditions perform refusal_of unless first nonzero
performed t None = record { outcome = spoken_counts t; given = (unfold spoken_counts in refl); same = refl; numbers = refl }
performed t (Some (Add holder e kind content)) =
    (unfold add_call add_refusal in
    record { outcome = _; given = refl; same = refl; numbers = refl })
performed t (Some (Link source e second f)) = (unfold link_call link_refusal in record { outcome = _; given = refl; same = refl; numbers = refl })
performed t (Some (Clear i e)) = (unfold clear_call clear_refusal in record { outcome = cleared t i e; given = cleared_given t i e; same = refl; numbers = refl })
performed t (Some Count) = (unfold spoken_counts in record { outcome = spoken_counts t; given = refl; same = refl; numbers = refl })

key_demand : (t : Table) (bs : List ℕ) → Demand1 t (call (key_line bs))
unfolding done_by conditions_of refused_by table_kept act_row row key_conditions key_call
key_demand t bs =
    let p = performed t (decode bs) in
    outcome_demand t t (call (key_line bs)) p.outcome
    (nonzero_append (table_tests t) _ (unfold nonzero in refl) p.numbers) p.given
    (ap told
    (ap (unless (first (table_tests t)) t) p.same ∙ unless_unless (first (table_tests t)) _ t p.outcome ∙
    ap (λ (n : ℕ). unless n t p.outcome) (sym (first_append (table_tests t) _ (unfold nonzero in refl)))))
    (λ n. refl)

read_demand : (t : Table) (i : ℕ) → Demand1 t (call (read i))
unfolding done_by conditions_of refused_by table_kept act_row row nonzero field_numbers no_fields
read_demand t i =
    conditions_demand t (call (read i)) (read_refusal t i) refl (unfold read_call in refl) (unfold read_refusal in refl) (λ d. rw (read_refused t i d))

trial_demand : (t : Table) (limit : ℕ) (results trace : List ℕ) → Demand1 t (call (trial limit results trace))
unfolding done_by conditions_of refused_by table_kept act_row row nonzero tried_numbers tried_refusal ending_of last_of moves_of
trial_demand t limit results trace =
    conditions_demand t (call (trial limit results trace)) (trial_refusal t limit results trace) refl (trial_refusal_given t limit results trace)
    (unfold trial_refusal in refl) (λ d. rw (trial_refused t limit results trace d))

write_demand : (t : Table) (buffer : List ℕ) → Demand1 t (call (write buffer))
unfolding done_by conditions_of refused_by table_kept act_row row nonzero refusal_of first_of second_of write_call
write_demand t buffer =
    let n = write_refusal t (length buffer) in
    conditions_demand t (call (write buffer)) n refl (put_refusal n written_edition t buffer) (unfold write_refusal in refl)
    (λ d. rw (put_refused n d written_edition t buffer))

convert_demand : (t : Table) (v : Edition) (bs buffer : List ℕ) → Demand1 t (convert v bs buffer)
unfolding done_by conditions_of refused_by table_kept act_row nonzero refusal_of first_of second_of convert_call
convert_demand t v bs buffer =
    let n = convert_refusal v bs (length buffer) in
    conditions_demand t (convert v bs buffer) n refl (put_refusal n v (image_table bs) buffer) (unfold convert_refusal in refl)
    (λ d. rw (put_refused n d v (image_table bs) buffer))

clear_slip_demand : (t : Table) (i e : ℕ) (buffer : List ℕ) → Demand1 t (call (clear_slip i e buffer))
unfolding done_by conditions_of refused_by table_kept act_row row nonzero refusal_of first_of second_of
clear_slip_demand t i e buffer =
    conditions_demand t (call (clear_slip i e buffer)) (clear_slip_refusal t i e (length buffer)) refl (slip_refusal_given t i e buffer)
    (unfold clear_slip_refusal in refl) (λ d. rw (slip_refused_as t i e buffer d))

preview_demand : (t : Table) (i e : ℕ) (buffer : List ℕ) → Demand1 t (call (preview i e buffer))
unfolding done_by conditions_of refused_by table_kept act_row row nonzero refusal_of first_of second_of
preview_demand t i e buffer =
    conditions_demand t (call (preview i e buffer)) (preview_refusal t i e (length buffer)) refl (preview_refusal_given t i e buffer)
    (unfold preview_refusal in refl) (λ d. rw (preview_refused_as t i e buffer d))

rung_demand : (t : Table) (buffer : List ℕ) → Demand1 t (call (rung buffer))
unfolding done_by conditions_of refused_by table_kept act_row row nonzero refusal_of first_of second_of
rung_demand t buffer =
    conditions_demand t (call (rung buffer)) (rung_refusal t (length buffer)) refl (rung_refusal_given t buffer)
    (unfold rung_refusal in refl) (λ d. rw (rung_refused_as t buffer d))

pub demand_1 : (t : Table) (a : Act) → Demand1 t a
unfolding done_by conditions_of refused_by table_kept act_row row first_row nonzero
demand_1 t (begin (fresh c q)) = (unfold fresh_call refusal_of in outcome_demand t _ (begin (fresh c q)) _ refl refl refl (λ n. refl))
demand_1 t (begin (load bs)) = (unfold load_call refusal_of in outcome_demand t _ (begin (load bs)) _ refl refl refl (λ n. refl))
demand_1 t (call (add holder e kind content cabin)) =
    (unfold add_call add_refusal refusal_of in outcome_demand t t (call (add holder e kind content cabin)) _ refl refl refl (λ n. refl))
demand_1 t (call (link source e second f)) =
    (unfold link_call link_refusal refusal_of in outcome_demand t t (call (link source e second f)) _ refl refl refl (λ n. refl))
demand_1 t (call (clear i e)) =
    (unfold clear_call clear_refusal in outcome_demand t t (call (clear i e)) (cleared t i e) refl (cleared_given t i e) refl (λ n. refl))
demand_1 t (call (read i)) = read_demand t i
demand_1 t (call (trial limit results trace)) = trial_demand t limit results trace
demand_1 t (call (write buffer)) = write_demand t buffer
demand_1 t (call (key_line bs)) = key_demand t bs
demand_1 t (call (squeeze c q)) =
    (unfold squeeze_call squeeze_refusal refusal_of in outcome_demand t t (call (squeeze c q)) _ refl refl refl (λ n. refl))
demand_1 t (call (clear_slip i e buffer)) = clear_slip_demand t i e buffer
demand_1 t (call (take_back bs)) =
    (unfold take_back_call take_back_refusal refusal_of in outcome_demand t t (call (take_back bs)) _ refl refl refl (λ n. refl))
demand_1 t (call (preview i e buffer)) = preview_demand t i e buffer
demand_1 t (call (rung buffer)) = rung_demand t buffer
demand_1 t (convert v bs buffer) = convert_demand t v bs buffer

-- the bytes that a refused act leaves are those that its arguments say were lent, or none were
pub lent_kept : (t : Table) (a : Act) (n : ℕ) → Lent a (refused_by n t a).lent ⊎ ((refused_by n t a).lent ≡ [])
unfolding refused_by act_row row first_row
lent_kept t (begin (fresh c q)) n = inr refl
lent_kept t (begin (load bs)) n = inr refl
lent_kept t (call (add holder e kind content cabin)) n = inr refl
lent_kept t (call (link source e second f)) n = inr refl
lent_kept t (call (clear i e)) n = inr refl
lent_kept t (call (read i)) n = inr refl
lent_kept t (call (trial limit results trace)) n = inl to_trial
lent_kept t (call (write buffer)) n = inl to_write
lent_kept t (call (key_line bs)) n = inr refl
lent_kept t (call (squeeze c q)) n = inr refl
lent_kept t (call (clear_slip i e buffer)) n = inl to_clear
lent_kept t (call (take_back bs)) n = inr refl
lent_kept t (call (preview i e buffer)) n = inl to_preview
lent_kept t (call (rung buffer)) n = inl to_rung
lent_kept t (convert v bs buffer) n = inl to_convert
