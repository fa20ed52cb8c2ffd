-- Laws of trials: the exit that a step takes, one move of a trial, and the refusals in their order. Assumes nothing.
--   Chosen           the exit and the results left, as a step chooses them
--   Followed         a trial on its way, which ends as the whole trial does
use mathlib.Core.Path.{◌≡◌, sym, ◌∙◌, ap}
use mathlib.Core.Bool.{true, false}
use mathlib.Core.List.{List}
use Prim.Native.Nat.{ℕ, suc, ◌+◌, ◌-◌, ◌≤◌, ◌<◌}
use native.Mathlib.Omega.{arith}
use lib.ListN.{length, get_or, set, drop, length-set}
use borrow.Author.Tests.{eq-eqb, ne_eqb, le-leb, lt-leb, lt-ltb, le-ltb}
use Rattle.table.specs.declared.Ending.TheVariants.{Open, Spent, Stopped}
use Rattle.table.specs.Said.{Tried, TrialRefused}
use Rattle.table.specs.Table.{Table, places, exits, kind_of, target_of, holds}
use Rattle.table.specs.Sound.{Sound}
use Rattle.table.specs.Answer.{bad_result, too_short, first, moves_of}
use Rattle.table.specs.Calls.{table_tests}
use Rattle.table.specs.Trial.{TrialOutcome, ended, is_contact, exit_of, results_after, no_result, try_from, results_fit, trial_refusal, trial_call}
use Rattle.table.proofs.Links.{target_holds, target_empty}
use Rattle.table.proofs.Sound.{sound_test}
use Rattle.table.proofs.Trials.{results_at, try_spent, try_open, try_stopped, try_move, none_left, exit_left, after_contact, after_other, trial_most}
use Rattle.words.proofs.Refusals.{table_stopped}

-- at a step with so many results used up: no ending for want of a result, the exit taken, and the results left then
pub record Chosen (t : Table) (results : List ℕ) (step used exit after : ℕ) : Type 0 where
  pub some : no_result t step (drop used results) ≡ false
  pub exit_of_lem : exit_of t step (drop used results) ≡ exit
  pub below : exit < exits
  pub rest : results_after t step (drop used results) ≡ drop after results
  pub within : after ≤ length results

module _ (t : Table) (results : List ℕ) (step used : ℕ) where
  module _ (k : kind_of t step ≡ 1) where
    contact : is_contact t step ≡ true
    unfolding is_contact
    contact = eq-eqb (kind_of t step) 1 k

    pub contact_spent : used ≡ length results → no_result t step (drop used results) ≡ true
    contact_spent q = none_left t results step used ∙ rw (contact, le-leb (length results) used (omega arith))

    pub contact_chosen : results_fit results ≡ true → used < length results → Chosen t results step used (get_or results used 0) (used + 1)
    contact_chosen f l =
        record {
          some = none_left t results step used ∙ rw (contact, lt-leb (length results) used l);
          exit_of_lem = exit_left t results step used ∙ rw contact;
          below = results_at results f used l;
          rest = after_contact t results step used contact;
          within = omega arith;
        }

  module _ (k : kind_of t step ≡ 1 → ⊥) where
    other : is_contact t step ≡ false
    unfolding is_contact
    other = ne_eqb (kind_of t step) 1 k

    pub other_chosen : used ≤ length results → Chosen t results step used 0 used
    other_chosen l =
        record {
          some = none_left t results step used ∙ rw other;
          exit_of_lem = exit_left t results step used ∙ rw other;
          below = omega arith;
          rest = after_other t results step used other;
          within = l;
        }

-- after so many moves, at this step: the trial from here, with the results and the moves that are left, ends as the whole trial does
pub record Followed (t : Table) (limit : ℕ) (results trace₀ trace : List ℕ) (step moves used : ℕ) : Type 0 where
  pub within : used ≤ length results
  pub most : moves ≤ limit
  pub place : step < places
  pub room : length trace ≡ length trace₀
  pub rest : try_from t step moves (limit - moves) trace (drop used results) ≡ try_from t 0 0 limit trace₀ results

module _ {t : Table} {limit : ℕ} {results trace₀ trace : List ℕ} {step moves used : ℕ} (f : Followed t limit results trace₀ trace step moves used) where
  pub followed_spent : kind_of t step ≡ 1 → used ≡ length results → ended Spent step moves trace ≡ try_from t 0 0 limit trace₀ results
  followed_spent k q = sym (try_spent t step moves trace (drop used results) (limit - moves) (contact_spent t results step used k q)) ∙ f.rest

  -- the exit chosen holds n
  module _ {exit after : ℕ} (c : Chosen t results step used exit after) (n : ℕ) (q : n ≡ target_of t step exit) where
    target : n ≡ target_of t step (exit_of t step (drop used results))
    target = q ∙ ap (target_of t step) (sym c.exit_of_lem)

    pub followed_open : n ≡ 0 → ended Open step moves trace ≡ try_from t 0 0 limit trace₀ results
    followed_open z =
        sym (try_open t step moves trace (drop used results) (limit - moves) c.some (target_empty t step _ (sym target ∙ z))) ∙ f.rest

    module _ (d : n ≡ 0 → ⊥) where
      filled : holds t step (exit_of t step (drop used results)) ≡ true
      filled = target_holds t step _ (λ e. d (target ∙ e))

      pub followed_stopped : moves ≡ limit → ended Stopped step moves trace ≡ try_from t 0 0 limit trace₀ results
      followed_stopped e =
          let z : limit - moves ≡ 0 = omega arith in
          sym (try_stopped t step moves trace (drop used results) c.some filled) ∙ (rw z at f.rest)

      pub followed_move : n < places → (moves ≡ limit → ⊥) → Followed t limit results trace₀ (set trace moves n) n (moves + 1) after
      followed_move b e =
          let z : limit - moves ≡ suc (limit - (moves + 1)) = let m = f.most in omega arith in
          record {
            within = c.within;
            most = let m = f.most in omega arith;
            place = b;
            room = length-set trace moves n ∙ f.room;
            rest =
                rw (sym c.rest, target)
                (sym (try_move t step moves trace (drop used results) (limit - (moves + 1)) c.some filled) ∙ (rw z at f.rest));
          }

-- the refusals in their order, and the trial that none of them meets
module _ (t : Table) (limit : ℕ) (results lent : List ℕ) where
  -- a refused trial leaves the trace as it was lent
  abbrev refused : ℕ → TrialOutcome
  refused n = record { answer = TrialRefused n; trace = lent }

  pub trial_stopped : (first (table_tests t) ≡ 0 → ⊥) → trial_call t limit results lent ≡ refused (first (table_tests t))
  unfolding trial_call
  trial_stopped d =
      let q : trial_refusal t limit results lent ≡ first (table_tests t) = unfold trial_refusal in (sym (table_stopped t _ d)) in
      rw (q, ne_eqb (first (table_tests t)) 0 d)

  module _ (s : Sound t) where
    pub trial_unfit : results_fit results ≡ false → trial_call t limit results lent ≡ refused bad_result
    unfolding trial_call trial_refusal first
    trial_unfit f = rw (sound_test t s, f)

    pub trial_short : results_fit results ≡ true → length lent < limit → trial_call t limit results lent ≡ refused too_short
    unfolding trial_call trial_refusal first
    trial_short f l = rw (sound_test t s, f, lt-ltb (length lent) limit l)

    pub trial_followed : results_fit results ≡ true → limit ≤ length lent → trial_call t limit results lent ≡ try_from t 0 0 limit lent results
    unfolding trial_call trial_refusal first
    trial_followed f l = rw (sound_test t s, f, le-ltb (length lent) limit l)

  -- the outcome by its parts, and its moves
  pub outcome_parts : {r : Tried} {l : List ℕ} → trial_call t limit results lent ≡ record { answer = r; trace = l } →
      record {
        answer : r ≡ (trial_call t limit results lent).answer;
        trace : l ≡ (trial_call t limit results lent).trace;
        moves : moves_of r ≡ moves_of (trial_call t limit results lent).answer;
        most : moves_of r ≤ limit;
      }
  outcome_parts q =
      let a = sym (ap (λ (o : TrialOutcome). o.answer) q) in
      record {
        answer = a;
        trace = sym (ap (λ (o : TrialOutcome). o.trace) q);
        moves = ap moves_of a;
        most = rw a (trial_most t limit results lent);
      }
