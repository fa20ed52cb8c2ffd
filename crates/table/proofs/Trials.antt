-- Laws of trials. Assumes nothing.
--   try_spent try_open try_stopped try_move   what a trial does at a step
--   Rule, try_rule   what holds at each of its ends, and before a move of what holds after it, holds of every trial
--   trial_refusal_given   the refusal that a trial answers
--   none_left exit_left after_contact after_other   what a step takes, by the number of results used up
--   trial_demand trial_only   what an accepted trial's trace says, which leaves no other outcome
--   trial_longer     a trial with a larger limit
use mathlib.Core.Path.{◌≡◌, refl, sym, ◌∙◌, ap, ap₂}
use mathlib.Core.Bool.{Bool, true, false, ◌&&◌, cond}
use mathlib.Core.Logic.{⊎_elim}
use mathlib.Core.List.{List, [], ◌∷◌, ◌++◌}
use Prim.Native.Nat.{ℕ, zero, suc, ◌+◌, ◌-◌, ◌≤◌, ◌<◌}
use native.Mathlib.Omega.{arith}
use native.Mathlib.Nat.{add-zero}
use native.Mathlib.Numerals.{add-one}
use lib.ListN.{length, get_or, set, take, drop, length-set, length-drop}
use lib.Seq.{ext_get_or, get_or-set_same, get_or-set_other, get_or-drop, drop-drop, take-take, take-suc-set, take-set-le, drop-set-lt}
use lib.Dec.{leb}
use borrow.Author.Tests.{ltb-true, ltb-false, eq-eqb, ne_eqb, le-leb, lt-leb}
use Rattle.finite.proofs.Bools.{test, not_false_true}
use Rattle.finite.proofs.Below.{all_at, eq_or_ne, le_or_lt, count_ext}
use Rattle.finite.proofs.Loops.{count_zero, count_hit, count_miss}
use Rattle.table.specs.declared.Ending.{Ending}
use Rattle.table.specs.declared.Ending.TheVariants.{Open, Spent, Stopped}
use Rattle.table.specs.Table.{Table, exits, target_of, holds}
use Rattle.table.specs.Answer.{tried_refusal, ending_number, ending_of, last_of, moves_of}
use Rattle.table.specs.Trial.{TrialOutcome, ended, answered, is_contact, exit_of, results_after, no_result, at_step, try_from, results_fit, trial_conditions, trial_refusal, trial_call, step_after, used_up, spent_after, exit_after, Moved, TrialDemand, SameTrial, LongerDemand}
use Rattle.table.proofs.Calls.{nonzero, passed_next, first_passed, table_fits, trial_made, trial_refused}

-- each line result of a trial that is not refused with 10
pub results_at : (results : List ℕ) → results_fit results ≡ true → (k : ℕ) → k < length results → get_or results k 0 < exits
unfolding results_fit
results_at results h k l = ltb-true (get_or results k 0) exits (all_at (length results) _ h k l)

module _ (t : Table) where
  -- at a step: a contact has no result left, or the exit is empty, or the limit is reached, or it moves
  module _ (i moves : ℕ) (trace results : List ℕ) where
    at_spent : (o : TrialOutcome) → no_result t i results ≡ true → at_step t i moves trace results o ≡ ended Spent i moves trace
    unfolding at_step
    at_spent o h = rw h

    at_open : (o : TrialOutcome) → no_result t i results ≡ false → holds t i (exit_of t i results) ≡ false →
        at_step t i moves trace results o ≡ ended Open i moves trace
    unfolding at_step
    at_open o h g = rw (h, g)

    at_filled : (o : TrialOutcome) → no_result t i results ≡ false → holds t i (exit_of t i results) ≡ true → at_step t i moves trace results o ≡ o
    unfolding at_step
    at_filled o h g = rw (h, g)

    pub try_spent : (left : ℕ) → no_result t i results ≡ true → try_from t i moves left trace results ≡ ended Spent i moves trace
    unfolding try_from
    try_spent zero h = at_spent _ h
    try_spent (suc left) h = at_spent _ h

    pub try_open : (left : ℕ) → no_result t i results ≡ false → holds t i (exit_of t i results) ≡ false →
        try_from t i moves left trace results ≡ ended Open i moves trace
    unfolding try_from
    try_open zero h g = at_open _ h g
    try_open (suc left) h g = at_open _ h g

    pub try_stopped : no_result t i results ≡ false → holds t i (exit_of t i results) ≡ true →
        try_from t i moves 0 trace results ≡ ended Stopped i moves trace
    unfolding try_from
    try_stopped h g = at_filled _ h g

    pub try_move : (left : ℕ) → no_result t i results ≡ false → holds t i (exit_of t i results) ≡ true →
        let j = target_of t i (exit_of t i results) in
        try_from t i moves (suc left) trace results ≡ try_from t j (moves + 1) left (set trace moves j) (results_after t i results)
    unfolding try_from
    try_move left h g = at_filled _ h g

  -- a property of trials: of each end, and, of a trial that moves, wherever the trial from the next step has it
  pub record Rule (P : ℕ → ℕ → ℕ → List ℕ → List ℕ → TrialOutcome → Type 0) : Type 0 where
    pub spends : (i moves left : ℕ) (trace results : List ℕ) → no_result t i results ≡ true → P i moves left trace results (ended Spent i moves trace)
    pub opens : (i moves left : ℕ) (trace results : List ℕ) → no_result t i results ≡ false → holds t i (exit_of t i results) ≡ false →
        P i moves left trace results (ended Open i moves trace)
    pub stops : (i moves : ℕ) (trace results : List ℕ) → no_result t i results ≡ false → holds t i (exit_of t i results) ≡ true →
        P i moves 0 trace results (ended Stopped i moves trace)
    pub goes : (i moves left : ℕ) (trace results : List ℕ) (o : TrialOutcome) → no_result t i results ≡ false → holds t i (exit_of t i results) ≡ true →
        let j = target_of t i (exit_of t i results) in
        P j (moves + 1) left (set trace moves j) (results_after t i results) o → P i moves (suc left) trace results o

  module _ (P : ℕ → ℕ → ℕ → List ℕ → List ℕ → TrialOutcome → Type 0) (r : Rule P) where
    at_rule : (i moves left : ℕ) (trace results : List ℕ) (o : TrialOutcome) →
        (no_result t i results ≡ false → holds t i (exit_of t i results) ≡ true → P i moves left trace results o) →
        P i moves left trace results (at_step t i moves trace results o)
    at_rule i moves left trace results o on =
        ⊎_elim
        (λ (h : no_result t i results ≡ true). rw (at_spent i moves trace results o h) (r.spends i moves left trace results h))
        (λ (h : no_result t i results ≡ false).
        ⊎_elim
        (λ (g : holds t i (exit_of t i results) ≡ true). rw (at_filled i moves trace results o h g) (on h g))
        (λ (g : holds t i (exit_of t i results) ≡ false). rw (at_open i moves trace results o h g) (r.opens i moves left trace results h g))
        (test (holds t i (exit_of t i results))))
        (test (no_result t i results))

    pub try_rule : (i moves left : ℕ) (trace results : List ℕ) → P i moves left trace results (try_from t i moves left trace results)
    unfolding try_from
    try_rule i moves zero trace results = at_rule i moves 0 trace results _ (λ h g. r.stops i moves trace results h g)
    try_rule i moves (suc left) trace results =
        let j = target_of t i (exit_of t i results) in
        at_rule i moves (suc left) trace results _
        (λ h g. r.goes i moves left trace results _ h g (try_rule j (moves + 1) left (set trace moves j) (results_after t i results)))

-- the refusal that a trial answers is that of its conditions: a trial that is not refused answers none
pub trial_refusal_given : (t : Table) (limit : ℕ) (results trace : List ℕ) →
    tried_refusal (trial_call t limit results trace).answer ≡ trial_refusal t limit results trace
unfolding tried_refusal
trial_refusal_given t limit results trace =
    let n = trial_refusal t limit results trace in
    ⊎_elim
    (λ (z : n ≡ 0). rw (trial_made t limit results trace z) (try_rule t _ given 0 0 limit trace results ∙ sym z))
    (λ (d : n ≡ 0 → ⊥). rw (trial_refused t limit results trace d))
    (eq_or_ne n 0)
  where
    given : Rule t (λ i moves left trace results o. tried_refusal o.answer ≡ 0)
    given =
        record {
          spends = λ i moves left trace results h. refl;
          opens = λ i moves left trace results h g. refl;
          stops = λ i moves trace results h g. refl;
          goes = λ i moves left trace results o h g p. p;
        }

-- an accepted trial has the results of its conditions, and the room
pub trial_fit : (t : Table) (limit : ℕ) (results trace : List ℕ) → trial_refusal t limit results trace ≡ 0 →
    (results_fit results ≡ true) × (limit ≤ length trace)
unfolding trial_refusal nonzero
trial_fit t limit results trace z =
    let results = passed_next (table_fits t _ (first_passed (trial_conditions t limit results trace) z refl)).1 in
    (not_false_true _ results.0, ltb-false (length trace) limit (passed_next results.1).0)

-- what a step takes, by the number of results used up before it
module _ (t : Table) (results : List ℕ) (i used : ℕ) where
  pub none_left : no_result t i (drop used results) ≡ (is_contact t i && leb (length results) used)
  unfolding no_result
  none_left =
      let n = length (drop used results) in
      let d : n ≡ length results - used = length-drop used results in
      ap (λ (b : Bool). is_contact t i && b)
      (⊎_elim
      (λ (l : length results ≤ used). eq-eqb n 0 (omega arith) ∙ sym (le-leb (length results) used l))
      (λ (l : used < length results). ne_eqb n 0 (λ (z : n ≡ 0). omega arith) ∙ sym (lt-leb (length results) used l))
      (le_or_lt (length results) used))

  pub exit_left : exit_of t i (drop used results) ≡ cond (is_contact t i) (get_or results used 0) answered
  unfolding exit_of
  exit_left =
      ap (λ (e : ℕ). cond (is_contact t i) e answered) (get_or-drop used results 0 0 ∙ ap (λ (k : ℕ). get_or results k 0) (add-zero used))

  pub after_contact : is_contact t i ≡ true → results_after t i (drop used results) ≡ drop (used + 1) results
  unfolding results_after
  after_contact c = rw c (drop-drop 1 used results)

  pub after_other : is_contact t i ≡ false → results_after t i (drop used results) ≡ drop used results
  unfolding results_after
  after_other c = rw c

-- two traces that say the same steps up to some move say the same of them in all else
module _ (trace trace' : List ℕ) {n : ℕ} (same : (k : ℕ) → k ≤ n → step_after trace k ≡ step_after trace' k) (t : Table) (results : List ℕ) where
  used_same : (k : ℕ) → k ≤ n → used_up t trace k ≡ used_up t trace' k
  unfolding used_up
  used_same k l = count_ext k _ _ (λ m b. ap (is_contact t) (same m (omega arith)))

  spent_same : (k : ℕ) → k ≤ n → spent_after t results trace k ≡ spent_after t results trace' k
  unfolding spent_after
  spent_same k l = rw (same k l, used_same k l)

  exit_same : (k : ℕ) → k ≤ n → exit_after t results trace k ≡ exit_after t results trace' k
  unfolding exit_after
  exit_same k l = rw (same k l, used_same k l)

  moved_same : (k : ℕ) → k < n → Moved t results trace' k → Moved t results trace k
  moved_same k l m =
      record {
        unspent = spent_same k (omega arith) ∙ m.unspent;
        filled = rw (same k (omega arith), exit_same k (omega arith)) m.filled;
        entered = rw (same k (omega arith), same (suc k) l, exit_same k (omega arith)) m.entered;
      }

-- so does a trace in which a byte past those moves is written
written_same : (trace : List ℕ) (moves j k : ℕ) → k ≤ moves → step_after (set trace moves j) k ≡ step_after trace k
unfolding step_after
written_same trace moves j zero l = refl
written_same trace moves j (suc k) l = get_or-set_other trace moves k j 0 (λ e. omega arith)

-- a trial on its way: the trace so far, and what it says
record Underway (t : Table) (limit : ℕ) (results₀ trace₀ : List ℕ) (i moves left : ℕ) (trace results : List ℕ) : Type 0 where
  here : i ≡ step_after trace moves
  rest : results ≡ drop (used_up t trace moves) results₀
  whole : moves + left ≡ limit
  room : limit ≤ length trace
  moved : (k : ℕ) → k < moves → Moved t results₀ trace k
  past : (n : ℕ) → moves ≤ n → drop n trace ≡ drop n trace₀
  size : length trace ≡ length trace₀

module _ {t : Table} {limit : ℕ} {results₀ trace₀ : List ℕ} where
  module _ {i moves left : ℕ} {trace results : List ℕ} (u : Underway t limit results₀ trace₀ i moves left trace results) where
    spent_here : no_result t i results ≡ spent_after t results₀ trace moves
    unfolding spent_after
    spent_here = rw (u.rest, u.here) (none_left t results₀ (step_after trace moves) (used_up t trace moves))

    exit_here : exit_of t i results ≡ exit_after t results₀ trace moves
    unfolding exit_after
    exit_here = rw (u.rest, u.here) (exit_left t results₀ (step_after trace moves) (used_up t trace moves))

    -- it ends here, as the trace says
    end_here : (e : Ending) → ending_number e ≡ cond (spent_after t results₀ trace moves) 1 (cond (holds t i (exit_after t results₀ trace moves)) 2 0) →
        (ending_number e ≡ 2 → left ≡ 0) → TrialDemand t limit results₀ trace₀ (ended e i moves trace)
    unfolding tried_refusal moves_of last_of ending_of
    end_here e q z =
        record {
          accepted = refl;
          most = let w = u.whole in omega arith;
          moved = u.moved;
          last = u.here;
          ending = q;
          stopped = λ y. let w = u.whole in let n = z y in omega arith;
          past = u.past moves (omega arith);
          size = u.size;
        }

    -- it moves to j
    module _ (h : no_result t i results ≡ false) (g : holds t i (exit_of t i results) ≡ true) (l : moves < length trace) where
      abbrev j : ℕ
      j = target_of t i (exit_of t i results)

      abbrev written : List ℕ
      written = set trace moves j

      entered_here : step_after written (moves + 1) ≡ j
      unfolding step_after
      entered_here = rw add-one (get_or-set_same trace moves j 0 l)

      moved_here : Moved t results₀ written moves
      moved_here =
          let at = written_same trace moves j moves (omega arith) ∙ sym u.here in
          let e = exit_same written trace (written_same trace moves j) t results₀ moves (omega arith) ∙ sym exit_here in
          record {
            unspent = spent_same written trace (written_same trace moves j) t results₀ moves (omega arith) ∙ sym spent_here ∙ h;
            filled = rw (at, e) g;
            entered = rw (at, e) (rw add-one at entered_here);
          }

      used_here : results_after t i results ≡ drop (used_up t written (moves + 1)) results₀
      unfolding used_up
      used_here =
          let used = used_same written trace (written_same trace moves j) t results₀ moves (omega arith) in
          let rest = ap (results_after t i) u.rest in
          let at : is_contact t (step_after written moves) ≡ is_contact t i = ap (is_contact t) (written_same trace moves j moves (omega arith) ∙ sym u.here) in
          ⊎_elim
          (λ (c : is_contact t i ≡ true).
          rw (count_hit moves (λ k. is_contact t (step_after written k)) (at ∙ c))
          (rest ∙ after_contact t results₀ i (used_up t trace moves) c ∙ ap (λ (n : ℕ). drop (n + 1) results₀) (sym used)))
          (λ (c : is_contact t i ≡ false).
          rw (count_miss moves (λ k. is_contact t (step_after written k)) (at ∙ c))
          (rest ∙ after_other t results₀ i (used_up t trace moves) c ∙ ap (λ (n : ℕ). drop n results₀) (sym used)))
          (test (is_contact t i))

      goes_on : {n : ℕ} → left ≡ suc n → Underway t limit results₀ trace₀ j (moves + 1) n written (results_after t i results)
      goes_on {n} q =
          let size = length-set trace moves j in
          record {
            here = sym entered_here;
            rest = used_here;
            whole = let w = u.whole in omega arith;
            room = let r = u.room in omega arith;
            moved =
                λ k b.
                ⊎_elim
                (λ (e : k ≡ moves). rw e moved_here)
                (λ (d : k ≡ moves → ⊥). let c : k < moves = omega arith in moved_same written trace (written_same trace moves j) t results₀ k c (u.moved k c))
                (eq_or_ne k moves);
            past = λ k b. drop-set-lt k trace moves j (omega arith) ∙ u.past k (omega arith);
            size = size ∙ u.size;
          }

pub trial_demand : (t : Table) (limit : ℕ) (results trace : List ℕ) → trial_refusal t limit results trace ≡ 0 →
    TrialDemand t limit results trace (trial_call t limit results trace)
trial_demand t limit results₀ trace₀ z =
    rw (trial_made t limit results₀ trace₀ z)
    (try_rule t _ rule 0 0 limit trace₀ results₀
    (record {
      here = (unfold step_after in refl);
      rest = (unfold used_up in rw (count_zero (λ k. is_contact t (step_after trace₀ k))));
      whole = omega arith;
      room = (trial_fit t limit results₀ trace₀ z).1;
      moved = λ k l. absurd (omega arith);
      past = λ n l. refl;
      size = refl;
    }))
  where
    rule : Rule t (λ i moves left trace results o. Underway t limit results₀ trace₀ i moves left trace results → TrialDemand t limit results₀ trace₀ o)
    rule =
        record {
          spends =
              λ i moves left trace results h u.
              end_here u Spent (unfold ending_number in rw (sym (spent_here u), h)) (unfold ending_number in λ y. absurd (omega arith));
          opens =
              λ i moves left trace results h g u.
              end_here u Open (unfold ending_number in rw (sym (spent_here u), h, sym (exit_here u), g)) (unfold ending_number in λ y. absurd (omega arith));
          stops = λ i moves trace results h g u. end_here u Stopped (unfold ending_number in rw (sym (spent_here u), h, sym (exit_here u), g)) (λ y. refl);
          goes =
              λ i moves left trace results o h g f u.
              f (goes_on u h g (let w = u.whole in let r = u.room in omega arith) refl);
        }

-- two outcomes of which this is so: neither moves on where the other has ended
module _ {t : Table} {limit : ℕ} {results trace : List ℕ} {o p : TrialOutcome} (a : TrialDemand t limit results trace o) (b : TrialDemand t limit results trace p)
  where
    steps_same : (n : ℕ) → n ≤ moves_of o.answer → n ≤ moves_of p.answer → (k : ℕ) → k ≤ n → step_after o.trace k ≡ step_after p.trace k
    steps_same zero l m k c = let z : k ≡ 0 = omega arith in rw z (unfold step_after in refl)
    steps_same (suc n) l m k c =
        let same = steps_same n (omega arith) (omega arith) in
        ⊎_elim (same k)
        (λ (d : n < k).
        let z : k ≡ suc n = omega arith in
        rw z
        ((a.moved n l).entered ∙ ap₂ (target_of t) (same n (omega arith)) (exit_same o.trace p.trace same t results n (omega arith)) ∙
        sym (b.moved n m).entered))
        (le_or_lt k n)

    no_fewer : moves_of p.answer ≤ moves_of o.answer
    no_fewer =
        ⊎_elim (λ l. l)
        (λ (l : moves_of o.answer < moves_of p.answer).
        let m = moves_of o.answer in
        let same = steps_same m (omega arith) (omega arith) in
        let on = b.moved m l in
        let spent = spent_same o.trace p.trace same t results m (omega arith) ∙ on.unspent in
        let filled : holds t (last_of o.answer) (exit_after t results o.trace m) ≡ true =
        rw (a.last, same m (omega arith), exit_same o.trace p.trace same t results m (omega arith)) on.filled in
        let e = a.stopped (a.ending ∙ rw (spent, filled)) in
        let most = b.most in
        absurd (omega arith))
        (le_or_lt (moves_of p.answer) (moves_of o.answer))

-- so they are one, in each number and byte
pub trial_only : {t : Table} {limit : ℕ} {results trace : List ℕ} {o p : TrialOutcome} → TrialDemand t limit results trace o → TrialDemand t limit results trace p →
    SameTrial o p
trial_only {t} {limit} {results} {trace} {o} {p} a b =
    let m = moves_of o.answer in
    let moves : moves_of o.answer ≡ moves_of p.answer = let l = no_fewer a b in let r = no_fewer b a in omega arith in
    let same = steps_same a b m (omega arith) (omega arith) in
    let last : last_of o.answer ≡ last_of p.answer = a.last ∙ same m (omega arith) ∙ ap (step_after p.trace) moves ∙ sym b.last in
    let bytes : (k : ℕ) → k < length o.trace → get_or o.trace k 0 ≡ get_or p.trace k 0 =
    λ k _. ⊎_elim (λ (l : m ≤ k). past a k l ∙ sym (past b k (omega arith))) (λ (l : k < m). (unfold step_after in same (suc k) l)) (le_or_lt m k) in
    record {
      refusal = a.accepted ∙ sym b.accepted;
      moves = moves;
      last = last;
      ending =
          a.ending
          ∙ rw (last, spent_same o.trace p.trace same t results m (omega arith), exit_same o.trace p.trace same t results m (omega arith), moves)
          (sym b.ending);
      trace = ext_get_or 0 o.trace p.trace (a.size ∙ sym b.size) bytes;
    }
  where
    -- a byte past the moves, as it was lent
    past : {o : TrialOutcome} → TrialDemand t limit results trace o → (k : ℕ) → moves_of o.answer ≤ k → get_or o.trace k 0 ≡ get_or trace k 0
    past {o} a k l =
        let m = moves_of o.answer in
        let q : m + (k - m) ≡ k = omega arith in
        rw q at (sym (get_or-drop m o.trace (k - m) 0) ∙ ap (λ (bs : List ℕ). get_or bs (k - m) 0) a.past ∙ get_or-drop m trace (k - m) 0)

-- the moves never exceed the limit, refused or not
pub trial_most : (t : Table) (limit : ℕ) (results trace : List ℕ) → moves_of (trial_call t limit results trace).answer ≤ limit
unfolding moves_of
trial_most t limit results trace =
    ⊎_elim (λ (z : trial_refusal t limit results trace ≡ 0). (trial_demand t limit results trace z).most)
    (λ (d : trial_refusal t limit results trace ≡ 0 → ⊥). rw (trial_refused t limit results trace d) (omega arith))
    (eq_or_ne (trial_refusal t limit results trace) 0)

-- the bytes written so far stay, and the moves made so far count
record Kept (moves : ℕ) (trace : List ℕ) (o : TrialOutcome) : Type 0 where
  made : moves ≤ moves_of o.answer
  begun : take moves o.trace ≡ take moves trace

kept : (t : Table) (i moves left : ℕ) (trace results : List ℕ) → Kept moves trace (try_from t i moves left trace results)
unfolding moves_of
kept t =
    try_rule t (λ i moves left trace results o. Kept moves trace o)
    (record {
      spends = λ i moves left trace results h. record { made = omega arith; begun = refl };
      opens = λ i moves left trace results h g. record { made = omega arith; begun = refl };
      stops = λ i moves trace results h g. record { made = omega arith; begun = refl };
      goes =
          λ i moves left trace results o h g k.
          let m = k.made in
          record {
            made = omega arith;
            begun =
                sym (take-take moves (moves + 1) o.trace (omega arith)) ∙ ap (take moves) k.begun ∙ take-take moves (moves + 1) _ (omega arith)
                ∙ take-set-le moves trace moves _ (omega arith);
          };
    })

-- beside a trial: one from the same step with no fewer moves left and another trace, which has the same first bytes
abbrev Longer : Table → ℕ → ℕ → ℕ → List ℕ → List ℕ → TrialOutcome → Type 0
Longer t i moves left trace results o =
    (more : ℕ) (room : List ℕ) → left ≤ more → moves + left ≤ length trace → moves + more ≤ length room → take moves room ≡ take moves trace →
    LongerDemand o (try_from t i moves more room results)

longer_goes : (t : Table) (i moves left : ℕ) (trace results : List ℕ) (o : TrialOutcome) → no_result t i results ≡ false →
    holds t i (exit_of t i results) ≡ true →
    let j = target_of t i (exit_of t i results) in
    Longer t j (moves + 1) left (set trace moves j) (results_after t i results) o → Longer t i moves (suc left) trace results o
longer_goes t i moves left trace results o h g f zero room l a b q = absurd (omega arith)
longer_goes t i moves left trace results o h g f (suc more) room l a b q =
    let j = target_of t i (exit_of t i results) in
    let m = length-set trace moves j in
    let n = length-set room moves j in
    rw (try_move t i moves room results more h g)
    (f more (set room moves j) (omega arith) (omega arith) (omega arith)
    (rw add-one (take-suc-set room moves j (omega arith) ∙ ap (λ (bs : List ℕ). bs ++ (j ∷ [])) q ∙ sym (take-suc-set trace moves j (omega arith)))))

longer : (t : Table) (i moves left : ℕ) (trace results : List ℕ) → Longer t i moves left trace results (try_from t i moves left trace results)
unfolding moves_of ending_of ending_number
longer t =
    try_rule t (Longer t)
    (record {
      spends =
          λ i moves left trace results h more room l a b q.
          rw (try_spent t i moves room results more h) (record { moves = omega arith; begins = q; same = λ _. refl });
      opens =
          λ i moves left trace results h g more room l a b q.
          rw (try_open t i moves room results more h g) (record { moves = omega arith; begins = q; same = λ _. refl });
      stops =
          λ i moves trace results h g more room l a b q.
          let k = kept t i moves more room results in
          record { moves = k.made; begins = k.begun ∙ q; same = λ d. absurd (d refl) };
      goes = longer_goes t;
    })

pub trial_longer : (t : Table) (limit more : ℕ) (results trace room : List ℕ) → limit ≤ more → trial_refusal t limit results trace ≡ 0 →
    trial_refusal t more results room ≡ 0 → LongerDemand (trial_call t limit results trace) (trial_call t more results room)
trial_longer t limit more results trace room l z y =
    let a = (trial_fit t limit results trace z).1 in
    let b = (trial_fit t more results room y).1 in
    rw (trial_made t limit results trace z, trial_made t more results room y) (longer t 0 0 limit trace results more room l (omega arith) (omega arith) refl)
