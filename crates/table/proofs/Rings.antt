-- Trials of two tables that ring alike, where the steps of one may have new numbers in the other. Assumes nothing.
--   Rings t u new     what trials ask of both
--   trials_under      they end alike under the new numbers, trace included
--   trials_by_plan    and with the same numbers where the plan is one
use mathlib.Core.Path.{◌≡◌, refl, sym, ◌∙◌, ap}
use mathlib.Core.Bool.{true, false, not}
use mathlib.Core.Logic.{⊎_elim}
use mathlib.Core.List.{List, [], ◌∷◌, ◌++◌, map, map-append, map-id}
use Prim.Native.Nat.{ℕ, suc, ◌+◌, ◌≤◌, ◌<◌}
use native.Mathlib.Omega.{arith}
use native.Mathlib.Numerals.{add-one}
use lib.ListN.{length, get_or, set, take, drop, length-map, length-drop, length-set, take-append-drop}
use lib.Dec.{eqb}
use lib.Seq.{length-take-le, drop-cons, set_at, append_snoc, take-suc-set, drop-set-lt, get_or-drop}
use borrow.Author.Tests.{eqb-false}
use Rattle.finite.proofs.Bools.{test}
use Rattle.finite.proofs.Below.{eq_or_ne}
use Rattle.table.specs.Said.{Tried, TrialRefused, Ended}
use Rattle.table.specs.Table.{Table, exits, exits_of, in_use, kind_of, target_of, holds}
use Rattle.table.specs.Sound.{Sound}
use Rattle.table.specs.Answer.{moves_of}
use Rattle.table.specs.Trial.{TrialOutcome, is_contact, exit_of, results_after, no_result, try_from, trial_refusal, trial_call, tried_under, under_numbers}
use Rattle.table.specs.Plan.{Plan, plan_of, step_of, step_kind, plan_in_use, plan_target}
use Rattle.table.proofs.Places.{own_exit}
use Rattle.table.proofs.Links.{sound_wired}
use Rattle.table.proofs.Plan.{plan_used, plan_kind, plan_target_lem}
use Rattle.table.proofs.Calls.{trial_refusal_lem, trial_refused, trial_made}
use Rattle.table.proofs.Trials.{results_at, try_spent, try_open, try_stopped, try_move, try_rule, trial_fit}

pub record Rings (t u : Table) (new : ℕ → ℕ) : Type 0 where
  pub alarm : new 0 ≡ 0
  pub kind : (i : ℕ) → in_use t i ≡ true → kind_of u (new i) ≡ kind_of t i
  pub target : (i e : ℕ) → in_use t i ≡ true → e < exits_of i → target_of u (new i) e ≡ new (target_of t i e)
  pub filled : (i e : ℕ) → in_use t i ≡ true → e < exits_of i → holds u (new i) e ≡ holds t i e

module _ {t u : Table} (s : Sound t) (v : Sound u) {new : ℕ → ℕ} (a : Rings t u new) where
  -- a step in use is a contact under its new number too, and its exit leads on there or does not
  contact_under : (i : ℕ) → in_use t i ≡ true → is_contact u (new i) ≡ is_contact t i
  unfolding is_contact
  contact_under i x = rw (a.kind i x)

  module _ (i : ℕ) (results : List ℕ) (x : in_use t i ≡ true) where
    none_under : no_result u (new i) results ≡ no_result t i results
    unfolding no_result
    none_under = rw (contact_under i x)

    exit_under : exit_of u (new i) results ≡ exit_of t i results
    unfolding exit_of
    exit_under = rw (contact_under i x)

    after_under : results_after u (new i) results ≡ results_after t i results
    unfolding results_after
    after_under = rw (contact_under i x)

    holds_under : exit_of t i results < exits → holds u (new i) (exit_of u (new i) results) ≡ holds t i (exit_of t i results)
    holds_under l = rw exit_under (a.filled i (exit_of t i results) x (own_exit i _ l))

  Fit : List ℕ → Type 0
  Fit results = (k : ℕ) → k < length results → get_or results k 0 < exits

  -- the exit taken is one, and the results left are numbers of exits
  exit_below : (i : ℕ) (results : List ℕ) → Fit results → no_result t i results ≡ false → exit_of t i results < exits
  unfolding Fit exit_of no_result
  exit_below i results f h =
      ⊎_elim
      (λ (c : is_contact t i ≡ true). rw c (f 0 (let n = eqb-false (length results) 0 (rw c at h) in omega arith)))
      (λ (c : is_contact t i ≡ false). rw c (omega arith))
      (test (is_contact t i))

  after_fit : (i : ℕ) (results : List ℕ) → Fit results → Fit (results_after t i results)
  unfolding Fit results_after
  after_fit i results f =
      ⊎_elim
      (λ (c : is_contact t i ≡ true).
      rw c (λ k l. let n = length-drop 1 results in rw (get_or-drop 1 results k 0) (f (1 + k) (omega arith))))
      (λ (c : is_contact t i ≡ false). rw c f)
      (test (is_contact t i))

  -- the first bytes of a trace under the new numbers
  abbrev renumbered : ℕ → List ℕ → List ℕ
  renumbered moves trace = map new (take moves trace) ++ drop moves trace

  renumbered_set : (moves j : ℕ) (trace : List ℕ) → moves < length trace →
      set (renumbered moves trace) moves (new j) ≡ renumbered (moves + 1) (set trace moves j)
  renumbered_set moves j trace l =
      let front = map new (take moves trace) in
      let size : length front ≡ moves = length-map (take moves trace) new ∙ length-take-le moves trace (omega arith) in
      let begun : take (moves + 1) (set trace moves j) ≡ take moves trace ++ (j ∷ []) = rw add-one (take-suc-set trace moves j l) in
      let rest : drop (moves + 1) (set trace moves j) ≡ drop (suc moves) trace = drop-set-lt (moves + 1) trace moves j (omega arith) ∙ rw add-one in
      rw (begun, rest, map-append new (take moves trace) (j ∷ []), drop-cons trace moves 0 l)
      (set_at front (get_or trace moves 0) (drop (suc moves) trace) (new j) moves size ∙ sym (append_snoc front (new j) (drop (suc moves) trace)))

  -- the trial of u from the same step, with the trace under the new numbers
  abbrev Under : ℕ → ℕ → ℕ → List ℕ → List ℕ → TrialOutcome → Type 0
  Under i moves left trace results o =
      in_use t i ≡ true → Fit results → moves + left ≤ length trace →
      try_from u (new i) moves left (renumbered moves trace) results ≡ under_numbers new o

  under_goes : (i moves left : ℕ) (trace results : List ℕ) (o : TrialOutcome) → no_result t i results ≡ false → holds t i (exit_of t i results) ≡ true →
      let j = target_of t i (exit_of t i results) in
      Under j (moves + 1) left (set trace moves j) (results_after t i results) o → Under i moves (suc left) trace results o
  under_goes i moves left trace results o h g f x fit l =
      let e = exit_below i results fit h in
      let j = target_of t i (exit_of t i results) in
      let n = length-set trace moves j in
      let target : target_of u (new i) (exit_of u (new i) results) ≡ new j = rw (exit_under i results x) (a.target i _ x (own_exit i _ e)) in
      try_move u (new i) moves (renumbered moves trace) results left (none_under i results x ∙ h) (holds_under i results x e ∙ g)
      ∙ rw (target, after_under i results x, renumbered_set moves j trace (omega arith)) (f (s.formed.targets i _ x (own_exit i _ e) g) (after_fit i results fit) (omega arith))

  trial_under : (i moves left : ℕ) (trace results : List ℕ) → Under i moves left trace results (try_from t i moves left trace results)
  unfolding under_numbers tried_under moves_of
  trial_under =
      try_rule t Under
      (record {
        spends = λ i moves left trace results h x fit l. try_spent u (new i) moves (renumbered moves trace) results left (none_under i results x ∙ h);
        opens =
            λ i moves left trace results h g x fit l.
            try_open u (new i) moves (renumbered moves trace) results left (none_under i results x ∙ h)
            (holds_under i results x (exit_below i results fit h) ∙ g);
        stops =
            λ i moves trace results h g x fit l.
            try_stopped u (new i) moves (renumbered moves trace) results (none_under i results x ∙ h)
            (holds_under i results x (exit_below i results fit h) ∙ g);
        goes = under_goes;
      })

  trial_refusal_same : (limit : ℕ) (results trace : List ℕ) → trial_refusal u limit results trace ≡ trial_refusal t limit results trace
  trial_refusal_same limit results trace = trial_refusal_lem v limit results trace ∙ sym (trial_refusal_lem s limit results trace)

  trial_made_under : (limit : ℕ) (results trace : List ℕ) → trial_refusal t limit results trace ≡ 0 →
      trial_call u limit results trace ≡ under_numbers new (trial_call t limit results trace)
  unfolding Fit
  trial_made_under limit results trace z =
      let fit = trial_fit t limit results trace z in
      rw (trial_made t limit results trace z, trial_made u limit results trace (trial_refusal_same limit results trace ∙ z))
      (rw a.alarm at (trial_under 0 0 limit trace results s.formed.alarm (results_at results fit.0) (let long = fit.1 in omega arith)))

  pub trials_under : (limit : ℕ) (results trace : List ℕ) → trial_call u limit results trace ≡ under_numbers new (trial_call t limit results trace)
  unfolding under_numbers tried_under moves_of
  trials_under limit results trace =
      let same = trial_refusal_same limit results trace in
      ⊎_elim (trial_made_under limit results trace)
      (λ (d : trial_refusal t limit results trace ≡ 0 → ⊥).
      rw (trial_refused t limit results trace d, trial_refused u limit results trace (λ y. d (sym same ∙ y)), same))
      (eq_or_ne (trial_refusal t limit results trace) 0)

-- under the numbers that they have, outcomes are what they are
under_same : (o : TrialOutcome) → under_numbers (λ i. i) o ≡ o
unfolding under_numbers
under_same o =
    λ k.
    record {
      answer = tried_same o.answer k;
      trace = (ap (λ (l : List ℕ). l ++ drop (moves_of o.answer) o.trace) (map-id (take (moves_of o.answer) o.trace)) ∙ take-append-drop (moves_of o.answer) o.trace) k;
    }
  where
    tried_same : (x : Tried) → tried_under (λ i. i) x ≡ x
    tried_same (TrialRefused n) = unfold tried_under in refl
    tried_same (Ended e last moves) = unfold tried_under in refl

-- the plan has all that a trial looks at
pub trials_by_plan : (t u : Table) → Sound t → Sound u → plan_of t ≡ plan_of u → (limit : ℕ) (results trace : List ℕ) →
    trial_call t limit results trace ≡ trial_call u limit results trace
trials_by_plan t u s v p limit results trace =
    sym (trials_under s v rings limit results trace ∙ under_same (trial_call t limit results trace))
  where
    used : (i : ℕ) → in_use u i ≡ in_use t i
    used i = sym (plan_used (sound_wired v) i) ∙ ap (λ (q : Plan). plan_in_use q i) (sym p) ∙ plan_used (sound_wired s) i

    target : (i e : ℕ) → e < exits_of i → target_of u i e ≡ target_of t i e
    target i e l = sym (plan_target_lem (sound_wired v) i e l) ∙ ap (λ (q : Plan). plan_target q i e) (sym p) ∙ plan_target_lem (sound_wired s) i e l

    rings : Rings t u (λ i. i)
    rings =
        record {
          alarm = refl;
          kind = λ i x. sym (plan_kind (sound_wired v) i) ∙ ap (λ (q : Plan). step_kind (step_of q i)) (sym p) ∙ plan_kind (sound_wired s) i;
          target = λ i e x l. target i e l;
          filled = λ i e x l. unfold holds in ap (λ (j : ℕ). not (eqb j 0)) (target i e l);
        }
