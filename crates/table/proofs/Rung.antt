-- A step is listed exactly where some trial enters it. Assumes nothing.
--   goes_exit exit_goes   a step goes on by an exit, and the other way round
--   Paid t i k n r     a row of n moves from step i to step k that uses up r results
--   trial_paid         what a trial has entered after so many moves is such a row's end, with the results used up
--   led                a trial goes along such a row, with its results
--   entering_listed listed_fewest   what a trial enters is listed, and what is listed a trial enters, with the fewest results
--   rung_accepted rung_made rung_refused_as rung_refusal_given rung_unsound   the call
--   plan_rung          the plan says the same, call and all
use mathlib.Core.Path.{◌≡◌, refl, sym, ◌∙◌, ap, subst}
use mathlib.Core.Bool.{Bool, true, false, ◌&&◌, not}
use mathlib.Core.Logic.{⊎_elim}
use mathlib.Core.List.{List, [], ◌∷◌, ◌++◌}
use Prim.Native.Nat.{ℕ, zero, suc, ◌+◌, ◌*◌, ◌≤◌, ◌<◌}
use native.Mathlib.Omega.{arith}
use lib.ListN.{length, get_or, set, drop}
use lib.Dec.{eqb}
use borrow.Author.Tests.{eqb-true, eqb-false, eq-eqb, ne_eqb, lt-ltb, le-ltb, ltb-false, leb-false}
use Rattle.finite.specs.Below.{one, any, count, lowest, those}
use Rattle.finite.specs.Reach.{Chain, start, then, marked, reaches}
use Rattle.finite.proofs.Bools.{and_intro, and_left, and_right, or_elim, test, clash, not_true_false}
use Rattle.finite.proofs.Below.{all_intro, any_at, any_intro, eq_or_ne, count_le, count_more, lowest_passes}
use Rattle.finite.proofs.Reach.{within, chain_head, chain_first, reach_sound, reach_start, within_short, within_chain, reach_short, reach_complete}
use Rattle.finite.proofs.Select.{lowest_most}
use Rattle.table.specs.Table.{Table, places, exits, in_use, kind_of, target_of, holds, leads, linked}
use Rattle.table.specs.Sound.{Sound, kind_fits}
use Rattle.table.specs.Said.{Refused, Given}
use Rattle.table.specs.Answer.{not_sound, first, refusal_of, moves_of, last_of, steps_room}
use Rattle.table.specs.Trial.{TrialOutcome, answered, is_contact, exit_of, results_after, no_result, try_from, results_fit, trial_refusal, trial_call, step_after, used_up, spent_after, exit_after, TrialDemand}
use Rattle.table.specs.Rung.{goes_by, goes_on, is_entered, rung_by, rung_conditions, rung_refusal, rung_call, Entering, FewestResults}
use Rattle.table.specs.Plan.{plan_of, plan_trial_refusal, plan_rung_refusal, plan_rung_call}
use Rattle.table.proofs.Places.{own_exit}
use Rattle.table.proofs.Links.{sound_wired, used_below, exit_linked, linked_used, linked_below, holds_target}
use Rattle.table.proofs.Plan.{plan_contact_lem, plan_goes_on_lem}
use Rattle.table.proofs.Calls.{nonzero, first_passed, passed_next, table_fits, unsound_refused, past_sound, listing_made, listing_refused, listing_refusal, trial_made, trial_refused, trial_refusal_lem}
use Rattle.table.proofs.Trials.{results_at, try_spent, try_open, try_stopped, try_move, trial_fit, trial_demand}

-- what the call lists of a table
abbrev pub entered : Table → ℕ → Bool
entered t k = is_entered (goes_on t) t.capacity k

module _ (t : Table) where
  pub goes_exit : (i j : ℕ) → goes_on t i j ≡ true → (e : ℕ) × (e < exits) × (goes_by t i e ≡ true) × (holds t i e ≡ true) × (target_of t i e ≡ j)
  unfolding goes_on leads
  goes_exit i j h =
      let r = any_at exits _ h in
      let l = and_right (goes_by t i r.0) _ r.2 in
      (r.0, r.1, and_left (goes_by t i r.0) _ r.2, and_left (holds t i r.0) _ l, eqb-true _ _ (and_right (holds t i r.0) _ l))

  pub exit_goes : (i j e : ℕ) → e < exits → goes_by t i e ≡ true → holds t i e ≡ true → target_of t i e ≡ j → goes_on t i j ≡ true
  unfolding goes_on leads
  exit_goes i j e l b h q = any_intro exits _ e l (and_intro b (and_intro h (eq-eqb _ _ q)))

  pub goes_linked : (i j : ℕ) → goes_on t i j ≡ true → linked t i j ≡ true
  goes_linked i j h = let r = goes_exit i j h in exit_linked t i j r.0 (own_exit i r.0 r.1) r.3 r.4

  -- a step that is no contact goes on by answered alone
  pub by_answer : (i e : ℕ) → is_contact t i ≡ false → goes_by t i e ≡ true → e ≡ answered
  unfolding goes_by
  by_answer i e y g = ⊎_elim (λ z. clash z y) (λ z. eqb-true e answered z) (or_elim (is_contact t i) _ g)

-- A row of n moves that uses up r results: one at each contact.
data Paid (t : Table) : ℕ → ℕ → ℕ → ℕ → Type 0 where
  here : {i : ℕ} → Paid t i i zero zero
  free : {i j k n r : ℕ} → is_contact t i ≡ false → goes_on t i j ≡ true → Paid t j k n r → Paid t i k (suc n) r
  paid : {i j k n r : ℕ} → is_contact t i ≡ true → goes_on t i j ≡ true → Paid t j k n r → Paid t i k (suc n) (suc r)

module _ {t : Table} where
  then_free : {i b c n r : ℕ} → Paid t i b n r → is_contact t b ≡ false → goes_on t b c ≡ true → Paid t i c (suc n) r
  then_free here y g = free y g here
  then_free (free x h p) y g = free x h (then_free p y g)
  then_free (paid x h p) y g = paid x h (then_free p y g)

  then_paid : {i b c n r : ℕ} → Paid t i b n r → is_contact t b ≡ true → goes_on t b c ≡ true → Paid t i c (suc n) (suc r)
  then_paid here y g = paid y g here
  then_paid (free x h p) y g = free x h (then_paid p y g)
  then_paid (paid x h p) y g = paid x h (then_paid p y g)

  -- every row of steps that go on has its results
  chain_paid : {i k n : ℕ} → Chain (goes_on t) i k n → (r : ℕ) × (r ≤ n) × Paid t i k n r
  chain_paid start = (0, omega arith, here)
  chain_paid (then {b = b} q l) =
      let p = chain_paid q in
      ⊎_elim (λ (y : is_contact t b ≡ true). (suc p.0, omega (arith, p.1), then_paid p.2 y l))
      (λ (y : is_contact t b ≡ false). (p.0, omega (arith, p.1), then_free p.2 y l))
      (test (is_contact t b))

  paid_chain : {i k n r : ℕ} → Paid t i k n r → Chain (goes_on t) i k n
  paid_chain here = start
  paid_chain (free y g p) = chain_first g (paid_chain p)
  paid_chain (paid y g p) = chain_first g (paid_chain p)

-- A trial makes such a row: after k moves it has used up no more results than it was given.
module _ {t : Table} {limit : ℕ} {results trace : List ℕ} (fit : results_fit results ≡ true) {o : TrialOutcome} (d : TrialDemand t limit results trace o) where
  -- the exit that is taken after k moves
  taken : (k : ℕ) → k < moves_of o.answer → (exit_after t results o.trace k < exits) × (goes_by t (step_after o.trace k) (exit_after t results o.trace k) ≡ true)
  unfolding goes_by exit_after spent_after
  taken k l =
      let i = step_after o.trace k in
      let used = used_up t o.trace k in
      ⊎_elim
      (λ (c : is_contact t i ≡ true).
      let left : used < length results = leb-false (length results) used (sym (rw c) ∙ (d.moved k l).unspent) in
      rw c (results_at results fit used left, refl))
      (λ (c : is_contact t i ≡ false). rw c (omega arith, refl))
      (test (is_contact t i))

  trial_paid : (k : ℕ) → k ≤ moves_of o.answer → (used_up t o.trace k ≤ length results) × Paid t 0 (step_after o.trace k) k (used_up t o.trace k)
  unfolding used_up count spent_after
  trial_paid zero l = (omega arith, unfold step_after in here)
  trial_paid (suc k) l =
      let m = d.moved k l in
      let x = taken k l in
      let i = step_after o.trace k in
      let p = trial_paid k (omega arith) in
      let g = exit_goes t i _ (exit_after t results o.trace k) x.0 x.1 m.filled (sym m.entered) in
      let used = count k (λ j. is_contact t (step_after o.trace j)) in
      ⊎_elim
      (λ (y : is_contact t i ≡ true).
      let left : used < length results = leb-false (length results) used (unspent_left y m.unspent) in
      let z : suc used ≡ used + one (is_contact t i) = rw y (omega arith) in
      (omega arith, subst (λ (r : ℕ). Paid t 0 (step_after o.trace (suc k)) (suc k) r) z (then_paid p.1 y g)))
      (λ (y : is_contact t i ≡ false).
      let z : used ≡ used + one (is_contact t i) = rw y (omega arith) in
      (omega (arith, p.0), subst (λ (r : ℕ). Paid t 0 (step_after o.trace (suc k)) (suc k) r) z (then_free p.1 y g)))
      (test (is_contact t i))
    where
      unspent_left : {b c : Bool} → b ≡ true → (b && c) ≡ false → c ≡ false
      unspent_left y h = rw y at h

  entered_not_alarm : (k : ℕ) → k < moves_of o.answer → step_after o.trace (suc k) ≡ 0 → ⊥
  entered_not_alarm k l z = let m = d.moved k l in holds_target t _ _ m.filled (sym m.entered ∙ z)

-- The trial that goes along such a row: its results, one for each contact on the way, whatever the trace held.
record Led (t : Table) (i k n r : ℕ) : Type 0 where
  results : List ℕ
  fit : (m : ℕ) → m < length results → get_or results m 0 < exits
  each : length results ≡ r
  leads_on : (moves : ℕ) (trace : List ℕ) → let o = try_from t i moves n trace results in (moves_of o.answer ≡ moves + n) × (last_of o.answer ≡ k)

module _ (t : Table) where
  -- no move is left
  stays : (i moves : ℕ) (trace results : List ℕ) → let o = try_from t i moves 0 trace results in (moves_of o.answer ≡ moves + 0) × (last_of o.answer ≡ i)
  unfolding moves_of last_of
  stays i moves trace results =
      ⊎_elim
      (λ (h : no_result t i results ≡ true). rw (try_spent t i moves trace results 0 h) (omega arith, refl))
      (λ (h : no_result t i results ≡ false).
      ⊎_elim
      (λ (g : holds t i (exit_of t i results) ≡ true). rw (try_stopped t i moves trace results h g) (omega arith, refl))
      (λ (g : holds t i (exit_of t i results) ≡ false). rw (try_open t i moves trace results 0 h g) (omega arith, refl))
      (test (holds t i (exit_of t i results))))
      (test (no_result t i results))

  fits : (e : ℕ) (results : List ℕ) → e < exits → ((m : ℕ) → m < length results → get_or results m 0 < exits) → (m : ℕ) → m < length (e ∷ results) →
      get_or (e ∷ results) m 0 < exits
  fits e results l f zero b = l
  fits e results l f (suc m) b = f m (omega arith)

  led : {i k n r : ℕ} → Paid t i k n r → Led t i k n r
  unfolding no_result exit_of results_after
  led {i} here = record { results = []; fit = λ m l. absurd (omega arith); each = refl; leads_on = λ moves trace. stays i moves trace [] }
  -- a contact goes on by the result put before those of the rest
  led {i} {k} (paid {j = j} {n = n} y g p) =
      let x = goes_exit t i j g in
      let e = x.0 in
      let r = led p in
      record {
        results = e ∷ r.results;
        fit = fits e r.results x.1 r.fit;
        each = ap suc r.each;
        leads_on =
            λ moves trace.
            let z = r.leads_on (moves + 1) (set trace moves j) in
            let on : try_from t i moves (suc n) trace (e ∷ r.results) ≡ try_from t j (moves + 1) n (set trace moves j) r.results =
            try_move t i moves trace (e ∷ r.results) n (rw y (ne_eqb (length (e ∷ r.results)) 0 (λ q. omega arith))) (rw y x.3) ∙ rw (y, x.4) in
            rw on (omega (arith, z.0), z.1);
      }
  -- any other step goes on by the answered exit
  led {i} {k} (free {j = j} {n = n} y g p) =
      let x = goes_exit t i j g in
      let q = by_answer t i x.0 y x.2 in
      let held : holds t i answered ≡ true = rw q at x.3 in
      let to : target_of t i answered ≡ j = rw q at x.4 in
      let r = led p in
      record {
        results = r.results;
        fit = r.fit;
        each = r.each;
        leads_on =
            λ moves trace.
            let z = r.leads_on (moves + 1) (set trace moves j) in
            let on : try_from t i moves (suc n) trace r.results ≡ try_from t j (moves + 1) n (set trace moves j) r.results =
            try_move t i moves trace r.results n (rw y) (rw y held) ∙ rw (y, to) in
            rw on (omega (arith, z.0), z.1);
      }

-- The fewest results, by rounds: a row split at its contacts.
--   freely t i j   step i is no contact and goes on to j
--   dialed t i j   some contact that steps lead to freely from i goes on to j
unfoldable freely : Table → ℕ → ℕ → Bool
freely t i j = not (is_contact t i) && goes_on t i j

unfoldable dialed : Table → ℕ → ℕ → Bool
dialed t i j = any t.capacity (λ c. reaches (freely t) t.capacity i c && (is_contact t c && goes_on t c j))

unfoldable with_results : Table → ℕ → ℕ → Bool
with_results t k r = any t.capacity (λ j. marked (within (dialed t) t.capacity 0 r) j && reaches (freely t) t.capacity j k)

unfoldable fewest : Table → ℕ → ℕ
fewest t k = lowest (t.capacity + 1) (with_results t k)

module _ {t : Table} where
  then_freely : {i j k n r m : ℕ} → Paid t i j n r → Chain (freely t) j k m → (l : ℕ) × (l ≡ n + m) × Paid t i k l r
  unfolding freely
  then_freely {n = n} p start = (n, omega arith, p)
  then_freely p (then {b = b} q l) =
      let x = then_freely p q in
      (suc x.0, omega (arith, x.1), then_free x.2 (not_true_false _ (and_left (not (is_contact t b)) _ l)) (and_right (not (is_contact t b)) _ l))

  -- with at most 128 free moves before each contact
  dialed_paid : t.capacity ≤ places → {i j r : ℕ} → Chain (dialed t) i j r → (n : ℕ) × (n ≤ r * 129) × Paid t i j n r
  unfolding dialed
  dialed_paid most start = (0, omega arith, here)
  dialed_paid most (then {b = b} {c = c} q l) =
      let p = dialed_paid most q in
      let x = any_at t.capacity _ l in
      let e = x.0 in
      let f = reach_short (freely t) t.capacity b e (and_left (reaches (freely t) t.capacity b e) _ x.2) in
      let g = and_right (reaches (freely t) t.capacity b e) _ x.2 in
      let y = then_freely p.2 f.2 in
      (suc y.0, omega (arith, y.1, p.1, f.1), then_paid y.2 (and_left (is_contact t e) _ g) (and_right (is_contact t e) _ g))

module _ {t : Table} (s : Sound t) where
  pub goes_below : (i j : ℕ) → goes_on t i j ≡ true → j < t.capacity
  goes_below i j h = linked_below (sound_wired s) i j (goes_linked t i j h)

  goes_low : (i j : ℕ) → goes_on t i j ≡ true → i < t.capacity
  goes_low i j h = let w = sound_wired s in used_below w i (linked_used w i j (goes_linked t i j h)).0

  freely_low : (i j : ℕ) → freely t i j ≡ true → j < t.capacity
  unfolding freely
  freely_low i j h = goes_below i j (and_right (not (is_contact t i)) _ h)

  dialed_low : (i j : ℕ) → dialed t i j ≡ true → j < t.capacity
  unfolding dialed
  dialed_low i j h =
      let x = any_at t.capacity _ h in
      let g = and_right (reaches (freely t) t.capacity i x.0) _ x.2 in
      goes_below x.0 j (and_right (is_contact t x.0) _ g)

  -- a link dialed from j is dialed from i, which goes on to j freely
  dialed_first : (i j k : ℕ) → is_contact t i ≡ false → goes_on t i j ≡ true → dialed t j k ≡ true → dialed t i k ≡ true
  unfolding dialed
  dialed_first i j k y g h =
      let x = any_at t.capacity _ h in
      let c = x.0 in
      let f = reach_sound (freely t) t.capacity j c (and_left (reaches (freely t) t.capacity j c) _ x.2) in
      let l : freely t i j ≡ true = unfold freely in and_intro (ap not y) g in
      any_intro t.capacity _ c x.1
      (and_intro (reach_complete (freely t) t.capacity freely_low (goes_low i j g) (chain_first l f.1)) (and_right (reaches (freely t) t.capacity j c) _ x.2))

  dialed_here : (i j : ℕ) → is_contact t i ≡ true → goes_on t i j ≡ true → dialed t i j ≡ true
  unfolding dialed
  dialed_here i j y g =
      let l = goes_low i j g in
      any_intro t.capacity _ i l (and_intro (reach_start (freely t) t.capacity i l) (and_intro y g))

  -- a row split at its contacts
  abbrev Split : ℕ → ℕ → ℕ → Type 0
  Split i k r = (j : ℕ) × Chain (dialed t) i j r × ((m : ℕ) × Chain (freely t) j k m)

  split_free : (i j k r : ℕ) → is_contact t i ≡ false → goes_on t i j ≡ true → (b : ℕ) → Chain (dialed t) j b r → ((m : ℕ) × Chain (freely t) b k m) → Split i k r
  unfolding freely
  split_free i j k zero y g b start f = (i, start, (suc f.0, chain_first (and_intro (ap not y) g) f.1))
  split_free i j k (suc r) y g b c f =
      let x = chain_head c in
      (b, chain_first (dialed_first i j x.0 y g x.1) x.2, f)

  split : {i k n r : ℕ} → Paid t i k n r → Split i k r
  split {i} here = (i, start, (0, start))
  split {i} (paid {j = j} y g p) = let x = split p in (x.0, chain_first (dialed_here i j y g) x.1, x.2)
  split {i} {k} {r = r} (free {j = j} y g p) = let x = split p in split_free i j k r y g x.0 x.1 x.2

  split_with : (k r : ℕ) → Split 0 k r → with_results t k r ≡ true
  unfolding with_results
  split_with k r x =
      let j = x.0 in
      let m = within_chain (dialed t) t.capacity dialed_low r s.formed.least (omega arith) x.1 in
      let low = low_end x.1 in
      any_intro t.capacity _ j low (and_intro m (reach_complete (freely t) t.capacity freely_low low x.2.1))
    where
      low_end : {j r : ℕ} → Chain (dialed t) 0 j r → j < t.capacity
      low_end start = s.formed.least
      low_end (then {b = b} {c = c} q l) = dialed_low b c l

  -- no row has fewer, and some row has just so many
  fewest_most : {n k r : ℕ} → Paid t 0 k n r → fewest t k ≤ r
  unfolding fewest
  fewest_most {k = k} {r = r} p = lowest_most (t.capacity + 1) (with_results t k) r (split_with k r (split p))

  with_paid : (k r : ℕ) → with_results t k r ≡ true → (c : ℕ) × (c ≤ r) × ((n : ℕ) × (n ≤ c * 129 + 128) × Paid t 0 k n c)
  unfolding with_results
  with_paid k r h =
      let x = any_at t.capacity _ h in
      let c = within_short (dialed t) t.capacity 0 x.0 r (and_left (marked (within (dialed t) t.capacity 0 r) x.0) _ x.2) in
      let g = reach_short (freely t) t.capacity x.0 k (and_right (marked (within (dialed t) t.capacity 0 r) x.0) _ x.2) in
      let p = dialed_paid s.formed.most c.2 in
      let y = then_freely p.2 g.2 in
      let most = s.formed.most in
      (c.0, c.1, (y.0, omega (arith, y.1, p.1, g.1), y.2))

  fewest_with : (k : ℕ) → fewest t k ≤ t.capacity → with_results t k (fewest t k) ≡ true
  unfolding fewest
  fewest_with k l = lowest_passes (t.capacity + 1) (with_results t k) (omega arith)

  fewest_paid : (k : ℕ) → fewest t k ≤ t.capacity → (n : ℕ) × (n ≤ fewest t k * 129 + 128) × Paid t 0 k n (fewest t k)
  fewest_paid k l =
      let y = with_paid k (fewest t k) (fewest_with k l) in
      let least = fewest_most y.2.2 in
      let same : y.0 ≡ fewest t k = omega (arith, y.1) in
      (y.2.0, omega (arith, y.2.1), subst (λ (r : ℕ). Paid t 0 k y.2.0 r) same y.2.2)

-- A sound table: a step is listed exactly where some trial enters it.
module _ {t : Table} (s : Sound t) where
  pub entered_other : (k : ℕ) → entered t k ≡ true → k ≡ 0 → ⊥
  unfolding is_entered
  entered_other k h = eqb-false k 0 (not_true_false _ (and_left (not (eqb k 0)) _ h))

  pub entered_reached : (k : ℕ) → entered t k ≡ true → reaches (goes_on t) t.capacity 0 k ≡ true
  unfolding is_entered reaches
  entered_reached k h = and_right (not (eqb k 0)) _ h

  pub reached_entered : (k : ℕ) → (k ≡ 0 → ⊥) → reaches (goes_on t) t.capacity 0 k ≡ true → entered t k ≡ true
  unfolding is_entered reaches
  reached_entered k d h = and_intro (ap not (ne_eqb k 0 d)) h

  pub entered_used : (k : ℕ) → entered t k ≡ true → in_use t k ≡ true
  entered_used k h = end (entered_other k h) (reach_sound (goes_on t) t.capacity 0 k (entered_reached k h)).1
    where
      end : {j n : ℕ} → (j ≡ 0 → ⊥) → Chain (goes_on t) 0 j n → in_use t j ≡ true
      end d start = absurd (d refl)
      end {j} d (then {b = b} q l) = (linked_used (sound_wired s) b j (goes_linked t b j l)).1

  -- a trial that makes a move is not refused
  made_accepted : (limit : ℕ) (results trace : List ℕ) (m : ℕ) → m < moves_of (trial_call t limit results trace).answer → trial_refusal t limit results trace ≡ 0
  unfolding moves_of
  made_accepted limit results trace m l =
      ⊎_elim (λ z. z)
      (λ (d : trial_refusal t limit results trace ≡ 0 → ⊥). let l' : m < 0 = rw (trial_refused t limit results trace d) at l in absurd (omega arith))
      (eq_or_ne (trial_refusal t limit results trace) 0)

  -- what a trial enters, by the row that it made
  entering_paid : {limit : ℕ} {results trace : List ℕ} {k : ℕ} → Entering t limit results trace k →
      (k ≡ 0 → ⊥) × ((n : ℕ) × (r : ℕ) × (r ≤ length results) × Paid t 0 k n r)
  entering_paid {limit} {results} {trace} {k} x =
      let z = made_accepted limit results trace x.move x.made in
      let d = trial_demand t limit results trace z in
      let fit = (trial_fit t limit results trace z).0 in
      let o = trial_call t limit results trace in
      let end : step_after o.trace (suc x.move) ≡ k = (unfold step_after in x.byte) in
      let p = trial_paid fit d (suc x.move) x.made in
      let used = used_up t o.trace (suc x.move) in (
        (λ q. entered_not_alarm fit d x.move x.made (end ∙ q)),
        (suc x.move, used, p.0, subst (λ (j : ℕ). Paid t 0 j (suc x.move) used) end p.1),
      )

  pub entering_listed : {limit : ℕ} {results trace : List ℕ} {k : ℕ} → Entering t limit results trace k → entered t k ≡ true
  entering_listed {k = k} x =
      let p = entering_paid x in
      reached_entered k p.0 (reach_complete (goes_on t) t.capacity (goes_below s) s.formed.least (paid_chain p.1.3))

  -- a trial with such results and room is accepted
  fit_accepted : (limit : ℕ) (results trace : List ℕ) → ((m : ℕ) → m < length results → get_or results m 0 < exits) → limit ≤ length trace →
      trial_refusal t limit results trace ≡ 0
  unfolding plan_trial_refusal first results_fit
  fit_accepted limit results trace f l =
      let fit : results_fit results ≡ true = all_intro (length results) _ (λ m b. lt-ltb (get_or results m 0) exits (f m b)) in
      trial_refusal_lem s limit results trace ∙ rw (fit, le-ltb (length trace) limit l)

  led_enters : (k n r : ℕ) → (k ≡ 0 → ⊥) → (x : Led t 0 k n r) (trace : List ℕ) → n ≤ length trace → Entering t n x.results trace k
  unfolding step_after
  led_enters k zero r d x trace l = absurd (d (sym (x.leads_on 0 []).1 ∙ (stays t 0 0 [] x.results).1))
  led_enters k (suc n) r d x trace l =
      let z = fit_accepted (suc n) x.results trace x.fit l in
      let o = trial_call t (suc n) x.results trace in
      let y : (moves_of o.answer ≡ 0 + suc n) × (last_of o.answer ≡ k) = rw (trial_made t (suc n) x.results trace z) (x.leads_on 0 trace) in
      let moves : moves_of o.answer ≡ suc n = omega (arith, y.0) in
      let end : step_after o.trace (suc n) ≡ k =
      ap (step_after o.trace) (sym moves) ∙ sym (trial_demand t (suc n) x.results trace z).last ∙ y.1 in
      record { move = n; made = omega arith; byte = end }

  -- step 0 is no contact, so that a row from it has a move that uses up no result
  alarm_free : is_contact t 0 ≡ false
  unfolding is_contact kind_fits
  alarm_free =
      let z = eqb-true (kind_of t 0) 0 (and_left (eqb (kind_of t 0) 0) _ (s.formed.kinds 0 s.formed.alarm)) in
      ne_eqb (kind_of t 0) 1 (λ q. omega arith)

  row_results : (n k r : ℕ) → (k ≡ 0 → ⊥) → Chain (goes_on t) 0 k n → (r : ℕ) × (r < n) × Paid t 0 k n r
  row_results zero k r d start = absurd (d refl)
  row_results (suc n) k r d c =
      let h = chain_head c in
      let p = chain_paid h.2 in
      (p.0, omega (arith, p.1), free alarm_free h.1 p.2)

  pub listed_fewest : (k : ℕ) → entered t k ≡ true → FewestResults t k
  listed_fewest k h =
      let d = entered_other k h in
      let c = reach_short (goes_on t) t.capacity 0 k (entered_reached k h) in
      let p = row_results c.0 k 0 d c.2 in
      let most = fewest_most s p.2 in
      let y = fewest_paid s k (omega (arith, c.1, p.1)) in
      let x = led t y.2 in
      let size = s.formed.most in
      let same = x.each in
      record {
        limit = y.0;
        results = x.results;
        most = omega (arith, y.1, c.1, p.1);
        enters = led_enters k y.0 (fewest t k) d x;
        fewest = λ other more trace z. let q = (entering_paid z).1 in let f = fewest_most s q.3 in omega (arith, q.2);
        few = omega (arith, c.1, p.1);
      }

-- The call: refused, or made with room for the list.
module _ (t : Table) (buffer : List ℕ) where
  abbrev pub numbers : List ℕ
  numbers = those t.capacity (entered t)

  abbrev pub contacts : ℕ
  contacts = count (length numbers) (λ m. is_contact t (get_or numbers m 0))

  pub rung_made : rung_refusal t (length buffer) ≡ 0 →
      rung_call t buffer ≡ record { answer = Given (length numbers) contacts; buffer = numbers ++ drop (length numbers) buffer }
  unfolding rung_call rung_by
  rung_made z = listing_made _ _ _ buffer z

  pub rung_refused_as : (rung_refusal t (length buffer) ≡ 0 → ⊥) → rung_call t buffer ≡ record { answer = Refused (rung_refusal t (length buffer)); buffer = buffer }
  unfolding rung_call rung_by
  rung_refused_as d = listing_refused _ _ _ buffer d

  pub rung_refusal_given : refusal_of (rung_call t buffer).answer ≡ rung_refusal t (length buffer)
  unfolding rung_call rung_by refusal_of
  rung_refusal_given = listing_refusal _ _ _ buffer refl

  pub rung_accepted : rung_refusal t (length buffer) ≡ 0 → Sound t × (steps_room ≤ length buffer)
  unfolding rung_refusal nonzero
  rung_accepted z =
      let x = table_fits t _ (first_passed (rung_conditions t (length buffer)) z refl) in
      (x.0, ltb-false (length buffer) steps_room (passed_next x.1).0)

  pub rung_unsound : (Sound t → ⊥) → rung_refusal t (length buffer) ≡ not_sound
  unfolding rung_refusal
  rung_unsound d = unsound_refused t _ d

-- step 0 is not listed, so that at most 127 are
pub rung_fits : (t : Table) → Sound t → count t.capacity (entered t) ≤ steps_room
rung_fits t s =
    let alarm : entered t 0 ≡ false = unfold is_entered in refl in
    let c = count_more t.capacity (entered t) (λ k. true) (λ k b h. refl) 0 s.formed.least alarm refl in
    let m = count_le t.capacity (λ k. true) in
    let most = s.formed.most in
    omega arith

-- The plan says the same, call and all.
module _ {t : Table} (s : Sound t) (buffer : List ℕ) where
  pub rung_refusal_lem : rung_refusal t (length buffer) ≡ plan_rung_refusal (length buffer)
  unfolding rung_refusal plan_rung_refusal
  rung_refusal_lem = past_sound s _

  pub plan_rung : plan_rung_call (plan_of t) buffer ≡ rung_call t buffer
  unfolding plan_rung_call rung_call plan_of
  plan_rung =
      let goes = plan_goes_on_lem (sound_wired s) in
      let contact = plan_contact_lem (sound_wired s) in
      let refusal = sym rung_refusal_lem in
      λ d. rung_by (refusal d) t.capacity (goes d) (contact d) buffer
