-- What a squeezed table does as the old one did (document 02, W2). Assumes nothing.
--   squeeze_twice     squeezing twice is squeezing once
--   squeeze_trial     trials end alike under the new numbers, trace included
--   squeeze_rung      the same steps can be entered under the new numbers
use mathlib.Core.Path.{◌≡◌, refl, sym, ◌∙◌, ap, ap₂}
use mathlib.Core.Bool.{Bool, true, false, ◌&&◌, ◌||◌, not}
use mathlib.Core.Logic.{⊎_elim}
use mathlib.Core.List.{List, map}
use Prim.Native.Nat.{ℕ, ◌+◌, ◌*◌, ◌-◌, ◌/◌, ◌%◌, ◌≤◌, ◌<◌}
use native.Mathlib.Omega.{arith}
use lib.ListN.{length, get_or, drop, length-map, get_or-map}
use lib.Seq.{take_at, drop_at}
use lib.Dec.{ltb}
use borrow.Author.Tests.{eqb-true, eq-eqb, ltb-true, lt-ltb}
use Rattle.finite.specs.Below.{count, those}
use Rattle.finite.specs.Reach.{reaches}
use Rattle.finite.proofs.Bools.{and_intro, and_left, and_right, clash, refute, same_test, test}
use Rattle.finite.proofs.Below.{le_or_lt, eq_or_ne, count_ext, tabulate_ext}
use Rattle.finite.proofs.Those.{length_those, those_entry}
use Rattle.finite.proofs.Packed.{count_every, those_packed, those_past}
use Rattle.table.specs.Table.{Table, places, exits, entries_of, exits_of, exit_places, holder_at, exit_at, counters, in_use, kind_of, content_of, own_bit, cabin_of, target_of, link_bit, counter_of, holds, steps_in_use}
use Rattle.table.specs.Sound.{Sound, sound}
use Rattle.table.specs.Answer.{first_of}
use Rattle.table.specs.Trial.{is_contact, trial_call, under_numbers}
use Rattle.table.specs.Rung.{goes_by, goes_on, is_entered, rung_refusal, rung_call, list_under}
use Rattle.table.specs.Squeeze.{new_number, old_number, moved, squeezed, squeeze_refusal, Renumbered}
use Rattle.table.proofs.Places.{own_exit, exit_at_below}
use Rattle.table.proofs.Links.{Wired, sound_wired, empty_target}
use Rattle.table.proofs.Renumber.{new_zero, new_step, new_below, moved_step_lem, moved_none, moved_new, old_new, squeezed_renumbered}
use Rattle.table.proofs.Follow.{Follows, renumbered_follows, new_nonzero, new_exits, follow_holds, reach_there, start}
use Rattle.table.proofs.Calls.{done, next, first_same, past_sound}
use Rattle.table.proofs.Rings.{trials_under}
use Rattle.table.proofs.Rung.{entered, goes_exit, exit_goes, goes_below, entered_used, rung_made, rung_refused_as, rung_refusal_lem}
use Rattle.table.proofs.Squeeze.{SqueezeFits, squeezed_wired, used_same, squeeze_sound}

-- a field of each step of u is that of the steps of t that were moved there
abbrev MovedSame : Table → Table → Type 0
MovedSame t u =
    (k : ℕ) (field field' : ℕ → ℕ) → ((i : ℕ) → in_use t i ≡ true → new_number t i ≡ k → field (new_number t i) ≡ field' i) → moved u k field ≡ moved t k field'

-- the exit at a place is one of the step that moves there
moves_exit : (t : Table) → in_use t 0 ≡ true → (p i : ℕ) → new_number t i ≡ holder_at p → exit_at p < exits_of i
moves_exit t alarm p i n = omega (arith, exit_at_below p, ap entries_of n, new_exits t alarm i)

squeezed_same : (t u : Table) (d : ℕ) (p : List ℕ) → in_use t 0 ≡ true → Renumbered t u → steps_in_use u ≡ steps_in_use t → MovedSame t u →
    ((i e : ℕ) → in_use t i ≡ true → e < exits_of i → new_number u (target_of u (new_number t i) e) ≡ new_number t (target_of t i e)) → squeezed u d p ≡ squeezed t d p
unfolding squeezed
squeezed_same t u d l alarm r n same target =
    let used = tabulate_ext places _ _ (λ k _. same k (λ i. 1) (λ i. 1) (λ i x m. refl)) in
    let kinds = tabulate_ext places _ _ (λ k _. same k (kind_of u) (kind_of t) (λ i x m. r.kind i x)) in
    let contents = tabulate_ext places _ _ (λ k _. same k (content_of u) (content_of t) (λ i x m. r.content i x)) in
    let own = tabulate_ext places _ _ (λ k _. same k (own_bit u) (own_bit t) (λ i x m. r.own i x)) in
    let targets = tabulate_ext (exit_places places) _ _
    (λ p _. same (holder_at p) (λ i. new_number u (target_of u i (exit_at p))) (λ i. new_number t (target_of t i (exit_at p))) (λ i x m. target i (exit_at p) x (moves_exit t alarm p i m))) in
    let bits = tabulate_ext (exit_places places) _ _
    (λ p _. same (holder_at p) (λ i. link_bit u i (exit_at p)) (λ i. link_bit t i (exit_at p)) (λ i x m. r.bit i (exit_at p) x (moves_exit t alarm p i m))) in
    let counts = tabulate_ext (places * counters) _ _
    (λ q _. same (q / counters) (λ i. counter_of u i (q % counters)) (λ i. counter_of t i (q % counters)) (λ i x m. r.counter i (q % counters) x (omega arith))) in
    let cabins = tabulate_ext places _ _ (λ k _. same k (cabin_of u) (cabin_of t) (λ i x m. r.cabin i x)) in
    λ j.
    record {
      capacity = d;
      last = n j - 1;
      used = used j;
      kinds = kinds j;
      contents = contents j;
      own = own j;
      targets = targets j;
      bits = bits j;
      counts = counts j;
      cabins = cabins j;
      quotas = l;
    }

module _ {t : Table} (s : Sound t) (c : ℕ) (q : List ℕ) (fit : SqueezeFits t c q) where
  abbrev u : Table
  u = squeezed t c q

  w : Wired t
  w = sound_wired s

  v : Wired u
  v = squeezed_wired s c q fit.roomy

  r : Renumbered t u
  r = squeezed_renumbered w c q

  f : Follows t u
  f = renumbered_follows r

  used : steps_in_use u ≡ steps_in_use t
  used = used_same s c q fit.roomy

  sound_under : Sound u
  sound_under = squeeze_sound s c q fit.roomy fit.charges

  -- the numbers in use have no gap: each stays as it is
  stays : (k : ℕ) → k ≤ steps_in_use t → new_number u k ≡ k
  unfolding new_number
  stays k l = count_every k (in_use u) (λ j h. r.used j ∙ lt-ltb j (steps_in_use t) (omega arith))

  moved_same : MovedSame t u
  moved_same k field field' h =
      ⊎_elim
      (λ (l : steps_in_use t ≤ k). moved_none u k field (rw used l) ∙ sym (moved_none t k field' l))
      (λ (l : k < steps_in_use t).
      let x = new_step t k l in
      let y : in_use u k ≡ true = r.used k ∙ lt-ltb k (steps_in_use t) l in
      let z : old_number u k ≡ k = ap (old_number u) (sym (stays k (omega arith))) ∙ old_new v k y in
      moved_step_lem u k field (rw used l) ∙ ap field (z ∙ sym x.2) ∙ h x.0 x.1 x.2 ∙ sym (moved_new w x.0 field' x.1) ∙ ap (λ (j : ℕ). moved t j field') x.2)
      (le_or_lt (steps_in_use t) k)

  -- a target stays under its new number
  target_stays : (i e : ℕ) → in_use t i ≡ true → e < exits_of i → new_number u (target_of u (new_number t i) e) ≡ new_number t (target_of t i e)
  target_stays i e x l =
      ap (new_number u) (r.target i e x l)
      ∙ stays (new_number t (target_of t i e))
      (⊎_elim (λ (h : holds t i e ≡ true). let b = new_below w (target_of t i e) (s.formed.targets i e x l h) in omega arith)
      (λ (h : holds t i e ≡ false). rw (empty_target t i e h, new_zero t) (omega arith))
      (test (holds t i e)))

  pub squeeze_twice : (d : ℕ) (l : List ℕ) → squeezed (squeezed t c q) d l ≡ squeezed t d l
  squeeze_twice d l = squeezed_same t u d l s.formed.alarm r used moved_same target_stays

  pub squeeze_refusal_same : (d : ℕ) (l : List ℕ) → squeeze_refusal u d l ≡ squeeze_refusal t d l
  unfolding squeeze_refusal
  squeeze_refusal_same d l =
      past_sound sound_under _
      ∙ first_same
      (next refl
      (λ _. next refl (λ _. next (ap₂ (λ (n : ℕ) (x : Table). ltb d n || not (sound x)) used (squeeze_twice d l)) (λ _. done))))
      ∙ sym (past_sound s _)

  pub squeeze_trial : (limit : ℕ) (results trace : List ℕ) → trial_call u limit results trace ≡ under_numbers (new_number t) (trial_call t limit results trace)
  squeeze_trial = trials_under s sound_under (record { alarm = new_zero t; kind = r.kind; target = r.target; filled = follow_holds w s.formed.alarm f })

  -- who can be rung: a step goes on by an exit as it did
  goes_both : Table → ℕ → ℕ → Bool
  goes_both t i e = ltb e exits && (goes_by t i e && holds t i e)

  goes_both_lem : (t : Table) (i j : ℕ) → goes_on t i j ≡ true → (e : ℕ) × (e < exits_of i) × (goes_both t i e ≡ true) × (target_of t i e ≡ j)
  unfolding goes_both
  goes_both_lem t i j h =
      let x = goes_exit t i j h in
      (x.0, own_exit i x.0 x.1, and_intro (lt-ltb _ _ x.1) (and_intro x.2 x.3), x.4)

  both_goes : (t : Table) (i j e : ℕ) → e < exits_of i → goes_both t i e ≡ true → target_of t i e ≡ j → goes_on t i j ≡ true
  unfolding goes_both
  both_goes t i j e l h q =
      let y = and_right (ltb e exits) _ h in
      exit_goes t i j e (ltb-true e exits (and_left (ltb e exits) _ h)) (and_left (goes_by t i e) _ y) (and_right (goes_by t i e) _ y) q

  both_holds : (i e : ℕ) → goes_both t i e ≡ true → holds t i e ≡ true
  unfolding goes_both
  both_holds i e h = and_right (goes_by t i e) _ (and_right (ltb e exits) _ h)

  contact_same : (i : ℕ) → in_use t i ≡ true → is_contact u (new_number t i) ≡ is_contact t i
  unfolding is_contact
  contact_same i x = rw (r.kind i x)

  both_same : (i e : ℕ) → in_use t i ≡ true → e < exits_of i → goes_both u (new_number t i) e ≡ goes_both t i e
  unfolding goes_both goes_by
  both_same i e x l = rw (contact_same i x, follow_holds w s.formed.alarm f i e x l)

  entered_same : (i : ℕ) → in_use t i ≡ true → entered u (new_number t i) ≡ entered t i
  unfolding is_entered reaches
  entered_same i x =
      ap₂ (λ (a b : Bool). not a && b)
      (same_test _ _
      (λ h. ⊎_elim (λ (z : i ≡ 0). eq-eqb i 0 z) (λ d. absurd (new_nonzero t s.formed.alarm i d (eqb-true _ 0 h))) (eq_or_ne i 0))
      (λ h. eq-eqb _ 0 (ap (new_number t) (eqb-true i 0 h) ∙ new_zero t)))
      (reach_there w s.formed.alarm f goes_on goes_both goes_both_lem both_goes both_holds both_same (goes_below s) (goes_below sound_under)
      (start w s.formed.alarm f v) i x)

  numbers_under : those u.capacity (entered u) ≡ map (new_number t) (those t.capacity (entered t))
  unfolding steps_in_use new_number
  numbers_under =
      let room = fit.roomy.room in
      let same : u.capacity ≡ c = unfold squeezed in refl in
      let e : steps_in_use t + (c - steps_in_use t) ≡ u.capacity = omega arith in
      ap (λ (n : ℕ). those n (entered u)) (sym e)
      ∙ those_past (steps_in_use t) (c - steps_in_use t) (entered u)
      (λ k l. refute (entered u k) (λ h. let b = ltb-true k (steps_in_use t) (sym (r.used k) ∙ entered_used sound_under k h) in omega arith))
      ∙ those_packed t.capacity (in_use t) (entered t) (entered u) (λ i l x. entered_same i x) (λ i l x. refute (entered t i) (λ h. clash (entered_used s i h) x))

  contacts_under : (xs : List ℕ) → xs ≡ those t.capacity (entered t) →
      count (length (map (new_number t) xs)) (λ m. is_contact u (get_or (map (new_number t) xs) m 0)) ≡ count (length xs) (λ m. is_contact t (get_or xs m 0))
  contacts_under xs q =
      ap (λ (n : ℕ). count n (λ m. is_contact u (get_or (map (new_number t) xs) m 0))) (length-map xs (new_number t))
      ∙ count_ext (length xs) _ _
      (λ m l.
      ap (is_contact u) (ap (get_or (map (new_number t) xs) m) (sym (new_zero t)) ∙ get_or-map (new_number t) xs m 0)
      ∙ contact_same (get_or xs m 0) (used_at m l))
    where
      used_at : (m : ℕ) → m < length xs → in_use t (get_or xs m 0) ≡ true
      used_at m l =
          let low : m < count t.capacity (entered t) = rw (sym (length_those t.capacity (entered t)), sym q) l in
          let x = those_entry t.capacity (entered t) m low in
          rw (q, x.1) (entered_used s x.0.number x.0.passes)

  pub squeeze_rung : (buffer : List ℕ) → rung_call u buffer ≡ list_under (new_number t) (rung_call t buffer)
  unfolding list_under first_of
  squeeze_rung buffer =
      let xs = those t.capacity (entered t) in
      let same : rung_refusal u (length buffer) ≡ rung_refusal t (length buffer) = rung_refusal_lem sound_under buffer ∙ sym (rung_refusal_lem s buffer) in
      ⊎_elim
      (λ (z : rung_refusal t (length buffer) ≡ 0).
      rw (
        rung_made u buffer (same ∙ z),
        rung_made t buffer z,
        numbers_under,
        contacts_under xs refl,
        length-map xs (new_number t),
        take_at xs (drop (length xs) buffer) (length xs) refl,
        drop_at xs (drop (length xs) buffer) (length xs) refl,
      ))
      (λ (d : rung_refusal t (length buffer) ≡ 0 → ⊥). rw (rung_refused_as u buffer (λ z. d (sym same ∙ z)), rung_refused_as t buffer d, same))
      (eq_or_ne (rung_refusal t (length buffer)) 0)
