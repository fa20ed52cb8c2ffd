-- Squeeze on a sound table, for any capacity and quotas (document 02, W2 and W5). Assumes nothing.
--   Roomy SqueezeFits   the conditions of an accepted squeeze, as facts: those before the charges are looked at, and all
--   charge_same       each cabin is charged what it was
--   squeeze_refusal_lem   it is refused as the plan says
--   squeeze_made squeeze_answer   a squeeze that is not refused, and two that are refused alike
--   squeeze_sound     the squeezed table is sound
--   squeeze_plan      its plain plan is the plan's squeeze
use mathlib.Core.Path.{◌≡◌, refl, sym, ◌∙◌, ap, ap₂, subst, fun_ext}
use mathlib.Core.Bool.{true, false, ◌||◌, not}
use mathlib.Core.Logic.{⊎_elim}
use mathlib.Core.List.{List, [], ◌∷◌, ◌++◌, map, append-nil}
use mathlib.Core.Option.{Option, none, some}
use Prim.Native.Nat.{ℕ, zero, suc, ◌+◌, ◌-◌, ◌≤◌, ◌<◌}
use native.Mathlib.Omega.{arith}
use lib.ListN.{length, replicate, length-map}
use lib.Dec.{eqb, ltb}
use borrow.Author.Tests.{eqb-true, ne_eqb, ltb-false, le-ltb}
use Rattle.finite.proofs.Bools.{and_left, and_right, or_false_left, or_false_right, test, same_test, not_false_true}
use Rattle.finite.proofs.Below.{eq_or_ne, length_tabulate, tabulate_ext}
use Rattle.finite.proofs.Packed.{tabulate_next, tabulate_past, take_tabulate, map_tabulate, map_append}
use Rattle.finite.specs.Below.{tabulate, tabulate_from}
use Rattle.finite.specs.Reach.{Chain}
use Rattle.table.specs.Said.{Given}
use Rattle.table.specs.Table.{Table, places, exits_of, cabin_count, quota_numbers, in_use, kind_of, content_of, own_bit, cabin_of, target_of, link_bit, counter_of, holds, strongly_linked, links_to, steps_in_use, StrongChain}
use Rattle.table.specs.Cabins.{quotas_fit, list_fits, charges_fit, charged, charge, free_steps}
use Rattle.table.specs.Sound.{Blank, Sound, capacity_fits, content_fits, kind_fits, sound}
use Rattle.table.specs.Squeeze.{new_number, squeezed, squeeze_conditions, squeeze_refusal, squeeze_call, Renumbered}
use Rattle.table.specs.Plan.{PlanStep, plan_step, plan_of, packed, plan_rank, followed, plan_squeeze, plan_squeeze_refusal}
use Rattle.table.proofs.Cabins.{quotas_pairs, quotas_together, charges_limit, charges_reserve, charges_test, charged_used, used_charged}
use Rattle.table.proofs.Sound.{capacity_range, test_sound, sound_test}
use Rattle.table.proofs.Links.{Wired, sound_wired, empty_target, used_below}
use Rattle.table.proofs.Renumber.{new_zero, new_used, new_free, new_all, new_once, new_below, moved_none, squeezed_shape, squeezed_entry, squeezed_kind, squeezed_content, squeezed_own, squeezed_cabin, squeezed_target, squeezed_bit, squeezed_counter, squeezed_renumbered}
use Rattle.table.proofs.Follow.{Follows, renumbered_follows, new_nonzero, new_exits, used_new_step, new_used_step, follow_holds, follow_chain, follow_chain_back, follow_links, follow_used, follow_count}
use Rattle.table.proofs.Plan.{step_path, plan_path, plan_count_lem, plan_charge_lem}
use Rattle.table.proofs.Calls.{done, next, first_same, nonzero, passed_next, first_passed, table_fits, unless_zero, unless_answer, past_sound}

-- what a squeeze asks of its arguments and of the steps in use, and then of the charges
pub record Roomy (t : Table) (c : ℕ) (q : List ℕ) : Type 0 where
  pub least : 1 ≤ c
  pub most : c ≤ places
  pub list : list_fits c q ≡ true
  pub room : steps_in_use t ≤ c

pub record SqueezeFits (t : Table) (c : ℕ) (q : List ℕ) : Type 0 where
  pub roomy : Roomy t c q
  pub charges : charges_fit q (charge t) (c - steps_in_use t) ≡ true

pub list_size : (c : ℕ) (q : List ℕ) → list_fits c q ≡ true → length q ≡ quota_numbers
unfolding list_fits
list_size c q h = eqb-true _ _ (and_left (eqb (length q) quota_numbers) _ h)

pub list_quotas : (c : ℕ) (q : List ℕ) → list_fits c q ≡ true → quotas_fit c q ≡ true
unfolding list_fits
list_quotas c q h = and_right (eqb (length q) quota_numbers) _ h

-- a squeeze that is not refused, and two that are refused alike
pub squeeze_made : (t : Table) (c : ℕ) (q : List ℕ) → squeeze_refusal t c q ≡ 0 → squeeze_call t c q ≡ record { answer = Given 0 0; table = squeezed t c q }
unfolding squeeze_call
squeeze_made t c q z = unless_zero _ t _ z

pub squeeze_answer : (t u : Table) (c : ℕ) (q : List ℕ) → squeeze_refusal t c q ≡ squeeze_refusal u c q → (squeeze_call t c q).answer ≡ (squeeze_call u c q).answer
unfolding squeeze_call
squeeze_answer t u c q e = unless_answer t u _ _ e refl

module _ {t : Table} (s : Sound t) (c : ℕ) (q : List ℕ) (fit : Roomy t c q) where
  abbrev u : Table
  u = squeezed t c q

  w : Wired t
  w = sound_wired s

  r : Renumbered t u
  r = squeezed_renumbered w c q

  -- a number that no step gets is free, with all fields zero
  blank : (k : ℕ) → k < places → in_use u k ≡ false → Blank u k
  blank k l h =
      let most = ltb-false k (steps_in_use t) (sym (r.used k) ∙ h) in
      let none : (field : ℕ → ℕ) → _ = λ field. moved_none t k field most in
      record {
        used = squeezed_entry t c q k l ∙ none _;
        kind = squeezed_kind t c q k l ∙ none _;
        content = squeezed_content t c q k l ∙ none _;
        own = squeezed_own t c q k l ∙ none _;
        targets = λ e x. squeezed_target t c q k e l x ∙ none _;
        bits = λ e x. squeezed_bit t c q k e l x ∙ none _;
        counts = λ b x. squeezed_counter t c q k b l x ∙ none _;
        cabin = squeezed_cabin t c q k l ∙ none _;
      }

  -- a statement of each step of u, by the step of t that became it
  each : (P : ℕ → Type 0) → ((i : ℕ) → in_use t i ≡ true → P (new_number t i)) → (k : ℕ) → in_use u k ≡ true → P k
  each P h k y =
      let x = used_new_step w s.formed.alarm (renumbered_follows r) k y in
      subst P x.2 (h x.0 x.1)

  f : Follows t u
  f = renumbered_follows r

  old_exit : (i e : ℕ) → e < exits_of (new_number t i) → e < exits_of i
  old_exit i e l = omega (arith, new_exits t s.formed.alarm i)

  pub squeezed_wired : Wired u
  unfolding squeezed
  squeezed_wired =
      record {
        shape = squeezed_shape t c q (list_size c q fit.list);
        most = fit.most;
        above = λ k l p. r.used k ∙ le-ltb k (steps_in_use t) (let m = fit.room in omega arith);
        targets =
            λ k e y l.
            each (λ k. e < exits_of k → holds u k e ≡ true → in_use u (target_of u k e) ≡ true)
            (λ i x b h.
            let o = old_exit i e b in
            rw (r.target i e x o)
            (new_used_step w s.formed.alarm f (target_of t i e) (s.formed.targets i e x o (sym (follow_holds w s.formed.alarm f i e x o) ∙ h))))
            k
            y
            l;
        free = blank;
      }

  -- step 0 alone is of kind 0, before and after
  fits_there : (i : ℕ) → in_use t i ≡ true → kind_fits (new_number t i) (kind_of u (new_number t i)) (content_of u (new_number t i)) ≡ true
  fits_there i x =
      rw (r.kind i x, r.content i x)
      (⊎_elim
      (λ (z : i ≡ 0). let q : new_number t i ≡ i = ap (new_number t) z ∙ new_zero t ∙ sym z in rw q (s.formed.kinds i x))
      (λ (d : i ≡ 0 → ⊥). kind_other (new_number t i) (new_nonzero t s.formed.alarm i d) ∙ sym (kind_other i d) ∙ s.formed.kinds i x)
      (eq_or_ne i 0))
    where
      kind_other : (k : ℕ) → (k ≡ 0 → ⊥) → kind_fits k (kind_of t i) (content_of t i) ≡ content_fits (kind_of t i) (content_of t i)
      kind_other k d = unfold kind_fits in rw (ne_eqb k 0 d)

  acyclic : (k n : ℕ) → StrongChain u k k (suc n) → ⊥
  acyclic k n q = each (λ k. Chain (strongly_linked u) k k (suc n) → ⊥) ringless k q.begins q.row
    where
      ringless : (i : ℕ) → in_use t i ≡ true → Chain (strongly_linked u) (new_number t i) (new_number t i) (suc n) → ⊥
      ringless i x y =
          let b = follow_chain_back w s.formed.alarm f x y in
          let e : b.0 ≡ i = new_once t b.0 i b.1 x (sym b.2) in
          s.acyclic i n (record { begins = x; row = rw e at b.3 })

  reached : (k : ℕ) → in_use u k ≡ true → (n : ℕ) × StrongChain u 0 k n
  reached =
      each (λ k. (n : ℕ) × StrongChain u 0 k n)
      (λ i x.
      let q = s.reached i x in
      let row = follow_chain w s.formed.alarm f s.formed.alarm q.1.row in (
        q.0,
        record { begins = rw (new_zero t) at (new_used_step w s.formed.alarm f 0 s.formed.alarm); row = rw (new_zero t) at row },
      ))

  -- each cabin is charged what it was
  pub used_same : steps_in_use u ≡ steps_in_use t
  used_same = follow_used w s.formed.alarm f squeezed_wired

  pub charge_same : charge u ≡ charge t
  unfolding charge
  charge_same =
      fun_ext
      (λ d.
      follow_count w s.formed.alarm f squeezed_wired (charged t d) (charged u d)
      (λ i x. charged_there d i x)
      (λ i y. (charged_used t d i y).0)
      (λ k y. (charged_used u d k y).0))
    where
      charged_there : (d i : ℕ) → in_use t i ≡ true → charged u d (new_number t i) ≡ charged t d i
      charged_there d i x =
          same_test _ _
          (λ y.
          let z = charged_used u d (new_number t i) y in
          used_charged t d i x (λ e. z.1 (ap (new_number t) e ∙ new_zero t)) (sym (r.cabin i x) ∙ z.2))
          (λ y.
          let z = charged_used t d i y in
          used_charged u d (new_number t i) (new_used_step w s.formed.alarm f i x) (new_nonzero t s.formed.alarm i z.1) (r.cabin i x ∙ z.2))

  free_same : free_steps u ≡ c - steps_in_use t
  unfolding free_steps
  free_same = ap (λ (n : ℕ). u.capacity - n) used_same ∙ (unfold squeezed in refl)

  pub squeeze_sound : charges_fit q (charge t) (c - steps_in_use t) ≡ true → Sound u
  unfolding squeezed
  squeeze_sound charges =
      let shared : charges_fit q (charge u) (free_steps u) ≡ true = ap₂ (charges_fit q) charge_same free_same ∙ charges in
      record {
        formed =
            record {
              shape = squeezed_shape t c q (list_size c q fit.list);
              least = fit.least;
              most = fit.most;
              last = last_below;
              above = squeezed_wired.above;
              alarm = rw (new_zero t) at (new_used_step w s.formed.alarm f 0 s.formed.alarm);
              kinds = each (λ k. kind_fits k (kind_of u k) (content_of u k) ≡ true) fits_there;
              own = each (λ k. own_bit u k < 2) (λ i x. rw (r.own i x) (s.formed.own i x));
              bits =
                  λ k e y l.
                  each (λ k. e < exits_of k → link_bit u k e < 2) (λ i x b. let o = old_exit i e b in rw (r.bit i e x o) (s.formed.bits i e x o)) k y l;
              targets = squeezed_wired.targets;
              empty =
                  λ k e y l.
                  each (λ k. e < exits_of k → holds u k e ≡ false → link_bit u k e ≡ 0)
                  (λ i x b h. let o = old_exit i e b in r.bit i e x o ∙ s.formed.empty i e x o (sym (follow_holds w s.formed.alarm f i e x o) ∙ h))
                  k
                  y
                  l;
              free = blank;
              counts =
                  λ k b y l.
                  each (λ k. counter_of u k b ≡ links_to u k b)
                  (λ i x. r.counter i b x l ∙ s.formed.counts i b x l ∙ sym (follow_links w s.formed.alarm f squeezed_wired i b x))
                  k
                  y;
              cabins = each (λ k. cabin_of u k < cabin_count) (λ i x. rw (r.cabin i x) (s.formed.cabins i x));
              alarm_cabin = rw (new_zero t) at (r.cabin 0 s.formed.alarm) ∙ s.formed.alarm_cabin;
            };
        acyclic = acyclic;
        reached = reached;
        shares =
            record {
              pairs = quotas_pairs c q (list_quotas c q fit.list);
              together = quotas_together c q (list_quotas c q fit.list);
              charges = charges_limit q (charge u) (free_steps u) shared;
              reserve = charges_reserve q (charge u) (free_steps u) shared;
            };
      }
    where
      last_below : steps_in_use t - 1 < c
      last_below = let a = new_below w 0 s.formed.alarm in let b = fit.room in omega arith

  -- a squeeze can spoil nothing but that the charges fit
  pub squeeze_test : sound u ≡ charges_fit q (charge t) (c - steps_in_use t)
  squeeze_test =
      same_test _ _
      (λ y.
      let v = test_sound u y in
      rw (← charge_same, ← free_same)
      (charges_test q (charge u) (free_steps u) (λ d l. unfold squeezed in v.shares.charges d l) (unfold squeezed in v.shares.reserve)))
      (λ y. sound_test u (squeeze_sound y))

module _ {t : Table} (s : Sound t) (c : ℕ) (q : List ℕ) where
  -- the last condition, after the capacity and the list
  pub does_not_fit_lem : not (capacity_fits c) ≡ false → not (list_fits c q) ≡ false →
      (ltb c (steps_in_use t) || not (sound (squeezed t c q))) ≡ (ltb c (steps_in_use t) || not (charges_fit q (charge t) (c - steps_in_use t)))
  does_not_fit_lem a b =
      ⊎_elim
      (λ (y : ltb c (steps_in_use t) ≡ true). rw y)
      (λ (n : ltb c (steps_in_use t) ≡ false).
      let range = capacity_range c (not_false_true _ a) in
      let roomy : Roomy t c q = record { least = range.0; most = range.1; list = not_false_true _ b; room = ltb-false c _ n } in
      rw n (ap not (squeeze_test s c q roomy)))
      (test (ltb c (steps_in_use t)))

  pub squeeze_refusal_lem : squeeze_refusal t c q ≡ plan_squeeze_refusal (plan_of t) c q
  unfolding squeeze_refusal plan_squeeze_refusal
  squeeze_refusal_lem =
      let w = sound_wired s in
      past_sound s _
      ∙ first_same
      (next refl
      (λ a. next refl
      (λ b. next
      (does_not_fit_lem a b
      ∙ ap₂ (λ (f : ℕ → ℕ) (n : ℕ). ltb c n || not (charges_fit q f (c - n))) (sym (plan_charge_lem w)) (sym (plan_count_lem w)))
      (λ _. done))))

  pub squeeze_fits : squeeze_refusal t c q ≡ 0 → SqueezeFits t c q
  unfolding squeeze_refusal nonzero
  squeeze_fits z =
      let size = passed_next (table_fits t _ (first_passed (squeeze_conditions t c q) z refl)).1 in
      let list = passed_next size.1 in
      let range = capacity_range c (not_false_true _ size.0) in
      let last = sym (does_not_fit_lem size.0 list.0) ∙ (passed_next list.1).0 in
      record {
        roomy = record { least = range.0; most = range.1; list = not_false_true _ list.0; room = ltb-false c _ (or_false_left (ltb c (steps_in_use t)) _ last) };
        charges = not_false_true _ (or_false_right (ltb c (steps_in_use t)) _ last);
      }

-- The steps of a plan without the gaps between them.
packed_append : (xs ys : List (Option PlanStep)) → packed (xs ++ ys) ≡ packed xs ++ packed ys
unfolding packed
packed_append [] ys = refl
packed_append (none ∷ xs) ys = packed_append xs ys
packed_append (some s ∷ xs) ys = ap {B = List PlanStep} (λ l. s ∷ l) (packed_append xs ys)

module _ (t : Table) where
  -- what the plan keeps of a step in use
  step_kept : ℕ → PlanStep
  step_kept i = record { kind = kind_of t i; content = content_of t i; targets = tabulate (exits_of i) (target_of t i); cabin = cabin_of t i }

  plan_step_used : (i : ℕ) → in_use t i ≡ true → plan_step t i ≡ some (step_kept i)
  unfolding plan_step step_kept
  plan_step_used i x = rw x

  plan_step_free : (i : ℕ) → in_use t i ≡ false → plan_step t i ≡ none
  unfolding plan_step
  plan_step_free i x = rw x

  -- the steps below m, each changed by F, are listed by G under their new numbers
  packed_new : {B : Type 0} (F : PlanStep → B) (G : ℕ → B) → ((i : ℕ) → in_use t i ≡ true → F (step_kept i) ≡ G (new_number t i)) → (m : ℕ) →
      map F (packed (tabulate m (plan_step t))) ≡ tabulate (new_number t m) G
  unfolding packed
  packed_new F G h zero = rw (new_zero t) (unfold tabulate tabulate_from in refl)
  packed_new {B} F G h (suc m) =
      let before = packed_new F G h m in
      let next : suc m ≡ m + 1 = omega arith in
      ap (λ (l : List (Option PlanStep)). map F (packed l)) (tabulate_next m (plan_step t))
      ∙ ap (map F) (packed_append (tabulate m (plan_step t)) (plan_step t m ∷ []))
      ∙ map_append F (packed (tabulate m (plan_step t))) (packed (plan_step t m ∷ []))
      ∙ ⊎_elim
      (λ (x : in_use t m ≡ true).
      let n : new_number t (suc m) ≡ suc (new_number t m) = ap (new_number t) next ∙ new_used t m x ∙ omega arith in
      rw (before, plan_step_used m x, n)
      (ap (λ (b : B). tabulate (new_number t m) G ++ (b ∷ [])) (h m x) ∙ sym (tabulate_next (new_number t m) G)))
      (λ (x : in_use t m ≡ false).
      let n : new_number t (suc m) ≡ new_number t m = ap (new_number t) next ∙ new_free t m x in
      rw (before, plan_step_free m x, n) (append-nil (tabulate (new_number t m) G)))
      (test (in_use t m))

  -- a rank in the plan is the new number in the table
  plan_rank_lem : (i : ℕ) → i ≤ t.capacity → plan_rank (plan_of t) i ≡ new_number t i
  unfolding plan_rank plan_of
  plan_rank_lem i l =
      ap (λ (xs : List (Option PlanStep)). length (packed xs)) (take_tabulate i t.capacity (plan_step t) l)
      ∙ sym (length-map {B = ℕ} (packed (tabulate i (plan_step t))) (λ s. 0))
      ∙ ap length (packed_new {B = ℕ} (λ s. 0) (λ k. 0) (λ k x. refl) i)
      ∙ length_tabulate {A = ℕ} (new_number t i) (λ k. 0)

module _ {t : Table} (s : Sound t) (c : ℕ) (q : List ℕ) (fit : Roomy t c q) where
  followed_step : (i : ℕ) → in_use t i ≡ true → some (followed (plan_of t) (step_kept t i)) ≡ plan_step (squeezed t c q) (new_number t i)
  followed_step i x =
      let w = sound_wired s in
      let r = squeezed_renumbered w c q in
      sym
      (plan_step_used (squeezed t c q) (new_number t i) (new_used_step w s.formed.alarm (renumbered_follows r) i x)
      ∙ ap some
      (unfold followed step_kept in
      step_path (r.kind i x) (r.content i x)
      (ap (λ (n : ℕ). tabulate n (target_of (squeezed t c q) (new_number t i))) (new_exits t s.formed.alarm i)
      ∙ tabulate_ext (exits_of i) _ _
      (λ e l. r.target i e x l ∙ sym (plan_rank_lem t (target_of t i e) (target_low w e l)))
      ∙ sym (map_tabulate (plan_rank (plan_of t)) (exits_of i) (target_of t i)))
      (r.cabin i x)))
    where
      target_low : Wired t → (e : ℕ) → e < exits_of i → target_of t i e ≤ t.capacity
      target_low w e l =
          ⊎_elim (λ (h : holds t i e ≡ true). let b = used_below w (target_of t i e) (s.formed.targets i e x l h) in omega arith)
          (λ (h : holds t i e ≡ false). rw (empty_target t i e h) (omega arith))
          (test (holds t i e))

  pub squeeze_plan : plan_of (squeezed t c q) ≡ plan_squeeze (plan_of t) c q
  unfolding plan_squeeze plan_of squeezed
  squeeze_plan =
      let n = plan_count_lem (sound_wired s) in
      plan_path refl (ap (λ (k : ℕ). k - 1) (sym n))
      (tabulate_past (steps_in_use t) c (plan_step (squeezed t c q)) none fit.room
      (λ k l. plan_step_free (squeezed t c q) k ((squeezed_renumbered (sound_wired s) c q).used k ∙ le-ltb k (steps_in_use t) l))
      ∙ ap₂ ◌++◌
      (ap (λ (k : ℕ). tabulate k (plan_step (squeezed t c q))) (sym (new_all t))
      ∙ sym (packed_new t (λ s. some (followed (plan_of t) s)) (plan_step (squeezed t c q)) followed_step t.capacity))
      (ap (λ (k : ℕ). replicate (c - k) none) (sym n)))
      refl
