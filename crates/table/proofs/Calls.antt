-- Each call on a sound table, for any arguments: it is refused as its plan says, and where it is accepted the table handed back is sound and
-- its plan is the plan's call. Assumes nothing.
--   Passed xs       no condition of the order xs holds; first_passed, where its refusal is 0
--   number_not_zero no refusal has the number 0
--   passed_on       what a `?` passes on
--   none_found one_found   whether a refusal was found
--   first_append    two orders, one after the other
--   table_fits exit_fits_lem hold_fits fill_fits   what the conditions that calls share say where none holds, and that the rest of the order is passed
--   add_refusal_lem link_refusal_lem clear_refusal_lem read_refusal_lem trial_refusal_lem   the table's refusal is the plan's
--   listing_made listing_refused listing_refusal   a call that lists steps
--   read_refused trial_refused   what a refused read and a refused trial do
--   clear_cleared clear_still clear_fall clear_plan   what a clearing that is made comes to: its steps in use, its counts and its plan
--   FillFits AddFits LinkFits   the conditions of an accepted call, as facts; HoldFits, of the definitions, is that of a clearing
use mathlib.Core.Path.{◌≡◌, refl, sym, ◌∙◌, ap, ap₂}
use mathlib.Core.Bool.{Bool, true, false, ◌&&◌, not, cond}
use mathlib.Core.Logic.{⊎_elim}
use mathlib.Core.List.{List, [], ◌∷◌, ◌++◌}
use mathlib.Core.Option.{some}
use Prim.Native.Nat.{ℕ, ◌+◌, ◌-◌, ◌<◌}
use native.Mathlib.Omega.{arith}
use lib.ListN.{length, set, drop, replicate}
use lib.Dec.{eqb}
use borrow.Author.Tests.{eqb-false, eq-eqb, ne_eqb, leb-false, lt-leb}
use Rattle.finite.proofs.Bools.{and_left, and_right, clash, refute, test, not_true_false, not_false_true}
use Rattle.finite.proofs.Below.{eq_or_ne, find_ext}
use Rattle.std.specs.Prelude.{Result, Ok, Err, is_err, IsErrAnd}
use Rattle.std.proofs.lemmas.Result.{err_from_is_err_and}
use Rattle.table.specs.declared.Refusal.{Refusal}
use Rattle.table.specs.declared.Refusal.TheVariants.{NotSound, BadCapacity, NotInUse, BadExit, ExitFilled, ExitEmpty, BadKind, Full, NotKeyLine, BadResult, TooShort, NotAccepted, DoesNotFit, CabinAtLimit, StepsReserved, BadCabins, NeedsEdition2, SlipNotAccepted, NoSuchCabin, NobodyWaits}
use Rattle.table.specs.Said.{Answer, Refused, Given, TrialRefused}
use Rattle.table.specs.Table.{Table, exits, exits_of, cabin_count, in_use, target_of, holds, steps_in_use}
use Rattle.table.specs.Cabins.{at_limit, none_to_spare, charge, free_steps}
use Rattle.table.specs.Sound.{Sound, sound, content_fits}
use Rattle.table.specs.Answer.{Outcome, WriteOutcome, not_sound, not_in_use, too_short, number, refused, first, refusal_of, second_of, unless, listing}
use Rattle.table.specs.Calls.{table_tests, exit_tests, fill_tests, hold_tests, HoldFits, number_given, add_conditions, add_refusal, with_step, add_table, link_conditions, link_refusal, weak_bit, link_table, no_fields, read_conditions, read_refusal, read_call}
use Rattle.table.specs.Trial.{try_from, trial_refusal, trial_call}
use Rattle.table.specs.Clear.{emptied, stops, repair_of, repaired, clear_conditions, cleared, clear_refusal, clear_call}
use Rattle.table.specs.Plan.{Plan, plan_of, plan_number, replan, with_target, plan_add, plan_link, pruned, plan_clear, plan_add_refusal, plan_link_refusal, plan_hold_tests, plan_clear_refusal, plan_clear_into_refusal, plan_read_refusal, plan_trial_refusal}
use Rattle.table.proofs.Places.{own_exit}
use Rattle.table.proofs.Links.{Wired, formed_wired, sound_wired}
use Rattle.table.proofs.Sound.{test_sound, sound_test}
use Rattle.table.proofs.Edits.{number_given_lem, sound_link, sound_add, formed_with_step, with_step_kept}
use Rattle.table.proofs.Clear.{reached_in_use, Cleared, emptied_used, emptied_steps, formed_emptied, cleared_stop, cleared_repair}
use Rattle.table.proofs.Plan.{plan_capacity, plan_used, plan_target_lem, plan_holds_lem, plan_count_lem, plan_charge_lem, plan_relink, plan_with_step, plan_pruned}

-- two orders with the same conditions, each asked for only where those before it do not hold
pub data Orders : List (Bool × ℕ) → List (Bool × ℕ) → Type 0 where
  done : Orders [] []
  next : {c c' : Bool} {n : ℕ} {xs ys : List (Bool × ℕ)} → c ≡ c' → (c ≡ false → Orders xs ys) → Orders ((c, n) ∷ xs) ((c', n) ∷ ys)

pub first_same : {xs ys : List (Bool × ℕ)} → Orders xs ys → first xs ≡ first ys
unfolding first
first_same done = refl
first_same (next {c} {c'} {n} {xs} {ys} q f) = go c c' q (λ z. first_same (f z))
  where
    go : (c c' : Bool) → c ≡ c' → (c ≡ false → first xs ≡ first ys) → cond c n (first xs) ≡ cond c' n (first ys)
    go true c' q g = rw (sym q)
    go false c' q g = rw (sym q) (g refl)

-- no refusal has the number 0
pub number_not_zero : (why : Refusal) → number why ≡ 0 → ⊥
number_not_zero NotSound z = omega arith
number_not_zero BadCapacity z = omega arith
number_not_zero NotInUse z = omega arith
number_not_zero BadExit z = omega arith
number_not_zero ExitFilled z = omega arith
number_not_zero ExitEmpty z = omega arith
number_not_zero BadKind z = omega arith
number_not_zero Full z = omega arith
number_not_zero NotKeyLine z = omega arith
number_not_zero BadResult z = omega arith
number_not_zero TooShort z = omega arith
number_not_zero NotAccepted z = omega arith
number_not_zero DoesNotFit z = omega arith
number_not_zero CabinAtLimit z = omega arith
number_not_zero StepsReserved z = omega arith
number_not_zero BadCabins z = omega arith
number_not_zero NeedsEdition2 z = omega arith
number_not_zero SlipNotAccepted z = omega arith
number_not_zero NoSuchCabin z = omega arith
number_not_zero NobodyWaits z = omega arith

-- a refusal that a `?` passes on is the one that was found
pub passed_on : {A : Type 0} (r : Result A Refusal) (why : Refusal) {n : ℕ} → IsErrAnd r (λ y. y ≡ why) → number why ≡ n → refused r ≡ n
passed_on r why h e = let p = err_from_is_err_and r h in rw (p.1, p.2) e

-- whether a refusal was found
pub none_found : {A : Type 0} (r : Result A Refusal) → is_err r ≡ false → refused r ≡ 0
none_found (Ok a) h = refl
none_found (Err why) h = clash refl h

pub one_found : {A : Type 0} (r : Result A Refusal) → is_err r ≡ true → refused r ≡ 0 → ⊥
one_found (Ok a) h z = clash h refl
one_found (Err why) h z = number_not_zero why z

-- no number of an order is 0
unfoldable pub nonzero : List (Bool × ℕ) → Bool
nonzero [] = true
nonzero (x ∷ xs) = not (eqb x.1 0) && nonzero xs

cond_zero : (c : Bool) (n r : ℕ) → not (eqb n 0) ≡ true → cond c n r ≡ 0 → (c ≡ false) × (r ≡ 0)
cond_zero true n r d q = absurd (eqb-false n 0 (not_true_false _ d) q)
cond_zero false n r d q = (refl, q)

-- an order of which no condition holds
pub data Passed : List (Bool × ℕ) → Type 0 where
  end : Passed []
  past : {c : Bool} {n : ℕ} {xs : List (Bool × ℕ)} → c ≡ false → Passed xs → Passed ((c, n) ∷ xs)

-- the next condition, and those after it
pub passed_next : {c : Bool} {n : ℕ} {xs : List (Bool × ℕ)} → Passed ((c, n) ∷ xs) → (c ≡ false) × Passed xs
passed_next (past q p) = (q, p)

-- where the refusal is 0, no condition holds
pub first_passed : (xs : List (Bool × ℕ)) → first xs ≡ 0 → nonzero xs ≡ true → Passed xs
unfolding first nonzero
first_passed [] z d = end
first_passed (x ∷ xs) z d =
    let here = cond_zero x.0 x.1 (first xs) (and_left (not (eqb x.1 0)) (nonzero xs) d) z in
    past here.0 (first_passed xs here.1 (and_right (not (eqb x.1 0)) (nonzero xs) d))

-- two orders, one after the other
pub first_append : (xs ys : List (Bool × ℕ)) → nonzero xs ≡ true → first (xs ++ ys) ≡ cond (eqb (first xs) 0) (first ys) (first xs)
unfolding first nonzero
first_append [] ys d = refl
first_append (x ∷ xs) ys d =
    turn x.0 (ne_eqb x.1 0 (eqb-false x.1 0 (not_true_false _ (and_left (not (eqb x.1 0)) (nonzero xs) d))))
    (first_append xs ys (and_right (not (eqb x.1 0)) (nonzero xs) d))
  where
    turn : (b : Bool) → eqb x.1 0 ≡ false → first (xs ++ ys) ≡ cond (eqb (first xs) 0) (first ys) (first xs) →
        cond b x.1 (first (xs ++ ys)) ≡ cond (eqb (cond b x.1 (first xs)) 0) (first ys) (cond b x.1 (first xs))
    turn true z r = rw z
    turn false z r = r

pub unless_zero : (n : ℕ) (t : Table) (o : Outcome) → n ≡ 0 → unless n t o ≡ o
unfolding unless
unless_zero n t o q = rw (eq-eqb n 0 q)

pub unless_refused : (n : ℕ) (t : Table) (o : Outcome) → (n ≡ 0 → ⊥) → unless n t o ≡ record { answer = Refused n; table = t }
unfolding unless
unless_refused n t o d = rw (ne_eqb n 0 d)

pub unless_answer : {n m : ℕ} (t u : Table) (o p : Outcome) → n ≡ m → o.answer ≡ p.answer → (unless n t o).answer ≡ (unless m u p).answer
unfolding unless
unless_answer {n} {m} t u o p q r =
    ⊎_elim (λ (z : eqb m 0 ≡ true). rw (q, z) r) (λ (z : eqb m 0 ≡ false). rw (q, z)) (test (eqb m 0))

-- the refusal that a call answers is the one that it was found to have
pub unless_refusal : (n : ℕ) (t : Table) (o : Outcome) → refusal_of o.answer ≡ 0 → refusal_of (unless n t o).answer ≡ n
unless_refusal n t o z =
    ⊎_elim (λ (q : n ≡ 0). ap (λ (x : Outcome). refusal_of x.answer) (unless_zero n t o q) ∙ z ∙ sym q)
    (λ d. ap (λ (x : Outcome). refusal_of x.answer) (unless_refused n t o d) ∙ (unfold refusal_of in refl))
    (eq_or_ne n 0)

-- the same of a call that lists steps in a lent buffer
module _ (n : ℕ) (a : Answer) (numbers buffer : List ℕ) where
  pub listing_made : n ≡ 0 → listing n a numbers buffer ≡ record { answer = a; buffer = numbers ++ drop (length numbers) buffer }
  unfolding listing
  listing_made z = rw (eq-eqb n 0 z)

  pub listing_refused : (n ≡ 0 → ⊥) → listing n a numbers buffer ≡ record { answer = Refused n; buffer = buffer }
  unfolding listing
  listing_refused d = rw (ne_eqb n 0 d)

  pub listing_refusal : refusal_of a ≡ 0 → refusal_of (listing n a numbers buffer).answer ≡ n
  listing_refusal z =
      ⊎_elim
      (λ (q : n ≡ 0). ap (λ (o : WriteOutcome). refusal_of o.answer) (listing_made q) ∙ z ∙ sym q)
      (λ d. ap (λ (o : WriteOutcome). refusal_of o.answer) (listing_refused d) ∙ (unfold refusal_of in refl))
      (eq_or_ne n 0)

-- a clearing that is not refused, and one that is
pub clear_made : (t : Table) (i e : ℕ) → clear_refusal t i e ≡ 0 → clear_call t i e ≡ cleared t i e
unfolding clear_call
clear_made t i e z = unless_zero _ t (cleared t i e) z

pub clear_refused : (t : Table) (i e : ℕ) → (clear_refusal t i e ≡ 0 → ⊥) → clear_call t i e ≡ record { answer = Refused (clear_refusal t i e); table = t }
unfolding clear_call
clear_refused t i e d = unless_refused _ t (cleared t i e) d

-- a clearing that is made gives its counts
pub cleared_given : (t : Table) (i e : ℕ) → refusal_of (cleared t i e).answer ≡ 0
unfolding repaired refusal_of
cleared_given t i e = ⊎_elim (λ (h : stops t i e ≡ true). rw h) (λ (h : stops t i e ≡ false). rw h) (test (stops t i e))

pub clear_refusal_given : (t : Table) (i e : ℕ) → refusal_of (clear_call t i e).answer ≡ clear_refusal t i e
unfolding clear_call
clear_refusal_given t i e = unless_refusal (clear_refusal t i e) t (cleared t i e) (cleared_given t i e)

-- a table that is not sound is refused before all else
pub unsound_refused : (t : Table) (xs : List (Bool × ℕ)) → (Sound t → ⊥) → first (table_tests t ++ xs) ≡ not_sound
unfolding first
unsound_refused t xs d = rw (refute (sound t) (λ h. d (test_sound t h)))

-- The conditions that calls share. Each law takes its own from the front of an order and hands on the rest.
pub table_fits : (t : Table) (xs : List (Bool × ℕ)) → Passed (table_tests t ++ xs) → Sound t × Passed xs
table_fits t xs (past s p) = (test_sound t (not_false_true _ s), p)

pub exit_fits_lem : (t : Table) (i e : ℕ) (xs : List (Bool × ℕ)) → Passed (exit_tests t i e ++ xs) → ((in_use t i ≡ true) × (e < exits)) × Passed xs
exit_fits_lem t i e xs (past u (past l p)) = ((not_false_true _ u, leb-false exits e l), p)

pub hold_fits : (t : Table) (i e : ℕ) (xs : List (Bool × ℕ)) → Passed (hold_tests t i e ++ xs) → HoldFits t i e × Passed xs
hold_fits t i e xs p =
    let exit = exit_fits_lem t i e _ p in
    let filled = passed_next exit.1 in
    (record { used = exit.0.0; exit = own_exit i e exit.0.1; filled = not_false_true _ filled.0 }, filled.1)

-- an exit that can be filled
pub record FillFits (t : Table) (i e : ℕ) : Type 0 where
  pub used : in_use t i ≡ true
  pub exit : e < exits_of i
  pub empty : holds t i e ≡ false

pub fill_fits : (t : Table) (i e : ℕ) (xs : List (Bool × ℕ)) → Passed (fill_tests t i e ++ xs) → FillFits t i e × Passed xs
fill_fits t i e xs p =
    let exit = exit_fits_lem t i e _ p in
    let empty = passed_next exit.1 in
    (record { used = exit.0.0; exit = own_exit i e exit.0.1; empty = empty.0 }, empty.1)

clear_passed : (t : Table) (i e : ℕ) → clear_refusal t i e ≡ 0 → Sound t × Passed (hold_tests t i e)
unfolding clear_refusal nonzero
clear_passed t i e z = table_fits t _ (first_passed (clear_conditions t i e) z refl)

pub clear_sound : (t : Table) (i e : ℕ) → clear_refusal t i e ≡ 0 → Sound t
clear_sound t i e z = (clear_passed t i e z).0

pub clear_fits : (t : Table) (i e : ℕ) → clear_refusal t i e ≡ 0 → HoldFits t i e
clear_fits t i e z = (hold_fits t i e [] (clear_passed t i e z).1).0

-- and the exit is one of the four
pub clear_exit : (t : Table) (i e : ℕ) → clear_refusal t i e ≡ 0 → e < exits
clear_exit t i e z = (exit_fits_lem t i e _ (clear_passed t i e z).1).0.1

pub read_fits : (t : Table) (i : ℕ) → read_refusal t i ≡ 0 → in_use t i ≡ true
unfolding read_refusal nonzero
read_fits t i z = not_false_true _ (passed_next (table_fits t _ (first_passed (read_conditions t i) z refl)).1).0

-- A clearing that needs room in a lent buffer: 11 after its refusals.
module _ (t : Table) (i e : ℕ) (short : Bool) where
  pub into_order : first (clear_conditions t i e ++ ((short, too_short) ∷ [])) ≡ cond (eqb (clear_refusal t i e) 0) (cond short too_short 0) (clear_refusal t i e)
  unfolding clear_refusal first
  into_order = first_append (clear_conditions t i e) ((short, too_short) ∷ []) (unfold nonzero in refl)

  pub into_accepted : first (clear_conditions t i e ++ ((short, too_short) ∷ [])) ≡ 0 → (clear_refusal t i e ≡ 0) × (short ≡ false)
  into_accepted z =
      ⊎_elim
      (λ (q : clear_refusal t i e ≡ 0).
      let n : cond short too_short 0 ≡ 0 = sym (into_order ∙ rw (eq-eqb (clear_refusal t i e) 0 q)) ∙ z in
      (q, room short n))
      (λ d. absurd (d (sym (into_order ∙ rw (ne_eqb (clear_refusal t i e) 0 d)) ∙ z)))
      (eq_or_ne (clear_refusal t i e) 0)
    where
      room : (b : Bool) → cond b too_short 0 ≡ 0 → b ≡ false
      room true n = absurd (omega arith)
      room false n = refl

-- a read or a trial that is refused, and a trial that is not
pub read_refused : (t : Table) (i : ℕ) → (read_refusal t i ≡ 0 → ⊥) → read_call t i ≡ record { refusal = read_refusal t i; fields = no_fields }
unfolding read_call
read_refused t i d = rw (ne_eqb (read_refusal t i) 0 d)

pub trial_refused : (t : Table) (limit : ℕ) (results trace : List ℕ) → (trial_refusal t limit results trace ≡ 0 → ⊥) →
    trial_call t limit results trace ≡ record { answer = TrialRefused (trial_refusal t limit results trace); trace = trace }
unfolding trial_call
trial_refused t limit results trace d = rw (ne_eqb (trial_refusal t limit results trace) 0 d)

pub trial_made : (t : Table) (limit : ℕ) (results trace : List ℕ) → trial_refusal t limit results trace ≡ 0 →
    trial_call t limit results trace ≡ try_from t 0 0 limit trace results
unfolding trial_call
trial_made t limit results trace z = rw (eq-eqb (trial_refusal t limit results trace) 0 z)

module _ {t : Table} (s : Sound t) where
  w : Wired t
  w = sound_wired s

  -- a sound table passes what every order begins with
  pub past_sound : (xs : List (Bool × ℕ)) → first (table_tests t ++ xs) ≡ first xs
  unfolding first
  past_sound xs = rw (sound_test t s)

  -- a clearing that nothing is in the way of, and one of a step that is not in use
  pub clear_accepted : (i e : ℕ) → in_use t i ≡ true → e < exits → holds t i e ≡ true → clear_refusal t i e ≡ 0
  unfolding clear_refusal first
  clear_accepted i e u l h = past_sound (hold_tests t i e) ∙ rw (u, lt-leb exits e l, h)

  pub clear_unused : (i e : ℕ) → in_use t i ≡ false → clear_refusal t i e ≡ not_in_use
  unfolding clear_refusal first
  clear_unused i e u = past_sound (hold_tests t i e) ∙ rw u

  pub add_refusal_lem : (holder e kind content cabin : ℕ) →
      add_refusal t holder e kind content cabin ≡ plan_add_refusal (plan_of t) holder e kind content cabin
  unfolding add_refusal plan_add_refusal free_steps plan_of
  add_refusal_lem holder e kind content cabin =
      past_sound _
      ∙ first_same
      (next refl
      (λ _. next (ap not (sym (plan_used w holder)))
      (λ _. next refl
      (λ l. next (sym (plan_holds_lem w holder e (own_exit holder e (leb-false exits e l))))
      (λ _. next refl
      (λ _. next (ap₂ eqb (sym (plan_count_lem w)) (sym (plan_capacity t)))
      (λ _. next (ap (λ (f : ℕ → ℕ). at_limit t.quotas f cabin) (sym (plan_charge_lem w)))
      (λ _. next (ap₂ (λ (f : ℕ → ℕ) (n : ℕ). none_to_spare t.quotas f (t.capacity - n) cabin) (sym (plan_charge_lem w)) (sym (plan_count_lem w)))
      (λ _. done)))))))))

  pub link_refusal_lem : (source e second f : ℕ) → link_refusal t source e second f ≡ plan_link_refusal (plan_of t) source e second f
  unfolding link_refusal plan_link_refusal
  link_refusal_lem source e second f =
      past_sound _
      ∙ first_same
      (next (ap not (sym (plan_used w source)))
      (λ _. next refl
      (λ l. next (ap not (sym (plan_holds_lem w source e (own_exit source e (leb-false exits e l)))))
      (λ _. next (ap not (sym (plan_used w second)))
      (λ _. next refl (λ x. next (sym (plan_holds_lem w second f (own_exit second f (leb-false exits f x)))) (λ _. done)))))))

  pub clear_refusal_lem : (i e : ℕ) → clear_refusal t i e ≡ plan_clear_refusal (plan_of t) i e
  unfolding clear_refusal plan_clear_refusal
  clear_refusal_lem i e =
      past_sound _
      ∙ first_same
      (next (ap not (sym (plan_used w i)))
      (λ _. next refl (λ l. next (ap not (sym (plan_holds_lem w i e (own_exit i e (leb-false exits e l))))) (λ _. done))))

  pub into_refusal : (i e : ℕ) (short : Bool) → first (clear_conditions t i e ++ ((short, too_short) ∷ [])) ≡ plan_clear_into_refusal (plan_of t) short i e
  unfolding plan_clear_refusal plan_clear_into_refusal first
  into_refusal i e short =
      into_order t i e short
      ∙ ap (λ (n : ℕ). cond (eqb n 0) (cond short too_short 0) n) (clear_refusal_lem i e)
      ∙ sym (first_append (plan_hold_tests (plan_of t) i e) ((short, too_short) ∷ []) (unfold nonzero in refl))

  pub read_refusal_lem : (i : ℕ) → read_refusal t i ≡ plan_read_refusal (plan_of t) i
  unfolding read_refusal plan_read_refusal
  read_refusal_lem i = past_sound _ ∙ first_same (next (ap not (sym (plan_used w i))) (λ _. done))

  pub trial_refusal_lem : (limit : ℕ) (results trace : List ℕ) → trial_refusal t limit results trace ≡ plan_trial_refusal limit results (length trace)
  unfolding trial_refusal plan_trial_refusal
  trial_refusal_lem limit results trace = past_sound _

-- the conditions of an accepted call
pub record AddFits (t : Table) (holder e kind content cabin : ℕ) : Type 0 where
  pub shared : cabin < cabin_count
  pub fill : FillFits t holder e
  pub fits : content_fits kind content ≡ true
  pub room : steps_in_use t ≡ t.capacity → ⊥
  pub limit : at_limit t.quotas (charge t) cabin ≡ false
  pub spare : none_to_spare t.quotas (charge t) (free_steps t) cabin ≡ false

pub record LinkFits (t : Table) (source e second f : ℕ) : Type 0 where
  pub hold : HoldFits t source e
  pub fill : FillFits t second f

pub add_fits : (t : Table) (holder e kind content cabin : ℕ) → add_refusal t holder e kind content cabin ≡ 0 → AddFits t holder e kind content cabin
unfolding add_refusal nonzero
add_fits t holder e kind content cabin z =
    let table = table_fits t _ (first_passed (add_conditions t holder e kind content cabin) z refl) in
    let shared = passed_next table.1 in
    let fill = fill_fits t holder e _ shared.1 in
    let fits = passed_next fill.1 in
    let room = passed_next fits.1 in
    let limit = passed_next room.1 in
    let spare = passed_next limit.1 in
    record {
      shared = leb-false cabin_count cabin shared.0;
      fill = fill.0;
      fits = not_false_true _ fits.0;
      room = eqb-false _ _ room.0;
      limit = limit.0;
      spare = spare.0;
    }

pub link_fits : (t : Table) (source e second f : ℕ) → link_refusal t source e second f ≡ 0 → LinkFits t source e second f
unfolding link_refusal nonzero
link_fits t source e second f z =
    let table = table_fits t _ (first_passed (link_conditions t source e second f) z refl) in
    let hold = hold_fits t source e _ table.1 in
    record { hold = hold.0; fill = (fill_fits t second f [] hold.1).0 }

module _ {t : Table} (s : Sound t) where
  pub number_plan : number_given t.capacity t.last (λ k. not (in_use t k)) ≡ plan_number (plan_of t)
  unfolding plan_number plan_of
  number_plan = number_ext t.capacity t.last _ _ (λ k. ap not (sym (plan_used (sound_wired s) k)))
    where
      number_ext : (n last : ℕ) (p q : ℕ → Bool) → ((k : ℕ) → p k ≡ q k) → number_given n last p ≡ number_given n last q
      number_ext n last p q h = unfold number_given in find_ext n _ _ p q h

  module _ (holder e kind content cabin : ℕ) (f : AddFits t holder e kind content cabin) where
    abbrev n : ℕ
    n = number_given t.capacity t.last (λ k. not (in_use t k))

    pub add_sound : Sound (add_table t holder e kind content cabin n)
    add_sound =
        let g = number_given_lem s f.room in
        sound_add t s holder e kind content cabin n f.fill.used f.fill.exit f.fill.empty f.fits f.shared f.limit f.spare g.2 g.1 g.0

    pub add_plan : plan_of (add_table t holder e kind content cabin n) ≡ plan_add (plan_of t) holder e kind content cabin
    unfolding add_table plan_add
    add_plan =
        let g = number_given_lem s f.room in
        let formed = formed_with_step t s.formed n kind content cabin g.2 g.1 g.0 f.fits f.shared in
        let kept = with_step_kept t s.formed n kind content cabin g.2 g.1 g.0 f.fits f.shared holder f.fill.used in
        plan_relink (with_step t n kind content cabin) formed holder e n 0 kept f.fill.exit
        ∙ ap (λ (p : Plan). with_target p holder e n) (plan_with_step t s.formed n kind content cabin g.2 g.1 g.0 f.fits f.shared)
        ∙ ap
        (λ (m : ℕ).
        with_target (replan (plan_of t) m (set (plan_of t).steps m (some (record { kind = kind; content = content; targets = replicate (exits_of m) 0; cabin = cabin })))) holder e m)
        number_plan

  module _ (source e second f : ℕ) (g : LinkFits t source e second f) where
    pub link_sound : Sound (link_table t source e second f)
    link_sound = sound_link t s source e second f g.hold.used g.hold.exit g.hold.filled g.fill.used g.fill.exit g.fill.empty

    pub link_plan : plan_of (link_table t source e second f) ≡ plan_link (plan_of t) source e second f
    unfolding link_table plan_link
    link_plan =
        plan_relink t s.formed second f (target_of t source e) (weak_bit t (target_of t source e)) g.fill.used g.fill.exit
        ∙ ap (with_target (plan_of t) second f) (sym (plan_target_lem (sound_wired s) source e g.hold.exit))

  module _ (i e : ℕ) (g : HoldFits t i e) where
    pub clear_cleared : (doubts : ℕ) × (freed : ℕ) × ((cleared t i e).answer ≡ Given doubts freed) × Cleared (emptied t i e) doubts freed (cleared t i e).table
    unfolding repaired repair_of
    clear_cleared =
        ⊎_elim
        (λ (h : stops t i e ≡ true). rw h (0, 0, refl, cleared_stop t s i e g.used g.exit g.filled h))
        (λ (h : stops t i e ≡ false). rw h (_, _, refl, cleared_repair t s i e g.used g.exit g.filled))
        (test (stops t i e))

    -- no step comes, and as many go as the answer says
    pub clear_still : (k : ℕ) → in_use (cleared t i e).table k ≡ true → in_use t k ≡ true
    clear_still k y =
        let f = formed_emptied t s i e g.used g.exit g.filled in
        sym (emptied_used t i e k) ∙ reached_in_use (formed_wired f) f.alarm k (sym (clear_cleared.3.used k) ∙ y)

    pub clear_fall : steps_in_use (cleared t i e).table + second_of (cleared t i e).answer ≡ steps_in_use t
    clear_fall =
        let second : second_of (cleared t i e).answer ≡ clear_cleared.1 = ap second_of clear_cleared.2 ∙ (unfold second_of in refl) in
        ap (λ (n : ℕ). steps_in_use (cleared t i e).table + n) second ∙ clear_cleared.3.fall ∙ emptied_steps t i e

    pub clear_plan : plan_of (cleared t i e).table ≡ plan_clear (plan_of t) i e
    unfolding plan_clear
    clear_plan =
        let c = clear_cleared.3 in
        let formed = formed_emptied t s i e g.used g.exit g.filled in
        plan_pruned (emptied t i e) (cleared t i e).table (formed_wired formed) c.capacity c.last c.used
        (λ k y. emptied_used t i e k ∙ clear_still k y)
        c.kind
        c.content
        c.target
        c.cabin
        c.quotas
        ∙ ap pruned (unfold emptied in plan_relink t s.formed i e 0 0 g.used g.exit)
