-- A slip taken back: the old records of a slip, put in place, give the table from before; and what an accepted slip is. Assumes nothing.
--   before_back         the table that a slip was made of is rebuilt from the one that it led to
--   rebuilt_plan        the plan of the rebuilt table
--   Led t u, cleared_led   what a clearing leads from and to
--   Taken t bs          what an accepted slip says; accepted_taken taken_accepted not_taken, all ways of the conditions
--   regret              taking back right after the clearing
use mathlib.Core.Path.{◌≡◌, refl, sym, ◌∙◌, ap, subst}
use mathlib.Core.Bool.{Bool, true, false, ◌&&◌, not, cond}
use mathlib.Core.Logic.{⊎_elim}
use mathlib.Core.List.{List, ◌++◌}
use Prim.Native.Nat.{ℕ, zero, suc, ◌+◌, ◌≤◌, ◌<◌}
use native.Mathlib.Omega.{arith}
use lib.ListN.{length, drop}
use lib.Dec.{eqb, ltb}
use borrow.Author.Tests.{eqb-true, eq-eqb, ne_eqb, ltb-false, lt-ltb, le-ltb}
use Rattle.finite.specs.Below.{one, count, rounds}
use Rattle.finite.proofs.Bools.{and_intro, and_left, and_right, clash, refute, test, not_false_true}
use Rattle.finite.proofs.Below.{le_or_lt, below_suc}
use Rattle.finite.proofs.Select.{same_true, same_lists}
use Rattle.table.specs.Said.{Refused, Given}
use Rattle.table.specs.Table.{Table, places, in_use, kind_of, content_of, cabin_of, target_of, steps_in_use, same_table, with_links, with_steps}
use Rattle.table.specs.Sound.{Shape, Sound, sound}
use Rattle.table.specs.Answer.{Outcome, too_short, slip_not_accepted, first, refusal_of, second_of, unless}
use Rattle.table.specs.Calls.{relink}
use Rattle.table.specs.Clear.{emptied, cleared, clear_refusal}
use Rattle.table.specs.Plan.{Plan, plan_of, plan_step}
use Rattle.table.proofs.Links.{formed_wired}
use Rattle.table.proofs.Sound.{test_sound, sound_test}
use Rattle.table.proofs.Clear.{reached_in_use, emptied_used, emptied_steps, formed_emptied}
use Rattle.table.proofs.Calls.{nonzero, passed_next, first_passed, table_fits, unless_zero, unless_refusal, clear_made, cleared_given, clear_refusal_given, clear_fits, clear_cleared, into_order, into_accepted}
use Rattle.table.proofs.Same.{table_same, same_table_lem}
use Rattle.image.specs.Image.{edition2, step_fields_of, with_record, counted}
use Rattle.image.specs.Slip.{changed, slip, slip_length, clear_slip_refusal, clear_slip_call, slip_step, slip_exit, slip_count, old_place, fields_at, present, rebuilt, cleared_again, retraced, take_back_conditions, take_back_refusal, take_back_call, plan_record, plan_taken_back}
use Rattle.image.proofs.Slips.{slip_step_lem, slip_exit_lem, slip_count_lem, slip_old, slip_present}
use Rattle.image.proofs.Placed.{SameStep, step_refl, step_trans, blank_same, step_fields, record_shape, record_there, record_other, record_plan, fields_same, gathered_equal}

-- what a record that is put in leaves alone
record_numbers : (w : Table) (fields : List ℕ) →
    ((with_record w fields).capacity ≡ w.capacity) × ((with_record w fields).last ≡ w.last) × ((with_record w fields).quotas ≡ w.quotas)
unfolding with_record with_links with_steps
record_numbers w fields = (refl, refl, refl)

pub unchanged_fields : (t u : Table) (j : ℕ) → changed t u j ≡ false → step_fields_of edition2 t j ≡ step_fields_of edition2 u j
unfolding changed
unchanged_fields t u j c = same_true _ _ (⊎_elim (λ x. x) (λ x. clash (ap not x) c) (test _))

-- Two sound tables of one capacity, last number and quotas; what is free in the first is free in the second.
pub record Led (t u : Table) : Type 0 where
  pub from : Sound t
  pub to : Sound u
  pub capacity : u.capacity ≡ t.capacity
  pub last : u.last ≡ t.last
  pub quotas : u.quotas ≡ t.quotas
  pub free : (j : ℕ) → in_use t j ≡ false → in_use u j ≡ false

module _ (i e : ℕ) (t u : Table) (d : Led t u) where
  abbrev s : Sound t
  s = d.from

  abbrev bs : List ℕ
  bs = slip i e t u

  abbrev put : ℕ → Table → Table
  put k w = with_record w (fields_at bs (old_place k))

  -- a step that changed was in use
  pub changed_used : (j : ℕ) → j < places → changed t u j ≡ true → in_use t j ≡ true
  unfolding changed
  changed_used j l c =
      ⊎_elim (λ x. x)
      (λ x. clash c (ap not (same_lists (step_fields (blank_same (s.formed.free j l x) (d.to.formed.free j l (d.free j x)))))))
      (test (in_use t j))

  -- the records of the changed steps below m are in place
  record Mixed (m : ℕ) (w : Table) : Type 0 where
    shape : Shape w
    capacity : w.capacity ≡ t.capacity
    last : w.last ≡ t.last
    quotas : w.quotas ≡ t.quotas
    old : (j : ℕ) → j < m → SameStep w t j
    new : (j : ℕ) → m ≤ j → SameStep w u j

  more : (m : ℕ) → m < t.capacity → (w : Table) → Mixed m w → changed t u m ≡ true → Mixed (suc m) (with_record w (step_fields_of edition2 t m))
  unfolding step_fields_of
  more m l w x c =
      let low : m < places = let z = s.formed.most in omega arith in
      let fields = step_fields_of edition2 t m in
      let q = record_numbers w fields in
      record {
        shape = record_shape w fields x.shape;
        capacity = q.0 ∙ x.capacity;
        last = q.1 ∙ x.last;
        quotas = q.2 ∙ x.quotas;
        old =
            λ j h.
            ⊎_elim
            (λ (z : j ≡ m). subst (λ (k : ℕ). SameStep (with_record w fields) t k) (sym z) (record_there t s w x.shape m (changed_used m low c) low))
            (λ y. step_trans (record_other w fields j (λ z. omega arith)) (x.old j y))
            (below_suc h);
        new = λ j h. step_trans (record_other w fields j (λ z. omega arith)) (x.new j (omega arith));
      }

  none_more : (m : ℕ) → m < t.capacity → (w : Table) → Mixed m w → changed t u m ≡ false → Mixed (suc m) w
  none_more m l w x c =
      let low : m < places = let z = s.formed.most in omega arith in
      record {
        shape = x.shape;
        capacity = x.capacity;
        last = x.last;
        quotas = x.quotas;
        old =
            λ j h.
            ⊎_elim
            (λ (z : j ≡ m).
            subst (λ (k : ℕ). SameStep w t k) (sym z)
            (step_trans (x.new m (omega arith)) (fields_same u t d.to s m low (sym (unchanged_fields t u m c)))))
            (λ y. x.old j y)
            (below_suc h);
        new = λ j h. x.new j (omega arith);
      }

  mixed : (m : ℕ) → m ≤ t.capacity → Mixed m (rounds (count m (changed t u)) put u)
  unfolding rounds count
  mixed zero l =
      record {
        shape = d.to.formed.shape;
        capacity = d.capacity;
        last = d.last;
        quotas = d.quotas;
        old = λ j h. absurd (omega arith);
        new = λ j h. step_refl u j;
      }
  mixed (suc m) l =
      let k = count m (changed t u) in
      let x = mixed m (omega arith) in
      ⊎_elim
      (λ (c : changed t u m ≡ true).
      let n : k + one (changed t u m) ≡ suc k = rw c (omega arith) in
      let y = more m l (rounds k put u) x c in
      let z : with_record (rounds k put u) (step_fields_of edition2 t m) ≡ put k (rounds k put u) =
      ap (with_record (rounds k put u)) (sym (slip_old i e t u m l c)) in
      subst (λ (a : ℕ). Mixed (suc m) (rounds a put u)) (sym n) (subst (Mixed (suc m)) z y))
      (λ (c : changed t u m ≡ false).
      let n : k + one (changed t u m) ≡ k = rw c (omega arith) in
      subst (λ (a : ℕ). Mixed (suc m) (rounds a put u)) (sym n) (none_more m l (rounds k put u) x c))
      (test (changed t u m))

  -- "where no call changed the table since the clearing, it is the table from before it"
  pub before_back : rebuilt u (slip i e t u) ≡ t
  unfolding rebuilt
  before_back =
      let x = mixed t.capacity (omega arith) in
      let n = slip_count_lem i e t u in
      let w = rounds (count t.capacity (changed t u)) put u in
      ap (λ (a : ℕ). counted (rounds a put u)) n
      ∙ gathered_equal w t s
      (record {
        shape = x.shape;
        capacity = x.capacity;
        last = x.last;
        quotas = x.quotas;
        steps =
            λ j l.
            ⊎_elim
            (λ (h : t.capacity ≤ j).
            step_trans (x.new j h)
            (blank_same (d.to.formed.free j l (d.to.formed.above j (rw d.capacity h) l)) (s.formed.free j l (s.formed.above j h l))))
            (λ h. x.old j h)
            (le_or_lt t.capacity j);
      })

-- the plan of the rebuilt table is the one with the old records in it
module _ (t : Table) (h : Shape t) (m : t.capacity ≤ places) (bs : List ℕ) where
  abbrev after : ℕ → Table
  after n = rounds n (λ k w. with_record w (fields_at bs (old_place k))) t

  record Drawn (n : ℕ) : Type 0 where
    shape : Shape (after n)
    capacity : (after n).capacity ≡ t.capacity
    plan : plan_of (after n) ≡ rounds n (λ k q. plan_record q (fields_at bs (old_place k))) (plan_of t)

  drawn : (n : ℕ) → Drawn n
  unfolding rounds
  drawn zero = record { shape = h; capacity = refl; plan = refl }
  drawn (suc n) =
      let x = drawn n in
      let fields = fields_at bs (old_place n) in
      record {
        shape = record_shape (after n) fields x.shape;
        capacity = (record_numbers (after n) fields).0 ∙ x.capacity;
        plan = record_plan (after n) fields x.shape (rw x.capacity m) ∙ ap (λ (q : Plan). plan_record q fields) x.plan;
      }

  plan_counted : (w : Table) → plan_of (counted w) ≡ plan_of w
  unfolding counted with_links plan_of plan_step in_use kind_of content_of cabin_of target_of
  plan_counted w = refl

  pub rebuilt_plan : plan_of (rebuilt t bs) ≡ plan_taken_back (plan_of t) bs
  unfolding rebuilt plan_taken_back
  rebuilt_plan = plan_counted (after (slip_count bs)) ∙ (drawn (slip_count bs)).plan

-- A clearing leads from a sound table to a sound one.
pub cleared_led : {t : Table} → Sound t → (i e : ℕ) → clear_refusal t i e ≡ 0 → Led t (cleared t i e).table
cleared_led {t} s i e z =
    let g = clear_fits t i e z in
    let c = (clear_cleared s i e g).3 in
    let f = formed_emptied t s i e g.used g.exit g.filled in
    record {
      from = s;
      to = c.sound;
      capacity = c.capacity ∙ emptied_numbers.0;
      last = c.last ∙ emptied_numbers.1;
      quotas = c.quotas ∙ emptied_numbers.2;
      free =
          λ j x.
          refute _
          (λ y. clash (sym (emptied_used t i e j) ∙ reached_in_use (formed_wired f) f.alarm j (sym (c.used j) ∙ y)) x);
    }
  where
    emptied_numbers : ((emptied t i e).capacity ≡ t.capacity) × ((emptied t i e).last ≡ t.last) × ((emptied t i e).quotas ≡ t.quotas)
    emptied_numbers = unfold emptied relink with_links in (refl, refl, refl)

-- What an accepted slip says of the present table t.
pub record Taken (t : Table) (bs : List ℕ) : Type 0 where
  pub sound : Sound (rebuilt t bs)
  pub fits : clear_refusal (rebuilt t bs) (slip_step bs) (slip_exit bs) ≡ 0
  pub table : (cleared (rebuilt t bs) (slip_step bs) (slip_exit bs)).table ≡ t
  pub same : slip (slip_step bs) (slip_exit bs) (rebuilt t bs) t ≡ bs

module _ (t : Table) (bs : List ℕ) where
  abbrev u : Table
  u = rebuilt t bs

  abbrev step : ℕ
  step = slip_step bs

  abbrev exit : ℕ
  exit = slip_exit bs

  pub again_made : clear_refusal u step exit ≡ 0 → cleared_again t bs ≡ cleared u step exit
  unfolding cleared_again
  again_made = clear_made u step exit

  again_fits : eqb (refusal_of (cleared_again t bs).answer) 0 ≡ true → clear_refusal u step exit ≡ 0
  unfolding cleared_again
  again_fits x = sym (clear_refusal_given u step exit) ∙ eqb-true _ _ x

  pub accepted_taken : take_back_refusal t bs ≡ 0 → Taken t bs
  unfolding take_back_refusal retraced nonzero
  accepted_taken z =
      let found = passed_next (table_fits t _ (first_passed (take_back_conditions t bs) z refl)).1 in
      let sound = passed_next found.1 in
      let r = not_false_true _ (passed_next sound.1).0 in
      let both = and_left (eqb (refusal_of (cleared_again t bs).answer) 0 && same_table (cleared_again t bs).table t) _ r in
      let fits = again_fits (and_left (eqb (refusal_of (cleared_again t bs).answer) 0) _ both) in
      let o = ap (λ (o : Outcome). o.table) (again_made fits) in
      let q : (cleared u step exit).table ≡ t =
      sym o ∙ table_same (cleared_again t bs).table t (and_right (eqb (refusal_of (cleared_again t bs).answer) 0) _ both) in
      record {
        sound = test_sound u (not_false_true _ sound.0);
        fits = fits;
        table = q;
        same =
            ap (slip step exit u) (sym (o ∙ q))
            ∙ same_true _ bs (and_right (eqb (refusal_of (cleared_again t bs).answer) 0 && same_table (cleared_again t bs).table t) _ r);
      }

  module _ (s : Sound t) where
    retraced_taken : Taken t bs → retraced t bs ≡ true
    unfolding retraced
    retraced_taken x =
        let o = again_made x.fits in
        let a = ap (λ (o : Outcome). refusal_of o.answer) o ∙ cleared_given u step exit in
        let b = ap (λ (o : Outcome). o.table) o ∙ x.table in
        and_intro (and_intro (eq-eqb _ 0 a) (same_table_lem b)) (same_lists (ap (slip step exit u) b ∙ x.same))

    pub taken_accepted : Taken t bs → take_back_refusal t bs ≡ 0
    unfolding take_back_refusal first
    taken_accepted x =
        let p : present t bs ≡ true = ap (present t) (sym x.same) ∙ slip_present step exit u t in
        rw (sound_test t s, p, sound_test u x.sound, retraced_taken x)

    -- "18 for a slip not accepted"
    pub not_taken : (Taken t bs → ⊥) → take_back_refusal t bs ≡ slip_not_accepted
    not_taken d = other (present t bs) (sound u) (retraced t bs) refl refl refl
      where
        other : (a b c : Bool) → present t bs ≡ a → sound u ≡ b → retraced t bs ≡ c → take_back_refusal t bs ≡ slip_not_accepted
        other false b c x y z = unfold take_back_refusal first in rw (sound_test t s, x)
        other true false c x y z = unfold take_back_refusal first in rw (sound_test t s, x, y)
        other true true false x y z = unfold take_back_refusal first in rw (sound_test t s, x, y, z)
        other true true true x y z = absurd (d (accepted_taken (unfold take_back_refusal first in rw (sound_test t s, x, y, z))))

-- "where no call changed the table since the clearing, it is the table from before it"
module _ {t : Table} (s : Sound t) (i e : ℕ) (z : clear_refusal t i e ≡ 0) where
  abbrev v : Table
  v = (cleared t i e).table

  abbrev cs : List ℕ
  cs = slip i e t v

  back : rebuilt v cs ≡ t
  back = before_back i e t v (cleared_led s i e z)

  named : (P : Table → ℕ → ℕ → Type 0) → P t i e → P (rebuilt v cs) (slip_step cs) (slip_exit cs)
  named P p =
      subst (λ (w : Table). P w (slip_step cs) (slip_exit cs)) (sym back)
      (subst (λ (k : ℕ). P t k (slip_exit cs)) (sym (slip_step_lem i e t v)) (subst (P t i) (sym (slip_exit_lem i e t v)) p))

  pub own_taken : Taken v cs
  own_taken =
      record {
        sound = subst Sound (sym back) s;
        fits = named (λ w k f. clear_refusal w k f ≡ 0) z;
        table = named (λ w k f. (cleared w k f).table ≡ v) refl;
        same = named (λ w k f. slip k f w v ≡ cs) refl;
      }

  pub regret : take_back_call v cs ≡ record { answer = Given (second_of (cleared t i e).answer) 0; table = t }
  unfolding take_back_call
  regret =
      unless_zero _ v _ (taken_accepted v cs (cleared_led s i e z).to own_taken)
      ∙ (λ k. record { answer = Given (again k) 0; table = back k })
    where
      again : second_of (cleared_again v cs).answer ≡ second_of (cleared t i e).answer
      again =
          ap (λ (o : Outcome). second_of o.answer) (again_made v cs own_taken.fits)
          ∙ named (λ w k f. second_of (cleared w k f).answer ≡ second_of (cleared t i e).answer) refl

-- A clearing that is to write a slip: refused as the clearing is, refused for the room, or made.
module _ (t : Table) (i e : ℕ) (buffer : List ℕ) where
  order : clear_slip_refusal t i e (length buffer) ≡ cond (eqb (clear_refusal t i e) 0) (cond (ltb (length buffer) (slip_length t i e)) too_short 0) (clear_refusal t i e)
  unfolding clear_slip_refusal
  order = into_order t i e (ltb (length buffer) (slip_length t i e))

  refused_as : (n : ℕ) → (n ≡ 0 → ⊥) → clear_slip_refusal t i e (length buffer) ≡ n → clear_slip_call t i e buffer ≡ record { answer = Refused n; table = t; buffer = buffer }
  unfolding clear_slip_call
  refused_as n d q = rw (q, ne_eqb n 0 d)

  pub slip_refused : (clear_refusal t i e ≡ 0 → ⊥) → clear_slip_call t i e buffer ≡ record { answer = Refused (clear_refusal t i e); table = t; buffer = buffer }
  slip_refused d = refused_as (clear_refusal t i e) d (order ∙ rw (ne_eqb (clear_refusal t i e) 0 d))

  pub slip_short : clear_refusal t i e ≡ 0 → length buffer < slip_length t i e → clear_slip_call t i e buffer ≡ record { answer = Refused too_short; table = t; buffer = buffer }
  slip_short z l = refused_as too_short (λ q. omega arith) (order ∙ rw (eq-eqb (clear_refusal t i e) 0 z, lt-ltb (length buffer) (slip_length t i e) l))

  pub slip_fits : clear_refusal t i e ≡ 0 → slip_length t i e ≤ length buffer → clear_slip_refusal t i e (length buffer) ≡ 0
  slip_fits z l = order ∙ rw (eq-eqb (clear_refusal t i e) 0 z, le-ltb (length buffer) (slip_length t i e) l)

  pub slip_made : clear_slip_refusal t i e (length buffer) ≡ 0 →
      clear_slip_call t i e buffer ≡
      record {
        answer = (cleared t i e).answer;
        table = (cleared t i e).table;
        buffer = slip i e t (cleared t i e).table ++ drop (slip_length t i e) buffer;
      }
  unfolding clear_slip_call
  slip_made z = rw (eq-eqb (clear_slip_refusal t i e (length buffer)) 0 z)

  -- what its acceptance says
  pub slip_cleared : clear_slip_refusal t i e (length buffer) ≡ 0 → (clear_refusal t i e ≡ 0) × (slip_length t i e ≤ length buffer)
  unfolding clear_slip_refusal
  slip_cleared z = let r = into_accepted t i e (ltb (length buffer) (slip_length t i e)) z in (r.0, ltb-false _ _ r.1)

  -- the answer and the table by themselves, and the refusal
  pub slip_outcome : record { answer = (clear_slip_call t i e buffer).answer; table = (clear_slip_call t i e buffer).table } ≡
      unless (clear_slip_refusal t i e (length buffer)) t (cleared t i e)
  unfolding clear_slip_call unless
  slip_outcome =
      ⊎_elim
      (λ (h : eqb (clear_slip_refusal t i e (length buffer)) 0 ≡ true). rw h)
      (λ (h : eqb (clear_slip_refusal t i e (length buffer)) 0 ≡ false). rw h)
      (test (eqb (clear_slip_refusal t i e (length buffer)) 0))

  pub slip_refusal_given : refusal_of (clear_slip_call t i e buffer).answer ≡ clear_slip_refusal t i e (length buffer)
  slip_refusal_given =
      ap (λ (o : Outcome). refusal_of o.answer) slip_outcome ∙ unless_refusal (clear_slip_refusal t i e (length buffer)) t (cleared t i e) (cleared_given t i e)

  -- what a refused call leaves
  pub slip_refused_as : (clear_slip_refusal t i e (length buffer) ≡ 0 → ⊥) →
      clear_slip_call t i e buffer ≡ record { answer = Refused (clear_slip_refusal t i e (length buffer)); table = t; buffer = buffer }
  slip_refused_as d = refused_as (clear_slip_refusal t i e (length buffer)) d refl

-- what an accepted slip brings back
pub taken_rise : (t : Table) (bs : List ℕ) → Taken t bs → steps_in_use t + second_of (cleared_again t bs).answer ≡ steps_in_use (rebuilt t bs)
taken_rise t bs x =
    let r = clear_cleared x.sound (slip_step bs) (slip_exit bs) (clear_fits _ _ _ x.fits) in
    let freed : second_of (cleared_again t bs).answer ≡ r.1 =
    ap (λ (o : Outcome). second_of o.answer) (again_made t bs x.fits) ∙ ap second_of r.2 ∙ (unfold second_of in refl) in
    let fall = r.3.fall in
    let same = emptied_steps (rebuilt t bs) (slip_step bs) (slip_exit bs) in
    let present = ap steps_in_use x.table in
    omega arith

pub back_refusal_given : (t : Table) (bs : List ℕ) → refusal_of (take_back_call t bs).answer ≡ take_back_refusal t bs
unfolding take_back_call
back_refusal_given t bs = unless_refusal (take_back_refusal t bs) t _ (unfold refusal_of in refl)
