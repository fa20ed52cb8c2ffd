-- Clearings with a slip and take-backs (document 02, W7): what they do on a sound table, and what the plan is told of a call. Assumes nothing.
use mathlib.Core.Path.{◌≡◌, refl, sym, ◌∙◌, ap, ap₂}
use mathlib.Core.Bool.{true, false, not}
use mathlib.Core.Logic.{⊎_elim}
use mathlib.Core.List.{List, [], ◌∷◌, ◌++◌}
use Prim.Native.Nat.{ℕ, ◌+◌, ◌*◌, ◌≤◌, ◌<◌}
use native.Mathlib.Omega.{arith}
use lib.ListN.{length, take, drop, length-append, length-drop}
use lib.Seq.{take_at, drop_at}
use borrow.Author.Tests.{eqb-true, eq-eqb}
use Rattle.finite.specs.Below.{count}
use Rattle.finite.proofs.Bools.{clash, test}
use Rattle.finite.proofs.Below.{count_le}
use Rattle.finite.proofs.Select.{same_lists}
use Rattle.table.specs.Table.{Table, in_use}
use Rattle.table.specs.Sound.{Sound}
use Rattle.table.specs.Answer.{Outcome, second_of}
use Rattle.table.specs.Clear.{cleared, clear_refusal}
use Rattle.table.proofs.Calls.{unless_zero, clear_made, clear_sound}
use Rattle.image.specs.Image.{edition2, step_kind_of, record_size, record_bytes}
use Rattle.image.specs.Slip.{record_in, changed, slip, slip_length, SlipOutcome, clear_slip_refusal, clear_slip_call, slip_step, slip_exit, slip_count, rebuilt, cleared_again, take_back_refusal, take_back_call}
use Rattle.image.proofs.Slips.{record_fields_lem, slip_length_lem, slip_head, slip_pair}
use Rattle.image.proofs.Placed.{blank_record}
use Rattle.image.proofs.TakenBack.{unchanged_fields, Led, cleared_led, changed_used, slip_cleared, slip_made, slip_fits, regret, Taken, accepted_taken, taken_rise, rebuilt_plan}
use Rattle.history.specs.History.{Call, add, link, clear, read, trial, write, key_line, squeeze, clear_slip, take_back, preview, rung, row, run, is_told, with_told}
use Rattle.history.specs.Demands.{Told, got11, got18, ToldDemand, SlipDemand, TakeBackDemand}

-- a clearing with a slip and a take-back tell their number, the other calls nothing
told_call : (t : Table) (c : Call) → is_told t c ≡ true → Told t c
unfolding is_told row
told_call t (add holder e kind content cabin) h = clash h refl
told_call t (link source e second f) h = clash h refl
told_call t (clear i e) h = clash h refl
told_call t (read i) h = clash h refl
told_call t (trial limit results trace) h = clash h refl
told_call t (write buffer) h = clash h refl
told_call t (key_line bs) h = clash h refl
told_call t (squeeze c q) h = clash h refl
told_call t (clear_slip i e buffer) h = got11 (eqb-true _ _ h)
told_call t (take_back bs) h = got18 (eqb-true _ _ h)
told_call t (preview i e buffer) h = clash h refl
told_call t (rung buffer) h = clash h refl

call_told : (t : Table) (c : Call) → Told t c → is_told t c ≡ true
unfolding is_told row
call_told t c (got11 q) = eq-eqb _ _ q
call_told t c (got18 q) = eq-eqb _ _ q

pub told_demand : (t : Table) (cs : List Call) → ToldDemand t cs (with_told t cs)
unfolding with_told
told_demand t [] = tt
told_demand t (c ∷ cs) = (refl, (told_call t c, call_told t c), told_demand (run t c).table cs)

-- a clearing that writes its slip
module _ (t : Table) (i e : ℕ) (buffer : List ℕ) (z : clear_slip_refusal t i e (length buffer) ≡ 0) where
  abbrev v : Table
  v = (cleared t i e).table

  abbrev n : ℕ
  n = slip_length t i e

  abbrev bs : List ℕ
  bs = slip i e t v

  abbrev out : List ℕ
  out = bs ++ drop n buffer

  accepted : clear_refusal t i e ≡ 0
  accepted = (slip_cleared t i e buffer z).0

  led : Led t v
  led = cleared_led (clear_sound t i e accepted) i e accepted

  long : length bs ≡ n
  unfolding slip_length
  long = slip_length_lem i e t v

  written : take n out ≡ bs
  written = take_at bs (drop n buffer) n long

  size : length out ≡ length buffer
  size =
      length-append bs (drop n buffer)
      ∙ (let l = long in let d = length-drop n buffer in let r = (slip_cleared t i e buffer z).1 in omega arith)

  fields : n ≡ 6 + 44 * slip_count out
  unfolding slip_length record_size
  fields = let c = (slip_head i e t v (drop n buffer)).2 in omega arith

  most : n ≤ 5638
  unfolding slip_length record_size
  most = let c = count_le t.capacity (changed t v) in let m = (clear_sound t i e accepted).formed.most in omega arith

  unchanged : (k : ℕ) → record_in t k ≡ record_in v k → changed t v k ≡ false
  unfolding changed
  unchanged k q = ap not (same_lists (record_fields_lem t v k q))

  same_record : (k : ℕ) → changed t v k ≡ false → record_in t k ≡ record_in v k
  unfolding record_in
  same_record k h = ap (record_bytes (step_kind_of edition2)) (unchanged_fields t v k h)

  differs : (k : ℕ) → (record_in t k ≡ record_in v k → ⊥) → changed t v k ≡ true
  differs k d = ⊎_elim (λ h. h) (λ h. absurd (d (same_record k h))) (test (changed t v k))

  pairs : (k : ℕ) → k < t.capacity → changed t v k ≡ true → take 44 (drop (6 + 44 * count k (changed t v)) out) ≡ record_in t k ++ record_in v k
  unfolding record_size
  pairs = slip_pair i e t v (drop n buffer)

  pub slip_demand : SlipDemand t i e buffer (clear_slip_call t i e buffer)
  slip_demand =
      let made = clear_made t i e accepted in
      rw (slip_made t i e buffer z)
      (record {
        answer = sym (ap (λ (o : Outcome). o.answer) made);
        table = sym (ap (λ (o : Outcome). o.table) made);
        written = written;
        only = λ k. ((λ c q. clash c (unchanged k q)), differs k);
        pair = pairs;
        past = drop_at bs (drop n buffer) n long;
        size = size;
        step = (slip_head i e t v (drop n buffer)).0;
        exit = (slip_head i e t v (drop n buffer)).1;
        long = fields;
        most = most;
        zeros = λ k l f. blank_record (led.to.formed.free k l f);
        used = λ k l c. changed_used i e t v led k l c;
        regret = λ cs q. ap₂ take_back_call q written ∙ regret (clear_sound t i e accepted) i e accepted;
      })

-- a slip that is taken back
module _ (t : Table) (s : Sound t) (bs : List ℕ) (z : take_back_refusal t bs ≡ 0) where
  abbrev u : Table
  u = rebuilt t bs

  abbrev step : ℕ
  step = slip_step bs

  abbrev exit : ℕ
  exit = slip_exit bs

  x : Taken t bs
  x = accepted_taken t bs z

  led_back : Led u (cleared u step exit).table
  led_back = cleared_led x.sound step exit x.fits

  same : slip step exit u (cleared u step exit).table ≡ bs
  same = ap (slip step exit u) x.table ∙ x.same

  length_back : slip_length u step exit ≡ length bs
  unfolding slip_length
  length_back = sym (slip_length_lem step exit u (cleared u step exit).table) ∙ ap length same

  made_again : (buffer : List ℕ) → length bs ≤ length buffer →
      clear_slip_call u step exit buffer ≡
      record {
        answer = (cleared u step exit).answer;
        table = (cleared u step exit).table;
        buffer = slip step exit u (cleared u step exit).table ++ drop (slip_length u step exit) buffer;
      }
  made_again buffer l = slip_made u step exit buffer (slip_fits u step exit buffer x.fits (rw length_back l))

  pub take_back_demand : TakeBackDemand t bs (take_back_call t bs)
  unfolding take_back_call
  take_back_demand =
      rw (unless_zero _ t _ z)
      (record {
        sound = x.sound;
        plan = rebuilt_plan t s.formed.shape s.formed.most bs;
        again = λ buffer l. ap (λ (o : SlipOutcome). o.table) (made_again buffer l) ∙ x.table;
        slip = λ buffer l.
            ap (λ (o : SlipOutcome). take (length bs) o.buffer) (made_again buffer l)
            ∙ ap (λ (cs : List ℕ). take (length bs) (cs ++ drop (slip_length u step exit) buffer)) same
            ∙ take_at bs (drop (slip_length u step exit) buffer) (length bs) refl;
        kept = λ k y. ⊎_elim (λ h. h) (λ h. clash y (sym (ap (λ (w : Table). in_use w k) x.table) ∙ led_back.free k h)) (test (in_use u k));
        back = second_of (cleared_again t bs).answer;
        answer = refl;
        rise = taken_rise t bs x;
        last = sym led_back.last ∙ ap (λ (w : Table). w.last) x.table;
      })
