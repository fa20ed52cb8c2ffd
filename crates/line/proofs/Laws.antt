-- The calls on a dispatcher: when each is refused, and what it does where it is not. Assumes nothing.
--   line_done line_refused   what a call comes to
--   line_demand_1 line_refusals   each is refused as its conditions say; and so with the numbers written out
--   turned met      the cabins in the order in which they are looked at
--   next_known next_waits next_nearest   the cabin that is served next: it is one, it waits, and none before it does
--   raise_demand withdraw_demand next_demand   an accepted call
--   fresh_settled next_settled   what is asked of a call settles it
--   lines_fit       a dispatcher that gets no 1 never will
--   words_dispatcher dispatcher_words_lem   the dispatcher in memory and the one defined are each other's inverse
use mathlib.Core.Path.{◌≡◌, refl, sym, ◌∙◌, ap}
use mathlib.Core.Bool.{Bool, true, false, not, cond, true≢false}
use mathlib.Core.Logic.{◌⊎◌, inl, inr, ⊎_elim}
use mathlib.Core.List.{List, [], ◌∷◌, ◌++◌}
use Prim.Native.Nat.{ℕ, zero, suc, ◌+◌, ◌-◌, ◌*◌, ◌≤◌, ◌<◌}
use native.Mathlib.Omega.{arith}
use lib.ListN.{length, get_or, take, drop, length-set, take-append-drop, drop_of_length-le}
use lib.Seq.{ext_get_or, get_or-set_same, get_or-set_other, drop-cons, take-append_seam, get_or-append_seam}
use lib.Dec.{eqb, leb, ltb}
use borrow.Author.Tests.{eq-eqb, ne_eqb, eqb-true, leb-true, leb-false, ltb-true, ltb-false}
use Rattle.finite.specs.Below.{any}
use Rattle.finite.proofs.Bools.{test, clash, not_true_false, not_false_true, refute}
use Rattle.finite.proofs.Below.{le_or_lt, eq_or_ne, any_at, any_none, walk, find_reaches, find_place, find_keeps}
use Rattle.table.specs.Said.{Given}
use Rattle.table.specs.Answer.{first, FirstHeld, none, some, refusal_of}
use Rattle.table.proofs.Edits.{get_or_zeros}
use Rattle.table.proofs.Calls.{nonzero}
use Rattle.table.proofs.Held.{first_held}
use Rattle.line.specs.Line.{line_cabins, Dispatcher, waits, fresh_dispatcher, around, next_cabin, LineCall, fresh, raise, withdraw, next, cabin_tests, next_tests, with_alarm, line_row, LineOutcome, left_by, line_call, dispatcher_after, dispatcher_words, dispatcher_of, line_words_of}
use Rattle.line.specs.Demands.{LineDemand1, RefusingCabin, Refusing, LineFits, FreshDemand, Others, RaiseDemand, WithdrawDemand, Between, NextDemand}

abbrev pub line_refusal : Dispatcher → LineCall → ℕ
line_refusal d k = first (line_row d k).conditions

-- what a call comes to
pub line_done : (d : Dispatcher) (k : LineCall) → line_refusal d k ≡ 0 →
    line_call d k ≡ record { answer = Given (line_row d k).cabin 0; dispatcher = (line_row d k).left }
unfolding line_call
line_done d k z = rw (eq-eqb (line_refusal d k) 0 z)

pub line_refused : (d : Dispatcher) (k : LineCall) → (line_refusal d k ≡ 0 → ⊥) → line_call d k ≡ left_by (line_refusal d k) d
unfolding line_call
line_refused d k x = rw (ne_eqb (line_refusal d k) 0 x)

pub line_refusal_lem : (d : Dispatcher) (k : LineCall) → refusal_of (line_call d k).answer ≡ line_refusal d k
unfolding refusal_of
line_refusal_lem d k =
    ⊎_elim (λ (z : line_refusal d k ≡ 0). ap (λ (o : LineOutcome). refusal_of o.answer) (line_done d k z) ∙ sym z)
    (λ x. ap (λ (o : LineOutcome). refusal_of o.answer) (line_refused d k x))
    (eq_or_ne (line_refusal d k) 0)

numbered : (d : Dispatcher) (k : LineCall) → nonzero (line_row d k).conditions ≡ true
unfolding nonzero line_row
numbered d fresh = refl
numbered d (raise c) = refl
numbered d (withdraw c) = refl
numbered d next = refl

-- demand 1
pub line_demand_1 : (d : Dispatcher) (k : LineCall) → LineDemand1 d k
line_demand_1 d k =
    let e = line_refusal_lem d k in
    record {
      listed = rw e (first_held (line_row d k).conditions (numbered d k));
      refused = λ x. rw e (line_refused d k (λ z. x (e ∙ z)));
    }

-- an order of two conditions: what its first that holds says of them
two : (a b : Bool) (m n : ℕ) {r : ℕ} → FirstHeld ((a, m) ∷ (b, n) ∷ []) r →
    ((a ≡ true) × (r ≡ m)) ⊎ ((a ≡ false) × (b ≡ true) × (r ≡ n)) ⊎ ((a ≡ false) × (b ≡ false) × (r ≡ 0))
two a b m n (none f) = inr (inr (f 0, f 1, refl))
two a b m n (some zero e z h) = inl (ap (λ (x : Bool × ℕ). x.0) e, sym (ap (λ (x : Bool × ℕ). x.1) e))
two a b m n (some (suc zero) e z h) = inr (inl (h 0 (omega arith), ap (λ (x : Bool × ℕ). x.0) e, sym (ap (λ (x : Bool × ℕ). x.1) e)))
two a b m n (some (suc (suc k)) e z h) = absurd (true≢false (sym (ap (λ (x : Bool × ℕ). x.0) e)))

low : {n : ℕ} → leb line_cabins n ≡ false → n ≤ 15
low {n = n} f = omega (arith, leb-false line_cabins n f)

refusing_cabin : (d : Dispatcher) (c : ℕ) {n : ℕ} → FirstHeld (cabin_tests d c) n → RefusingCabin d c n
refusing_cabin d c f =
    ⊎_elim (λ r. inl (r.1, leb-true line_cabins d.last r.0))
    (λ o. ⊎_elim (λ r. inr (inl (r.2, low r.0, leb-true line_cabins c r.1))) (λ r. inr (inr (r.2, low r.0, low r.1))) o)
    (two (leb line_cabins d.last) (leb line_cabins c) 1 20 f)

refusing_next : (d : Dispatcher) {n : ℕ} → FirstHeld (next_tests d) n → Refusing d next n
refusing_next d f =
    ⊎_elim (λ r. inl (r.1, leb-true line_cabins d.last r.0))
    (λ o.
    ⊎_elim
    (λ r. inr (inl (r.2, low r.0, λ c l. any_none line_cabins (waits d) (not_true_false _ r.1) c (omega (arith, l)))))
    (λ r.
    let w = any_at line_cabins (waits d) (not_false_true _ r.1) in
    inr (inr (r.2, low r.0, (w.0, omega (arith, w.1), w.2))))
    o)
    (two (leb line_cabins d.last) (not (any line_cabins (waits d))) 1 21 f)

-- so demand 1 says the refusal of each call by the numbers of the dispatcher and the cabin
pub line_refusals : (d : Dispatcher) (k : LineCall) → LineDemand1 d k → Refusing d k (refusal_of (line_call d k).answer)
unfolding line_row
line_refusals d fresh x = none_held x.listed
  where
    none_held : {n : ℕ} → FirstHeld [] n → n ≡ 0
    none_held (none f) = refl
    none_held (some k e z h) = absurd (true≢false (sym (ap (λ (x : Bool × ℕ). x.0) e)))
line_refusals d (raise c) x = refusing_cabin d c x.listed
line_refusals d (withdraw c) x = refusing_cabin d c x.listed
line_refusals d next x = refusing_next d x.listed

-- what holds where they are not refused
pub cabin_accepted : (d : Dispatcher) (c : ℕ) → first (cabin_tests d c) ≡ 0 → (d.last < line_cabins) × (c < line_cabins)
cabin_accepted d c z =
    ⊎_elim (λ r. absurd (omega (arith, z, r.0)))
    (λ o. ⊎_elim (λ r. absurd (omega (arith, z, r.0))) (λ r. (omega (arith, r.1), omega (arith, r.2))) o)
    (refusing_cabin d c (first_held (cabin_tests d c) (unfold nonzero in refl)))

pub next_accepted : (d : Dispatcher) → first (next_tests d) ≡ 0 → (d.last < line_cabins) × (c : ℕ) × (c < line_cabins) × (waits d c ≡ true)
next_accepted d z =
    ⊎_elim (λ r. absurd (omega (arith, z, r.0)))
    (λ o. ⊎_elim (λ r. absurd (omega (arith, z, r.0))) (λ r. (omega (arith, r.1), r.2.0, omega (arith, r.2.1), r.2.2)) o)
    (refusing_next d (first_held (next_tests d) (unfold nonzero in refl)))

-- going round, one cabin further
around_turn : (c : ℕ) → c < line_cabins → ((around c ≡ c + 1) × (c + 1 < line_cabins)) ⊎ ((around c ≡ 0) × (c + 1 ≡ line_cabins))
unfolding around
around_turn c l =
    ⊎_elim (λ (t : ltb (c + 1) line_cabins ≡ true). inl (rw t, ltb-true (c + 1) line_cabins t))
    (λ (f : ltb (c + 1) line_cabins ≡ false). inr (rw f, omega (arith, l, ltb-false (c + 1) line_cabins f)))
    (test (ltb (c + 1) line_cabins))

pub around_cabin : (c : ℕ) → c < line_cabins → around c < line_cabins
around_cabin c l = ⊎_elim (λ r. rw r.0 r.1) (λ r. rw r.0 (omega arith)) (around_turn c l)

-- cabin c is looked at after n others, beginning after cabin l: n + 1 further, going round
abbrev pub Turned : ℕ → ℕ → ℕ → Type 0
Turned l n c = (c < line_cabins) × (e : ℕ) × (c + e * line_cabins ≡ l + 1 + n)

pub turned : (l n : ℕ) → l < line_cabins → Turned l n (walk around n (around l))
unfolding walk
turned l zero h =
    ⊎_elim (λ r. (around_cabin l h, 0, omega (arith, r.0))) (λ r. (around_cabin l h, 1, omega (arith, r.0, r.1))) (around_turn l h)
turned l (suc n) h = rw (last_turn n (around l)) (further n (walk around n (around l)) (turned l n h))
  where
    last_turn : (n k : ℕ) → walk around n (around k) ≡ around (walk around n k)
    last_turn zero k = refl
    last_turn (suc n) k = last_turn n (around k)

    further : (n c : ℕ) → Turned l n c → Turned l (suc n) (around c)
    further n c (g, e, q) =
        ⊎_elim (λ r. (around_cabin c g, e, omega (arith, q, r.0))) (λ r. (around_cabin c g, e + 1, omega (arith, q, r.0, r.1))) (around_turn c g)

pub one_cabin : (l n a b : ℕ) → Turned l n a → Turned l n b → a ≡ b
one_cabin l n a b (g, e, q) (h, f, r) = omega (arith, g, q, h, r)

-- every cabin is looked at
pub met : (l c : ℕ) → l < line_cabins → c < line_cabins → (m : ℕ) × (m < line_cabins) × Turned l m c
met l c h g =
    ⊎_elim (λ (down : c ≤ l). (15 + c - l, omega (arith, down), (g, 1, omega (arith, down, h))))
    (λ (up : l < c). (c - (l + 1), omega (arith, g), (g, 0, omega (arith, up))))
    (le_or_lt c l)

module _ (d : Dispatcher) (h : d.last < line_cabins) where
  -- the cabin that is served next is one
  pub next_known : next_cabin d < line_cabins
  unfolding next_cabin
  next_known = find_keeps (λ c. c < line_cabins) around (waits d) around_cabin line_cabins (around d.last) (around_cabin d.last h)

  there : (c m : ℕ) → Turned d.last m c → walk around m (around d.last) ≡ c
  there c m t = one_cabin d.last m _ c (turned d.last m h) t

  -- where some cabin waits, it waits
  pub next_waits : (c : ℕ) → c < line_cabins → waits d c ≡ true → waits d (next_cabin d) ≡ true
  unfolding next_cabin
  next_waits c g w =
      let m = met d.last c h g in
      find_reaches around (waits d) m.0 line_cabins (around d.last) m.1 (ap (waits d) (there c m.0 m.2) ∙ w)

  -- and it is no further than any cabin that waits
  pub next_nearest : (c m : ℕ) → m < line_cabins → Turned d.last m c → waits d c ≡ true → (n : ℕ) × (n ≤ m) × Turned d.last n (next_cabin d)
  unfolding next_cabin
  next_nearest c m l t w =
      let r = find_place around (waits d) m line_cabins (around d.last) l (ap (waits d) (there c m t) ∙ w) in
      (r.0, r.1, rw r.2 (turned d.last r.0 h))

-- the word of a cabin that waits has a place
waiting_place : (xs : List ℕ) (c : ℕ) → not (eqb (get_or xs c 0) 0) ≡ true → c < length xs
waiting_place [] c w = absurd (true≢false (sym w))
waiting_place (x ∷ xs) zero w = omega arith
waiting_place (x ∷ xs) (suc c) w = omega (arith, waiting_place xs c w)

-- one word changed
pub alarm_others : (d : Dispatcher) (c x l : ℕ) → Others d c (with_alarm d c x l)
unfolding with_alarm
alarm_others d c x l b off = get_or-set_other d.waiting c b x 0 off

alarm_off : (d : Dispatcher) (c l : ℕ) → waits d c ≡ true → waits (with_alarm d c 0 l) c ≡ false
unfolding with_alarm waits
alarm_off d c l w = ap (λ (n : ℕ). not (eqb n 0)) (get_or-set_same d.waiting c 0 0 (waiting_place d.waiting c w))

alarm_on : (d : Dispatcher) (c l : ℕ) → c < length d.waiting → waits (with_alarm d c 1 l) c ≡ true
unfolding with_alarm waits
alarm_on d c l h = ap (λ (n : ℕ). not (eqb n 0)) (get_or-set_same d.waiting c 1 0 h)

-- a call that sets the word of one cabin, or nothing where it is so already: refused or not, it changes no other cabin and not the last served
one_kept : (d : Dispatcher) (k : LineCall) (c x : ℕ) (already : Bool) → (line_row d k).left ≡ cond already d (with_alarm d c x d.last) →
    let e = (line_call d k).dispatcher in Others d c e × (e.last ≡ d.last) × (already ≡ true → e ≡ d)
one_kept d k c x already q =
    ⊎_elim (λ (z : line_refusal d k ≡ 0). rw (line_done d k z, q) (kept already)) (λ r. rw (line_refused d k r) ((λ b off. refl), refl, λ t. refl))
    (eq_or_ne (line_refusal d k) 0)
  where
    kept : (already : Bool) → let e = cond already d (with_alarm d c x d.last) in Others d c e × (e.last ≡ d.last) × (already ≡ true → e ≡ d)
    kept true = ((λ b off. refl), refl, λ t. refl)
    kept false = (alarm_others d c x d.last, (unfold with_alarm in refl), λ t. absurd (true≢false (sym t)))

pub raise_kept : (d : Dispatcher) (c : ℕ) → let e = (line_call d (raise c)).dispatcher in
    Others d c e × (e.last ≡ d.last) × (waits d c ≡ true → e ≡ d)
unfolding line_row
raise_kept d c = one_kept d (raise c) c 1 (waits d c) refl

pub withdraw_kept : (d : Dispatcher) (c : ℕ) → let e = (line_call d (withdraw c)).dispatcher in
    Others d c e × (e.last ≡ d.last) × (not (waits d c) ≡ true → e ≡ d)
unfolding line_row
withdraw_kept d c = one_kept d (withdraw c) c 0 (not (waits d c)) refl

fresh_fits : LineFits fresh_dispatcher
unfolding fresh_dispatcher
fresh_fits = record { size = refl; last = omega arith }

-- what each call does where it is not refused
pub fresh_demand : (d : Dispatcher) → refusal_of (line_call d fresh).answer ≡ 0 → FreshDemand (line_call d fresh)
unfolding line_row
fresh_demand d z =
    rw (line_done d fresh (sym (line_refusal_lem d fresh) ∙ z))
    (record { answer = refl; fits = fresh_fits; nobody = nobody; last = unfold fresh_dispatcher in refl })
  where
    nobody : (c : ℕ) → waits fresh_dispatcher c ≡ false
    nobody c = unfold fresh_dispatcher waits in ap (λ (n : ℕ). not (eqb n 0)) (get_or_zeros line_cabins c)

pub raise_demand : (d : Dispatcher) (c : ℕ) → length d.waiting ≡ 16 → refusal_of (line_call d (raise c)).answer ≡ 0 →
    RaiseDemand d c (line_call d (raise c))
unfolding line_row
raise_demand d c size z =
    let z' = sym (line_refusal_lem d (raise c)) ∙ z in
    let kept = raise_kept d c in
    record {
      answer = ap (λ (o : LineOutcome). o.answer) (line_done d (raise c) z');
      raised = raised z';
      others = kept.0;
      last = kept.1;
      already = kept.2;
    }
  where
    raised : line_refusal d (raise c) ≡ 0 → waits (line_call d (raise c)).dispatcher c ≡ true
    raised z =
        rw (line_done d (raise c) z)
        (⊎_elim (λ (w : waits d c ≡ true). rw w w)
        (λ (w : waits d c ≡ false). rw w (alarm_on d c d.last (rw size (cabin_accepted d c z).1)))
        (test (waits d c)))

pub withdraw_demand : (d : Dispatcher) (c : ℕ) → refusal_of (line_call d (withdraw c)).answer ≡ 0 → WithdrawDemand d c (line_call d (withdraw c))
unfolding line_row
withdraw_demand d c z =
    let z' = sym (line_refusal_lem d (withdraw c)) ∙ z in
    let kept = withdraw_kept d c in
    record {
      answer = ap (λ (o : LineOutcome). o.answer) (line_done d (withdraw c) z');
      withdrawn = withdrawn z';
      others = kept.0;
      last = kept.1;
      already = λ f. kept.2 (ap not f);
    }
  where
    withdrawn : line_refusal d (withdraw c) ≡ 0 → waits (line_call d (withdraw c)).dispatcher c ≡ false
    withdrawn z =
        rw (line_done d (withdraw c) z)
        (⊎_elim (λ (w : waits d c ≡ true). rw w (alarm_off d c d.last w)) (λ (w : waits d c ≡ false). rw w w) (test (waits d c)))

pub next_demand : (d : Dispatcher) → refusal_of (line_call d next).answer ≡ 0 → NextDemand d (line_call d next)
unfolding line_row
next_demand d z =
    let z' = sym (line_refusal_lem d next) ∙ z in
    let a = next_accepted d z' in
    let known = next_known d a.0 in
    let waited = next_waits d a.0 a.1 a.2 a.3 in
    rw (line_done d next z')
    (record {
      cabin = next_cabin d;
      answer = refl;
      known = omega (arith, known);
      waited = waited;
      passed = λ b l x. refute (waits d b) (λ w. none_before a.0 b (omega (arith, l)) x w);
      removed = alarm_off d (next_cabin d) (next_cabin d) waited;
      others = alarm_others d (next_cabin d) 0 (next_cabin d);
      last = unfold with_alarm in refl;
    })
  where
    -- a cabin that is passed is nearer than the one that is met
    nearer : (l b c m n : ℕ) → l < line_cabins → m < line_cabins → Between l b c → Turned l m b → Turned l n c → n ≤ m → ⊥
    nearer l b c m n h g (inl x) p q o = omega (arith, h, g, x.0, x.1, p.0, p.2, q.0, q.2, o)
    nearer l b c m n h g (inr (inl x)) p q o = omega (arith, h, g, x.0, x.1, p.0, p.2, q.0, q.2, o)
    nearer l b c m n h g (inr (inr x)) p q o = omega (arith, h, g, x.0, x.1, p.0, p.2, q.0, q.2, o)

    none_before : d.last < line_cabins → (b : ℕ) → b < line_cabins → Between d.last b (next_cabin d) → waits d b ≡ true → ⊥
    none_before h b l x w =
        let m = met d.last b h l in
        let n = next_nearest d h b m.0 m.1 m.2 w in
        nearer d.last b (next_cabin d) m.0 n.0 h m.1 x m.2 n.2 n.1

-- a dispatcher that gets no 1 never will
alarm_fits_lem : (d : Dispatcher) (c x l : ℕ) → LineFits d → l ≤ 15 → LineFits (with_alarm d c x l)
unfolding with_alarm
alarm_fits_lem d c x l f h = record { size = length-set d.waiting c x ∙ f.size; last = h }

either_fits : (b : Bool) {d e : Dispatcher} → LineFits d → LineFits e → LineFits (cond b d e)
either_fits true f g = f
either_fits false f g = g

row_fits : (d : Dispatcher) (k : LineCall) → LineFits d → LineFits (line_row d k).left
unfolding line_row
row_fits d fresh f = fresh_fits
row_fits d (raise c) f = either_fits (waits d c) f (alarm_fits_lem d c 1 d.last f f.last)
row_fits d (withdraw c) f = either_fits (not (waits d c)) f (alarm_fits_lem d c 0 d.last f f.last)
row_fits d next f =
    let known = next_known d (omega (arith, f.last)) in
    alarm_fits_lem d (next_cabin d) 0 (next_cabin d) f (omega (arith, known))

line_fits : (d : Dispatcher) (k : LineCall) → LineFits d → LineFits (line_call d k).dispatcher
line_fits d k f =
    ⊎_elim (λ (z : line_refusal d k ≡ 0). rw (line_done d k z) (row_fits d k f)) (λ x. rw (line_refused d k x) f) (eq_or_ne (line_refusal d k) 0)

pub lines_fit : (d : Dispatcher) (ks : List LineCall) → LineFits d → LineFits (dispatcher_after d ks)
unfolding dispatcher_after
lines_fit d [] f = f
lines_fit d (k ∷ ks) f = lines_fit (line_call d k).dispatcher ks (line_fits d k f)

-- the dispatcher in memory and the one defined are each other's inverse
pub words_dispatcher : (w : List ℕ) → length w ≡ dispatcher_words → line_words_of (dispatcher_of w) ≡ w
unfolding line_words_of dispatcher_of
words_dispatcher w l = ap (λ (x : List ℕ). take line_cabins w ++ x) (last_word w l) ∙ take-append-drop line_cabins w
  where
    last_word : (w : List ℕ) → length w ≡ dispatcher_words → get_or w line_cabins 0 ∷ [] ≡ drop line_cabins w
    last_word w l = sym (drop-cons w line_cabins 0 (omega (arith, l)) ∙ ap (λ (x : List ℕ). get_or w line_cabins 0 ∷ x) (drop_of_length-le w {i = dispatcher_words} (omega (arith, l))))

pub dispatcher_words_lem : (d : Dispatcher) → length d.waiting ≡ line_cabins → dispatcher_of (line_words_of d) ≡ d
unfolding line_words_of dispatcher_of
dispatcher_words_lem d l = λ i. record { waiting = front i; last = back i }
  where
    front : take line_cabins (d.waiting ++ (d.last ∷ [])) ≡ d.waiting
    front = ap (λ (n : ℕ). take n (d.waiting ++ (d.last ∷ []))) (sym l) ∙ take-append_seam d.waiting (d.last ∷ [])

    back : get_or (d.waiting ++ (d.last ∷ [])) line_cabins 0 ≡ d.last
    back = ap (λ (n : ℕ). get_or (d.waiting ++ (d.last ∷ [])) n 0) (sym l) ∙ get_or-append_seam d.waiting d.last [] 0

-- outcomes with the same words are the same
same_line : (o p : LineOutcome) → o.answer ≡ p.answer → LineFits o.dispatcher → LineFits p.dispatcher →
    ((b : ℕ) → get_or o.dispatcher.waiting b 0 ≡ get_or p.dispatcher.waiting b 0) → o.dispatcher.last ≡ p.dispatcher.last → o ≡ p
same_line o p a f g w l =
    λ i. record { answer = a i; dispatcher = record { waiting = ext_get_or 0 o.dispatcher.waiting p.dispatcher.waiting (f.size ∙ sym g.size) (λ b h. w b) i; last = l i } }

-- a cabin that does not wait has the word 0
pub silent_word : (d : Dispatcher) (c : ℕ) → waits d c ≡ false → get_or d.waiting c 0 ≡ 0
unfolding waits
silent_word d c f = eqb-true (get_or d.waiting c 0) 0 (not_false_true _ f)

-- what is asked of a fresh dispatcher, and of "next", settles what the call answers and leaves
pub fresh_settled : (o p : LineOutcome) → FreshDemand o → FreshDemand p → o ≡ p
fresh_settled o p x y =
    same_line o p (x.answer ∙ sym y.answer) x.fits y.fits
    (λ b. silent_word o.dispatcher b (x.nobody b) ∙ sym (silent_word p.dispatcher b (y.nobody b))) (x.last ∙ sym y.last)

pub next_settled : (d : Dispatcher) (o p : LineOutcome) → LineFits o.dispatcher → LineFits p.dispatcher → NextDemand d o → NextDemand d p → o ≡ p
next_settled d o p f g x y =
    same_line o p (x.answer ∙ ap (λ (c : ℕ). Given c 0) one ∙ sym y.answer) f g words (x.last ∙ one ∙ sym y.last)
  where
    first_met : (l a b : ℕ) → (a ≡ b) ⊎ (Between l a b ⊎ Between l b a)
    first_met l a b =
        ⊎_elim
        (λ (low : a ≤ l).
        ⊎_elim (λ (le : b ≤ a). ⊎_elim (λ q. inl q) (λ off. inr (inr (inr (inr (omega (arith, le, off), low))))) (eq_or_ne a b))
        (λ (lt : a < b). ⊎_elim (λ (le : b ≤ l). inr (inl (inr (inr (lt, le))))) (λ (up : l < b). inr (inr (inr (inl (low, up))))) (le_or_lt b l))
        (le_or_lt b a))
        (λ (high : l < a).
        ⊎_elim (λ (le : b ≤ l). inr (inl (inr (inl (le, high)))))
        (λ (up : l < b).
        ⊎_elim (λ (le : b ≤ a). ⊎_elim (λ q. inl q) (λ off. inr (inr (inl (up, omega (arith, le, off))))) (eq_or_ne a b))
        (λ (lt : a < b). inr (inl (inl (high, lt))))
        (le_or_lt b a))
        (le_or_lt b l))
        (le_or_lt a l)

    one : x.cabin ≡ y.cabin
    one =
        ⊎_elim (λ q. q)
        (λ r.
        ⊎_elim (λ z. clash x.waited (y.passed x.cabin x.known z)) (λ z. clash y.waited (x.passed y.cabin y.known z)) r)
        (first_met d.last x.cabin y.cabin)

    words : (b : ℕ) → get_or o.dispatcher.waiting b 0 ≡ get_or p.dispatcher.waiting b 0
    words b =
        ⊎_elim
        (λ (q : b ≡ x.cabin).
        rw q (silent_word o.dispatcher x.cabin x.removed ∙ sym (rw one (silent_word p.dispatcher y.cabin y.removed))))
        (λ off. x.others b off ∙ sym (y.others b (λ q. off (q ∙ sym one))))
        (eq_or_ne b x.cabin)
