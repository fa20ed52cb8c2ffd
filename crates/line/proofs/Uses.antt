-- What follows from what is claimed of the dispatcher. Each law is given the claims that it rests on, so that a claim that says less does not serve.
-- Assumes nothing.
--   DemandClaim .. ServedClaim   the claims as they are needed
--   line_unsound line_unknown line_nobody   what a refused call answers and leaves
--   waiting_accepted not_passed_over   a cabin that waits
--   fresh_only next_only   what is asked of a call settles it
--   raised_twice withdrawn_twice raised_withdrawn   two calls of one cabin
--   alarm_served    an alarm that is raised after any calls
use mathlib.Core.Path.{◌≡◌, refl, sym, ◌∙◌, ap}
use mathlib.Core.Bool.{true, false}
use mathlib.Core.Logic.{⊎_elim}
use mathlib.Core.List.{List, [], ◌∷◌}
use Prim.Native.Nat.{ℕ, ◌≤◌, ◌<◌}
use native.Mathlib.Omega.{arith}
use lib.ListN.{length, get_or}
use lib.Seq.{ext_get_or}
use Rattle.finite.proofs.Bools.{clash}
use Rattle.finite.proofs.Below.{eq_or_ne}
use Rattle.table.specs.Said.{Given}
use Rattle.table.specs.Answer.{refusal_of}
use Rattle.line.specs.Line.{Dispatcher, waits, LineCall, fresh, raise, withdraw, next, LineOutcome, left_by, line_call, dispatcher_after, served_by}
use Rattle.line.specs.Demands.{LineDemand1, RefusingCabin, Refusing, LineFits, FreshDemand, RaiseDemand, WithdrawDemand, NextDemand, Staying, ServedDemand}
use Rattle.line.proofs.Laws.{silent_word, fresh_settled, next_settled}

abbrev refusal : Dispatcher → LineCall → ℕ
refusal d k = refusal_of (line_call d k).answer

abbrev DemandClaim : Type 0
DemandClaim = (d : Dispatcher) (k : LineCall) → LineDemand1 d k

abbrev RefusalClaim : Type 0
RefusalClaim = (d : Dispatcher) (k : LineCall) → Refusing d k (refusal d k)

abbrev KeptClaim : Type 0
KeptClaim = (d : Dispatcher) (ks : List LineCall) → LineFits d → LineFits (dispatcher_after d ks)

abbrev FreshClaim : Type 0
FreshClaim = (d : Dispatcher) → FreshDemand (line_call d fresh)

abbrev RaiseClaim : Type 0
RaiseClaim = (d : Dispatcher) (c : ℕ) → length d.waiting ≡ 16 → refusal d (raise c) ≡ 0 → RaiseDemand d c (line_call d (raise c))

abbrev WithdrawClaim : Type 0
WithdrawClaim = (d : Dispatcher) (c : ℕ) → refusal d (withdraw c) ≡ 0 → WithdrawDemand d c (line_call d (withdraw c))

abbrev NextClaim : Type 0
NextClaim = (d : Dispatcher) → refusal d next ≡ 0 → NextDemand d (line_call d next)

abbrev pub ServedClaim : Type 0
ServedClaim = (d : Dispatcher) (c : ℕ) (ks : List LineCall) → c ≤ 15 → waits d c ≡ true → Staying c ks → ServedDemand d c ks

-- no list has sixteen accepted "next" calls and passes a waiting cabin over
pub not_passed_over : ServedClaim → (d : Dispatcher) (c : ℕ) (ks : List LineCall) → c ≤ 15 → waits d c ≡ true → Staying c ks →
    16 ≤ length (served_by d ks) → ((n : ℕ) → n < 16 → get_or (served_by d ks) n 16 ≡ c → ⊥) → ⊥
not_passed_over served d c ks g w s l never = let r = served d c ks g w s l in never r.0 r.1 r.2

-- a fresh dispatcher is the one that is asked for
pub fresh_only : FreshClaim → (d : Dispatcher) (o : LineOutcome) → FreshDemand o → line_call d fresh ≡ o
fresh_only freshes d o x = fresh_settled (line_call d fresh) o (freshes d) x

-- what raise and withdraw are refused by, each of the three cases
module _ (d : Dispatcher) {c n : ℕ} (r : RefusingCabin d c n) where
  above : 15 < d.last → n ≡ 1
  above h = ⊎_elim (λ x. x.0) (λ o. ⊎_elim (λ x. absurd (omega (arith, h, x.1))) (λ x. absurd (omega (arith, h, x.1))) o) r

  unknown : d.last ≤ 15 → 15 < c → n ≡ 20
  unknown h g = ⊎_elim (λ x. absurd (omega (arith, h, x.1))) (λ o. ⊎_elim (λ x. x.0) (λ x. absurd (omega (arith, g, x.2))) o) r

  known : d.last ≤ 15 → c ≤ 15 → n ≡ 0
  known h g = ⊎_elim (λ x. absurd (omega (arith, h, x.1))) (λ o. ⊎_elim (λ x. absurd (omega (arith, g, x.2))) (λ x. x.0) o) r

module _ (refusals : RefusalClaim) where
  -- "next" is accepted while a cabin waits
  pub waiting_accepted : (d : Dispatcher) (c : ℕ) → d.last ≤ 15 → c ≤ 15 → waits d c ≡ true → refusal d next ≡ 0
  waiting_accepted d c h g w =
      ⊎_elim (λ x. absurd (omega (arith, h, x.1))) (λ o. ⊎_elim (λ x. clash w (x.2 c g)) (λ x. x.0) o) (refusals d next)

  pub next_only : NextClaim → KeptClaim → (d : Dispatcher) → LineFits d → (o : LineOutcome) → LineFits o.dispatcher → NextDemand d o → line_call d next ≡ o
  next_only nexts kept d f o g x =
      next_settled d (line_call d next) o (unfold dispatcher_after in kept d (next ∷ []) f) g
      (nexts d (waiting_accepted d x.cabin f.last x.known x.waited)) x

  -- the refused calls
  module _ (demand : DemandClaim) where
    left : (d : Dispatcher) (k : LineCall) (n : ℕ) → (n ≡ 0 → ⊥) → refusal d k ≡ n → line_call d k ≡ left_by n d
    left d k n off q = (demand d k).refused (λ z. off (sym q ∙ z)) ∙ ap (λ (m : ℕ). left_by m d) q

    pub line_unsound : (d : Dispatcher) → 15 < d.last → (k : LineCall) → (k ≡ fresh → ⊥) → line_call d k ≡ left_by 1 d
    line_unsound d h fresh other = absurd (other refl)
    line_unsound d h (raise c) other = left d (raise c) 1 (λ z. omega (arith, z)) (above d (refusals d (raise c)) h)
    line_unsound d h (withdraw c) other = left d (withdraw c) 1 (λ z. omega (arith, z)) (above d (refusals d (withdraw c)) h)
    line_unsound d h next other =
        left d next 1 (λ z. omega (arith, z))
        (⊎_elim (λ x. x.0) (λ o. ⊎_elim (λ x. absurd (omega (arith, h, x.1))) (λ x. absurd (omega (arith, h, x.1))) o) (refusals d next))

    pub line_unknown : (d : Dispatcher) (c : ℕ) → d.last ≤ 15 → 15 < c →
        (line_call d (raise c) ≡ left_by 20 d) × (line_call d (withdraw c) ≡ left_by 20 d)
    line_unknown d c h g = (
      left d (raise c) 20 (λ z. omega (arith, z)) (unknown d (refusals d (raise c)) h g),
      left d (withdraw c) 20 (λ z. omega (arith, z)) (unknown d (refusals d (withdraw c)) h g),
    )

    pub line_nobody : (d : Dispatcher) → d.last ≤ 15 → ((c : ℕ) → c ≤ 15 → waits d c ≡ false) → line_call d next ≡ left_by 21 d
    line_nobody d h nobody =
        left d next 21 (λ z. omega (arith, z))
        (⊎_elim (λ x. absurd (omega (arith, h, x.1)))
        (λ o. ⊎_elim (λ x. x.0) (λ x. clash x.2.2 (nobody x.2.0 x.2.1)) o)
        (refusals d next))

  module _ (kept : KeptClaim) (c : ℕ) (g : c ≤ 15) where
    kept_by : {d : Dispatcher} (k : LineCall) → LineFits d → LineFits (line_call d k).dispatcher
    kept_by {d = d} k f = unfold dispatcher_after in kept d (k ∷ []) f

    withdrawn : WithdrawClaim → {d : Dispatcher} → LineFits d → WithdrawDemand d c (line_call d (withdraw c))
    withdrawn withdraws {d = d} f = withdraws d c (known d (refusals d (withdraw c)) f.last g)

    pub withdrawn_twice : WithdrawClaim → (d : Dispatcher) → LineFits d → let e = (line_call d (withdraw c)).dispatcher in
        line_call e (withdraw c) ≡ record { answer = Given 0 0; dispatcher = e }
    withdrawn_twice withdraws d f =
        let one = withdrawn withdraws f in
        let two = withdrawn withdraws (kept_by (withdraw c) f) in
        λ i. record { answer = two.answer i; dispatcher = two.already one.withdrawn i }

    module _ (raises : RaiseClaim) where
      raised : {d : Dispatcher} → LineFits d → RaiseDemand d c (line_call d (raise c))
      raised {d = d} f = raises d c f.size (known d (refusals d (raise c)) f.last g)

      pub raised_twice : (d : Dispatcher) → LineFits d → let e = (line_call d (raise c)).dispatcher in
          line_call e (raise c) ≡ record { answer = Given 0 0; dispatcher = e }
      raised_twice d f =
          let one = raised f in
          let two = raised (kept_by (raise c) f) in
          λ i. record { answer = two.answer i; dispatcher = two.already one.raised i }

      pub raised_withdrawn : WithdrawClaim → (d : Dispatcher) → LineFits d → waits d c ≡ false →
          (line_call (line_call d (raise c)).dispatcher (withdraw c)).dispatcher ≡ d
      raised_withdrawn withdraws d f w =
          let one = raised f in
          let two = withdrawn withdraws (kept_by (raise c) f) in
          let e = (line_call (line_call d (raise c)).dispatcher (withdraw c)).dispatcher in
          let size = (kept_by (withdraw c) (kept_by (raise c) f)).size ∙ sym f.size in
          let words : (b : ℕ) → get_or e.waiting b 0 ≡ get_or d.waiting b 0 =
          λ b.
          ⊎_elim (λ (q : b ≡ c). rw q (silent_word e c two.withdrawn ∙ sym (silent_word d c w))) (λ off. two.others b off ∙ one.others b off) (eq_or_ne b c) in
          λ i. record { waiting = ext_get_or 0 e.waiting d.waiting size (λ b h. words b) i; last = (two.last ∙ one.last) i }

      pub alarm_served : FreshClaim → ServedClaim → (d : Dispatcher) (ks js : List LineCall) → Staying c js →
          let e = dispatcher_after (line_call d fresh).dispatcher ks in
          ((line_call e (raise c)).answer ≡ Given 0 0) × ServedDemand (line_call e (raise c)).dispatcher c js
      alarm_served freshes served d ks js s =
          let r = raised (kept (line_call d fresh).dispatcher ks (freshes d).fits) in
          (r.answer, served _ c js g r.raised s)
