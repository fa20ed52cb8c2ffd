-- A waiting cabin that does not withdraw is served within 16 accepted "next" calls (document 02, W11). The argument: it is m places ahead, m below 16, and each
-- accepted "next" serves it or brings it nearer; no other call moves it. Assumes nothing.
--   Ahead d c m     cabin c waits, m places after the one that "next" looks at first
--   served_within   the promise
use mathlib.Core.Path.{◌≡◌, refl, sym, ◌∙◌, ap}
use mathlib.Core.Bool.{true, not}
use mathlib.Core.Logic.{⊎_elim}
use mathlib.Core.List.{List, [], ◌∷◌, ◌++◌}
use Prim.Native.Nat.{ℕ, suc, ◌+◌, ◌-◌, ◌≤◌, ◌<◌}
use native.Mathlib.Omega.{arith}
use lib.ListN.{length, get_or}
use lib.Dec.{eqb}
use Rattle.finite.proofs.Below.{le_or_lt, eq_or_ne}
use Rattle.line.specs.Line.{line_cabins, Dispatcher, waits, next_cabin, LineCall, fresh, raise, withdraw, next, with_alarm, line_row, line_call, served_in, served_by}
use Rattle.line.specs.Demands.{Others, Staying, ServedDemand}
use Rattle.line.proofs.Laws.{line_refusal, line_done, line_refused, next_accepted, Turned, one_cabin, met, next_nearest, alarm_others, raise_kept, withdraw_kept}

pub record Ahead (d : Dispatcher) (c m : ℕ) : Type 0 where
  pub near : m < line_cabins
  pub place : Turned d.last m c
  pub waiting : waits d c ≡ true

-- found among the first entries of a list
abbrev Among : ℕ → ℕ → List ℕ → Type 0
Among c m xs = (n : ℕ) × (n ≤ m) × (get_or xs n 16 ≡ c)

module _ (c : ℕ) where
  -- a call that leaves the alarm of cabin c and the last served leaves it where it is
  unmoved : (d e : Dispatcher) (m : ℕ) → e.last ≡ d.last → waits e c ≡ waits d c → Ahead d c m → Ahead e c m
  unmoved d e m q w a = record { near = a.near; place = rw q a.place; waiting = w ∙ a.waiting }

  -- another cabin's word
  other_waits : (d e : Dispatcher) (b : ℕ) → Others d b e → (c ≡ b → ⊥) → waits e c ≡ waits d c
  unfolding waits
  other_waits d e b o off = ap (λ (n : ℕ). not (eqb n 0)) (o c off)

  raised_ahead : (d : Dispatcher) (b m : ℕ) → Ahead d c m → Ahead (line_call d (raise b)).dispatcher c m
  raised_ahead d b m a =
      let e = (line_call d (raise b)).dispatcher in
      let kept = raise_kept d b in
      ⊎_elim (λ (q : c ≡ b). rw (kept.2 (ap (waits d) (sym q) ∙ a.waiting)) a)
      (λ off. unmoved d e m kept.1 (other_waits d e b kept.0 off) a)
      (eq_or_ne c b)

  withdrawn_ahead : (d : Dispatcher) (b m : ℕ) → (withdraw b ≡ withdraw c → ⊥) → Ahead d c m → Ahead (line_call d (withdraw b)).dispatcher c m
  withdrawn_ahead d b m other a =
      let e = (line_call d (withdraw b)).dispatcher in
      let kept = withdraw_kept d b in
      unmoved d e m kept.1 (other_waits d e b kept.0 (λ q. other (ap withdraw (sym q)))) a

  -- an accepted "next" that serves another cabin brings c nearer
  nearer : (d e : Dispatcher) (m : ℕ) → d.last < line_cabins → Ahead d c m → e.last ≡ next_cabin d → waits e c ≡ true → (next_cabin d ≡ c → ⊥) →
      (n : ℕ) × (n < m) × Ahead e c n
  nearer d e m h a q w off =
      let r = next_nearest d h c m a.near a.place a.waiting in
      let n = r.0 in
      let less : n < m = strict n r.1 (λ z. off (one_cabin d.last m _ c (rw z at r.2) a.place)) in (
        m - (n + 1),
        omega (arith, less),
        record {
          near = omega (arith, a.near);
          place = rw q (closer d.last n (next_cabin d) less a.place r.2);
          waiting = w;
        },
      )
    where
      strict : (n : ℕ) → n ≤ m → (n ≡ m → ⊥) → n < m
      strict n l x = omega (arith, l, x)

      closer : (l n b : ℕ) → n < m → Turned l m c → Turned l n b → Turned b (m - (n + 1)) c
      closer l n b s (g, e, q) (h, f, r) = (g, e - f, omega (arith, s, g, q, h, r))

  -- what is said of the rest of a list
  abbrev Rest : List LineCall → Type 0
  Rest ks = (d : Dispatcher) (m : ℕ) → Ahead d c m → m < length (served_by d ks) → Among c m (served_by d ks)

  next_within : (ks : List LineCall) → Rest ks → (d : Dispatcher) (m : ℕ) → Ahead d c m →
      let xs = served_in next (line_call d next).answer ++ served_by (line_call d next).dispatcher ks in m < length xs → Among c m xs
  unfolding served_in line_row with_alarm
  next_within ks go d m a =
      ⊎_elim
      (λ (z : line_refusal d next ≡ 0).
      let e = with_alarm d (next_cabin d) 0 (next_cabin d) in
      rw (line_done d next z)
      (λ l.
      ⊎_elim (λ (q : next_cabin d ≡ c). (0, omega arith, q))
      (λ off.
      let o = other_waits d e (next_cabin d) (alarm_others d (next_cabin d) 0 (next_cabin d)) (λ q. off (sym q)) in
      let n = nearer d e m (next_accepted d z).0 a refl (o ∙ a.waiting) off in
      let r = go e n.0 n.2 (omega (arith, l, n.1)) in
      (suc r.0, omega (arith, r.1, n.1), r.2))
      (eq_or_ne (next_cabin d) c)))
      (λ x. rw (line_refused d next x) (λ l. go d m a l))
      (eq_or_ne (line_refusal d next) 0)

  within : (ks : List LineCall) → Staying c ks → Rest ks
  unfolding served_by served_in
  within [] s d m a l = absurd (omega (arith, l))
  within (fresh ∷ ks) s d m a l = absurd ((s 0).1 refl)
  within (raise b ∷ ks) s d m a l = within ks (λ n. s (suc n)) _ m (raised_ahead d b m a) l
  within (withdraw b ∷ ks) s d m a l = within ks (λ n. s (suc n)) _ m (withdrawn_ahead d b m (s 0).0 a) l
  within (next ∷ ks) s d m a l = next_within ks (within ks (λ n. s (suc n))) d m a l

-- a dispatcher that gets 1 serves nobody, until it is made fresh
none_served : (c : ℕ) (ks : List LineCall) (d : Dispatcher) → line_cabins ≤ d.last → Staying c ks → served_by d ks ≡ []
unfolding line_row served_by served_in
none_served c [] d h s = refl
none_served c (fresh ∷ ks) d h s = absurd ((s 0).1 refl)
none_served c (raise b ∷ ks) d h s = none_served c ks _ (rw (raise_kept d b).1 h) (λ n. s (suc n))
none_served c (withdraw b ∷ ks) d h s = none_served c ks _ (rw (withdraw_kept d b).1 h) (λ n. s (suc n))
none_served c (next ∷ ks) d h s =
    rw (line_refused d next (λ z. let below = (next_accepted d z).0 in omega (arith, h, below))) (none_served c ks d h (λ n. s (suc n)))

-- W11
pub served_within : (d : Dispatcher) (c : ℕ) (ks : List LineCall) → c ≤ 15 → waits d c ≡ true → Staying c ks → ServedDemand d c ks
served_within d c ks g w s l =
    ⊎_elim
    (λ (h : line_cabins ≤ d.last). let z = ap length (none_served c ks d h s) in absurd (omega (arith, l, z)))
    (λ (h : d.last < line_cabins).
    let m = met d.last c h (omega (arith, g)) in
    let r = within c ks s d m.0 (record { near = m.1; place = m.2; waiting = w }) (omega (arith, l, m.1)) in
    (r.0, omega (arith, r.1, m.1), r.2))
    (le_or_lt line_cabins d.last)
