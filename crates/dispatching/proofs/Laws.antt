-- Laws of a dispatcher in memory. Assumes nothing.
--   alarm_words word_words   words that are stored into
--   word_test word_waits word_silent   the word of a cabin that is read
--   refused given   what a call that is refused, and one that is not, answers and leaves
--   raised_words waiting_words withdrawn_words   what raise and withdraw leave
--   cabin_unsound cabin_unknown cabin_known next_unsound next_none next_some   the refusals
use mathlib.Core.Path.{◌≡◌, sym, ◌∙◌, ap}
use mathlib.Core.Bool.{true, false, not}
use mathlib.Core.Logic.{⊎_elim}
use mathlib.Core.List.{List}
use Prim.Native.Nat.{ℕ, ◌≤◌, ◌<◌}
use native.Mathlib.Omega.{arith}
use lib.ListN.{length, get_or, set, take, length-set}
use lib.Seq.{get_or-take, get_or-set_same, get_or-set_other, set-get_or, take-set-le, take-set-lt}
use lib.Dec.{eqb}
use borrow.Author.Tests.{ne_eqb, le-leb, lt-leb}
use Rattle.finite.specs.Below.{any}
use Rattle.finite.proofs.Bools.{clash, refute}
use Rattle.finite.proofs.Below.{eq_or_ne, any_at, any_intro}
use Rattle.table.specs.Said.{Refused, Given}
use Rattle.table.specs.Answer.{first}
use Rattle.line.specs.Line.{line_cabins, Dispatcher, waits, next_cabin, LineCall, raise, withdraw, next, cabin_tests, with_alarm, line_row, LineOutcome, line_call, dispatcher_words, dispatcher_of, line_words_of}
use Rattle.line.proofs.Laws.{line_refusal, line_done, line_refused, next_known, next_waits, words_dispatcher}

-- the word of a cabin, and the last served
pub alarm_words : (w : List ℕ) (c x l : ℕ) → length w ≡ dispatcher_words → c < line_cabins →
    set (set w c x) line_cabins l ≡ line_words_of (with_alarm (dispatcher_of w) c x l)
alarm_words w c x l size h =
    sym (words_dispatcher (set (set w c x) line_cabins l) (length-set (set w c x) line_cabins l ∙ length-set w c x ∙ size)) ∙ ap line_words_of stored
  where
    last : get_or (set (set w c x) line_cabins l) line_cabins 0 ≡ l
    last = get_or-set_same (set w c x) line_cabins l 0 (omega (arith, size, length-set w c x))

    alarms : take line_cabins (set (set w c x) line_cabins l) ≡ set (take line_cabins w) c x
    alarms = take-set-le line_cabins (set w c x) line_cabins l (omega arith) ∙ take-set-lt line_cabins w c x h

    stored : dispatcher_of (set (set w c x) line_cabins l) ≡ with_alarm (dispatcher_of w) c x l
    stored = unfold dispatcher_of with_alarm in λ i. record { waiting = alarms i; last = last i }

-- the word of a cabin alone
pub word_words : (w : List ℕ) (c x : ℕ) → length w ≡ dispatcher_words → c < line_cabins →
    set w c x ≡ line_words_of (with_alarm (dispatcher_of w) c x (dispatcher_of w).last)
word_words w c x size h =
    sym (words_dispatcher (set w c x) (length-set w c x ∙ size)) ∙ ap line_words_of stored
  where
    last : get_or (set w c x) line_cabins 0 ≡ get_or w line_cabins 0
    last = get_or-set_other w c line_cabins x 0 (λ q. omega (arith, h, q))

    stored : dispatcher_of (set w c x) ≡ with_alarm (dispatcher_of w) c x (dispatcher_of w).last
    stored = unfold dispatcher_of with_alarm in λ i. record { waiting = take-set-lt line_cabins w c x h i; last = last i }

-- a cabin waits where its word is not 0
pub word_test : (w : List ℕ) (c : ℕ) → c < line_cabins → waits (dispatcher_of w) c ≡ not (eqb (get_or w c 0) 0)
unfolding dispatcher_of waits
word_test w c h = ap (λ (n : ℕ). not (eqb n 0)) (get_or-take line_cabins w c 0 h)

pub word_waits : (w : List ℕ) (c : ℕ) → c < line_cabins → (get_or w c 0 ≡ 0 → ⊥) → waits (dispatcher_of w) c ≡ true
word_waits w c h x = word_test w c h ∙ rw (ne_eqb (get_or w c 0) 0 x)

pub word_silent : (w : List ℕ) (c : ℕ) → c < line_cabins → get_or w c 0 ≡ 0 → waits (dispatcher_of w) c ≡ false
word_silent w c h z = word_test w c h ∙ ap (λ (n : ℕ). not (eqb n 0)) z

module _ (w : List ℕ) (size : length w ≡ dispatcher_words) where
  -- a call that is refused, and one that is not: what it answers and leaves
  pub refused : (k : LineCall) {r : ℕ} → r ≡ line_refusal (dispatcher_of w) k → (r ≡ 0 → ⊥) →
      record { answer : Refused r ≡ (line_call (dispatcher_of w) k).answer; words : w ≡ line_words_of (line_call (dispatcher_of w) k).dispatcher }
  refused k e x =
      let o = line_refused (dispatcher_of w) k (λ z. x (e ∙ z)) in
      record {
        answer = ap Refused e ∙ sym (ap (λ (y : LineOutcome). y.answer) o);
        words = sym (words_dispatcher w size) ∙ sym (ap (λ (y : LineOutcome). line_words_of y.dispatcher) o);
      }

  pub given : (k : LineCall) (v : List ℕ) (c : ℕ) → line_refusal (dispatcher_of w) k ≡ 0 → c ≡ (line_row (dispatcher_of w) k).cabin →
      v ≡ line_words_of (line_row (dispatcher_of w) k).left →
      record { answer : Given c 0 ≡ (line_call (dispatcher_of w) k).answer; words : v ≡ line_words_of (line_call (dispatcher_of w) k).dispatcher }
  given k v c z q e =
      let o = line_done (dispatcher_of w) k z in
      record {
        answer = ap (λ (n : ℕ). Given n 0) q ∙ sym (ap (λ (y : LineOutcome). y.answer) o);
        words = e ∙ sym (ap (λ (y : LineOutcome). line_words_of y.dispatcher) o);
      }

  -- what raise leaves: the word of a cabin that does not wait becomes 1
  pub raised_words : (c : ℕ) → c < line_cabins → get_or w c 0 ≡ 0 → set w c 1 ≡ line_words_of (line_row (dispatcher_of w) (raise c)).left
  unfolding line_row
  raised_words c h z = rw (word_silent w c h z) (word_words w c 1 size h)

  pub waiting_words : (c : ℕ) → c < line_cabins → (get_or w c 0 ≡ 0 → ⊥) → w ≡ line_words_of (line_row (dispatcher_of w) (raise c)).left
  unfolding line_row
  waiting_words c h x = rw (word_waits w c h x) (sym (words_dispatcher w size))

  -- what withdraw leaves: the word is 0
  pub withdrawn_words : (c : ℕ) → c < line_cabins → set w c 0 ≡ line_words_of (line_row (dispatcher_of w) (withdraw c)).left
  unfolding line_row
  withdrawn_words c h =
      ⊎_elim
      (λ (z : get_or w c 0 ≡ 0).
      rw (word_silent w c h z) (ap (λ (n : ℕ). set w c n) (sym z) ∙ set-get_or w c 0 ∙ sym (words_dispatcher w size)))
      (λ x. rw (word_waits w c h x) (word_words w c 0 size h))
      (eq_or_ne (get_or w c 0) 0)

-- the refusal of raise and withdraw
module _ (d : Dispatcher) (c : ℕ) where
  pub cabin_unsound : line_cabins ≤ d.last → first (cabin_tests d c) ≡ 1
  unfolding first
  cabin_unsound h = rw (le-leb line_cabins d.last h)

  pub cabin_unknown : d.last < line_cabins → line_cabins ≤ c → first (cabin_tests d c) ≡ 20
  unfolding first
  cabin_unknown h g = rw (lt-leb line_cabins d.last h, le-leb line_cabins c g)

  pub cabin_known : d.last < line_cabins → c < line_cabins → first (cabin_tests d c) ≡ 0
  unfolding first
  cabin_known h g = rw (lt-leb line_cabins d.last h, lt-leb line_cabins c g)

-- the refusal of "next"
pub next_unsound : (d : Dispatcher) → line_cabins ≤ d.last → line_refusal d next ≡ 1
unfolding line_row first
next_unsound d h = rw (le-leb line_cabins d.last h)

module _ (d : Dispatcher) (h : d.last < line_cabins) where
  pub next_none : waits d (next_cabin d) ≡ false → line_refusal d next ≡ 21
  unfolding line_row first
  next_none f =
      let nobody : any line_cabins (waits d) ≡ false = refute (any line_cabins (waits d))
      (λ t. let r = any_at line_cabins (waits d) t in clash (next_waits d h r.0 r.1 r.2) f) in
      rw (lt-leb line_cabins d.last h, nobody)

  pub next_some : waits d (next_cabin d) ≡ true → line_refusal d next ≡ 0
  unfolding line_row first
  next_some t = rw (lt-leb line_cabins d.last h, any_intro line_cabins (waits d) (next_cabin d) (next_known d h) t)
