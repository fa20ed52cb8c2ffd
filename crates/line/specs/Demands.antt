-- What is claimed of the dispatcher (document 02, W11), as statements over its definitions, with their numbers written out. Assumes nothing.
--   LineDemand1 d k     demand 1 of a call
--   Refusing d k n      n is the refusal of a call, said by the dispatcher's numbers
--   LineFits d          sixteen words, and the last served is a cabin
--   FreshDemand RaiseDemand WithdrawDemand NextDemand   what an accepted call does
--   Others d c e        no cabin but c has another word than before
--   Between a b c       going upward from cabin a, past the top to 0, cabin b is passed before cabin c is met; where c is a, that is every other cabin
--   Staying c ks        a list of calls in which cabin c does not withdraw
--   ServedDemand d c ks    cabin c is served within 16 accepted "next" calls
use Rattle.std.specs.Prelude.{◌≡◌, true, false, ◌⊎◌, List, ℕ, ◌≤◌, ◌<◌, length, get_or}
use Rattle.table.specs.Said.{Given}
use Rattle.table.specs.Answer.{refusal_of, FirstHeld}
use Rattle.line.specs.Line.{Dispatcher, waits, LineCall, fresh, raise, withdraw, next, line_row, LineOutcome, left_by, line_call, served_by}

-- Demand 1: whatever stands in the dispatcher, and whatever the cabin
pub record LineDemand1 (d : Dispatcher) (k : LineCall) : Type 0 where
  -- "a call is refused, by number, in the listed cases and in no other"
  pub listed : FirstHeld (line_row d k).conditions (refusal_of (line_call d k).answer)
  -- "A refusal leaves it unchanged.", and all other numbers of the answer are zero
  pub refused : (refusal_of (line_call d k).answer ≡ 0 → ⊥) → line_call d k ≡ left_by (refusal_of (line_call d k).answer) d

-- "A dispatcher whose last served is above 15 gets 1. .. Refused: 20 for a cabin above 15, after 1; 21 for "next" with nobody waiting, after 1."
abbrev pub RefusingCabin : Dispatcher → ℕ → ℕ → Type 0
RefusingCabin d c n =
    ((n ≡ 1) × (15 < d.last)) ⊎ ((n ≡ 20) × (d.last ≤ 15) × (15 < c)) ⊎ ((n ≡ 0) × (d.last ≤ 15) × (c ≤ 15))

abbrev pub Refusing : Dispatcher → LineCall → ℕ → Type 0
Refusing d fresh n = n ≡ 0
Refusing d (raise c) n = RefusingCabin d c n
Refusing d (withdraw c) n = RefusingCabin d c n
Refusing d next n =
    ((n ≡ 1) × (15 < d.last)) ⊎
    ((n ≡ 21) × (d.last ≤ 15) × ((c : ℕ) → c ≤ 15 → waits d c ≡ false)) ⊎
    ((n ≡ 0) × (d.last ≤ 15) × ((c : ℕ) × (c ≤ 15) × (waits d c ≡ true)))

-- a dispatcher that gets no 1, with a word for each cabin
pub record LineFits (d : Dispatcher) : Type 0 where
  pub size : length d.waiting ≡ 16
  pub last : d.last ≤ 15

-- "A fresh dispatcher counts 15 as last served.", and nobody waits
pub record FreshDemand (o : LineOutcome) : Type 0 where
  pub answer : o.answer ≡ Given 0 0
  pub fits : LineFits o.dispatcher
  pub nobody : (c : ℕ) → waits o.dispatcher c ≡ false
  pub last : o.dispatcher.last ≡ 15

-- no cabin but c has another word than before
abbrev pub Others : Dispatcher → ℕ → Dispatcher → Type 0
Others d c e = (b : ℕ) → (b ≡ c → ⊥) → get_or e.waiting b 0 ≡ get_or d.waiting b 0

-- "A cabin .. raises or withdraws its alarm; doing what is already so changes nothing."
pub record RaiseDemand (d : Dispatcher) (c : ℕ) (o : LineOutcome) : Type 0 where
  pub answer : o.answer ≡ Given 0 0
  pub raised : waits o.dispatcher c ≡ true
  pub others : Others d c o.dispatcher
  pub last : o.dispatcher.last ≡ d.last
  pub already : waits d c ≡ true → o.dispatcher ≡ d

pub record WithdrawDemand (d : Dispatcher) (c : ℕ) (o : LineOutcome) : Type 0 where
  pub answer : o.answer ≡ Given 0 0
  pub withdrawn : waits o.dispatcher c ≡ false
  pub others : Others d c o.dispatcher
  pub last : o.dispatcher.last ≡ d.last
  pub already : waits d c ≡ false → o.dispatcher ≡ d

abbrev pub Between : ℕ → ℕ → ℕ → Type 0
Between a b c = ((a < b) × (b < c)) ⊎ ((c ≤ a) × (a < b)) ⊎ ((b < c) × (c ≤ a))

-- ""Next" serves the first waiting cabin after the one last served, going round, and removes it."
pub record NextDemand (d : Dispatcher) (o : LineOutcome) : Type 0 where
  pub cabin : ℕ
  pub answer : o.answer ≡ Given cabin 0
  pub known : cabin ≤ 15
  pub waited : waits d cabin ≡ true
  pub passed : (b : ℕ) → b ≤ 15 → Between d.last b cabin → waits d b ≡ false
  pub removed : waits o.dispatcher cabin ≡ false
  pub others : Others d cabin o.dispatcher
  pub last : o.dispatcher.last ≡ cabin

-- "that does not withdraw": no call of the list does so for it, and none makes the dispatcher fresh, which would be another one
abbrev pub Staying : ℕ → List LineCall → Type 0
Staying c ks = (n : ℕ) → (get_or ks n next ≡ withdraw c → ⊥) × (get_or ks n next ≡ fresh → ⊥)

-- "is served within 16 accepted "next" calls": where a list has 16 of them, cabin c is among the first 16 that are served
abbrev pub ServedDemand : Dispatcher → ℕ → List LineCall → Type 0
ServedDemand d c ks = 16 ≤ length (served_by d ks) → (n : ℕ) × (n < 16) × (get_or (served_by d ks) n 16 ≡ c)
