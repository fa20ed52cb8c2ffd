-- Who can be rung: the steps that some trial enters (document 02, W3; document 01, "Calls", trial). Assumes nothing.
--   goes_by t i e      step i can go on by exit e
--   goes_on t i j      step i can go on to step j
--   is_entered goes n k   a row of steps below n, each of which goes on to the next, leads from step 0 to the other step k
--   rung_by refusal capacity goes contact buffer   what the call does, given which step goes on to which, and which are contacts
--   rung_conditions rung_refusal rung_call   the call
--   Entering t limit results trace k   the trial with this limit, these results and this lent trace enters step k; SomeTrial t k, some trial does
--   FewestResults t k   line results that enter step k, and no trial with fewer does
--   list_under f o     the outcome o with f of each number listed (W2)
use Rattle.std.specs.Prelude.{◌≡◌, Bool, ◌&&◌, ◌||◌, not, List, [], ◌∷◌, ◌++◌, map, ℕ, ◌≤◌, ◌<◌, length, get_or, take, drop, eqb, ltb}
use Rattle.finite.specs.Below.{any, count, those}
use Rattle.finite.specs.Reach.{marked, reach}
use Rattle.table.specs.Said.{Given}
use Rattle.table.specs.Table.{Table, exits, leads}
use Rattle.table.specs.Answer.{WriteOutcome, too_short, first, first_of, moves_of, steps_room, listing}
use Rattle.table.specs.Calls.{table_tests}
use Rattle.table.specs.Trial.{answered, is_contact, trial_call}

-- W3: "kinds 0, 2 and 3 now take the answered exit and use up no result; only a contact does", and its result may name any of its exits
unfoldable pub goes_by : Table → ℕ → ℕ → Bool
goes_by t i e = is_contact t i || eqb e answered

unfoldable pub goes_on : Table → ℕ → ℕ → Bool
goes_on t i j = any exits (λ e. goes_by t i e && leads t i e j)

-- "starts at step 0", which itself no trial enters, since no exit leads to it
unfoldable pub is_entered : (ℕ → ℕ → Bool) → ℕ → ℕ → Bool
is_entered goes n k = not (eqb k 0) && marked (reach goes n 0) k

-- the numbers of the steps entered, ascending, and how many of these are contacts; or the refusal, where it is not 0
unfoldable pub rung_by : ℕ → ℕ → (ℕ → ℕ → Bool) → (ℕ → Bool) → List ℕ → WriteOutcome
rung_by refusal capacity goes contact buffer =
    let numbers = those capacity (is_entered goes capacity) in
    listing refusal (Given (length numbers) (count (length numbers) (λ m. contact (get_or numbers m 0)))) numbers buffer

-- as a preview asks: 1, and 11 for a buffer of fewer than 127 bytes
abbrev pub rung_conditions : Table → ℕ → List (Bool × ℕ)
rung_conditions t room = table_tests t ++ ((ltb room steps_room, too_short) ∷ [])

unfoldable pub rung_refusal : Table → ℕ → ℕ
rung_refusal t room = first (rung_conditions t room)

unfoldable pub rung_call : Table → List ℕ → WriteOutcome
rung_call t buffer = rung_by (rung_refusal t (length buffer)) t.capacity (goes_on t) (is_contact t) buffer

-- it "writes the number of the step entered as a byte of the lent trace": k is one of the bytes of its moves, of which a refused trial makes none
pub record Entering (t : Table) (limit : ℕ) (results trace : List ℕ) (k : ℕ) : Type 0 where
  pub move : ℕ
  pub made : move < moves_of (trial_call t limit results trace).answer
  pub byte : get_or (trial_call t limit results trace).trace move 0 ≡ k

pub record SomeTrial (t : Table) (k : ℕ) : Type 0 where
  pub limit : ℕ
  pub results : List ℕ
  pub trace : List ℕ
  pub enters : Entering t limit results trace k

-- with a limit that fits the call's 16 bits, whatever the lent trace held
pub record FewestResults (t : Table) (k : ℕ) : Type 0 where
  pub limit : ℕ
  pub results : List ℕ
  pub most : limit < 65536
  pub enters : (trace : List ℕ) → limit ≤ length trace → Entering t limit results trace k
  pub fewest : (other : ℕ) (more trace : List ℕ) → Entering t other more trace k → length results ≤ length more
  -- so they fit a list of 127
  pub few : length results < t.capacity

unfoldable pub list_under : (ℕ → ℕ) → WriteOutcome → WriteOutcome
list_under f o =
    let n = first_of o.answer in
    record { answer = o.answer; buffer = map f (take n o.buffer) ++ drop n o.buffer }
