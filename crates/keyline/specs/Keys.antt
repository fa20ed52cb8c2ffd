-- Key lines: the four forms and no other, and the calls that they make (document 01, "Keys"; document 02, W5). Assumes nothing.
--   is_line bs call n     H, star, the call's digit, n digits, A, and nothing else
--   decimal bs k w       the number that w digits spell from place k
--   decode bs            the command of a key line
--   key_conditions        the conditions of its refusals with their numbers, in their order
--   perform, key_call     the call that a command makes, and the call of a key line
use Rattle.std.specs.Prelude.{Bool, true, ◌&&◌, cond, List, [], ◌∷◌, ◌++◌, ℕ, zero, suc, ◌+◌, ◌*◌, ◌-◌, length, get_or, eqb, leb, Option, Some, None}
use Rattle.finite.specs.Below.{all, passes}
use Rattle.table.specs.Said.{Refused}
use Rattle.keyline.specs.declared.Command.{Command}
use Rattle.keyline.specs.declared.Command.TheVariants.{Add, Link, Clear, Count}
use Rattle.table.specs.Table.{Table}
use Rattle.table.specs.Answer.{Outcome, not_key_line, first, unless}
use Rattle.table.specs.Calls.{table_tests, add_conditions, add_call, link_conditions, link_call, spoken_counts}
use Rattle.table.specs.Clear.{clear_conditions, clear_call}

-- "Keys are ASCII: H alarm held, A alarm pressed, *, digits."
abbrev pub held : ℕ
held = 72

abbrev pub star : ℕ
star = 42

abbrev pub pressed : ℕ
pressed = 65

abbrev pub digit : ℕ → ℕ
digit d = 48 + d

unfoldable pub is_digit : ℕ → Bool
is_digit x = leb (digit 0) x && leb x (digit 9)

unfoldable pub is_line : List ℕ → ℕ → ℕ → Bool
is_line bs call n =
    passes
    (eqb (length bs) (n + 4) ∷
    eqb (get_or bs 0 0) held ∷
    eqb (get_or bs 1 0) star ∷
    eqb (get_or bs 2 0) (digit call) ∷
    all n (λ i. is_digit (get_or bs (3 + i) 0)) ∷
    eqb (get_or bs (3 + n) 0) pressed ∷
    [])

unfoldable pub decimal : List ℕ → ℕ → ℕ → ℕ
decimal bs k zero = 0
decimal bs k (suc w) = 10 * decimal bs k w + (get_or bs (k + w) 0 - digit 0)

-- "H*1, step, exit, kind, content, A adds; steps and contents have three digits, exits and kinds a single digit. H*2, step, exit, step, exit, A
-- links. H*3, step, exit, A clears. H*4A counts. Nothing else is a key line."
unfoldable pub decode : List ℕ → Option Command
decode bs =
    cond (is_line bs 1 8) (Some (Add (decimal bs 3 3) (decimal bs 6 1) (decimal bs 7 1) (decimal bs 8 3)))
    (cond (is_line bs 2 8) (Some (Link (decimal bs 3 3) (decimal bs 6 1) (decimal bs 7 3) (decimal bs 10 1)))
    (cond (is_line bs 3 4) (Some (Clear (decimal bs 3 3) (decimal bs 6 1)))
    (cond (is_line bs 4 0) (Some Count) None)))

-- "Key lines .. add for cabin 0" (W5)
abbrev pub key_cabin : ℕ
key_cabin = 0

unfoldable pub perform : Table → Command → Outcome
perform t (Add holder e kind content) = add_call t holder e kind content key_cabin
perform t (Link source e second f) = link_call t source e second f
perform t (Clear i e) = clear_call t i e
perform t Count = spoken_counts t

-- "key line 1, 9, then its call's"
unfoldable pub call_conditions : Table → Command → List (Bool × ℕ)
call_conditions t (Add holder e kind content) = add_conditions t holder e kind content key_cabin
call_conditions t (Link source e second f) = link_conditions t source e second f
call_conditions t (Clear i e) = clear_conditions t i e
call_conditions t Count = []

unfoldable pub line_conditions : Table → Option Command → List (Bool × ℕ)
line_conditions t None = (true, not_key_line) ∷ []
line_conditions t (Some c) = call_conditions t c

unfoldable pub key_conditions : Table → List ℕ → List (Bool × ℕ)
key_conditions t bs = table_tests t ++ line_conditions t (decode bs)

unfoldable pub perform_line : Table → Option Command → Outcome
perform_line t None = record { answer = Refused not_key_line; table = t }
perform_line t (Some c) = perform t c

unfoldable pub key_call : Table → List ℕ → Outcome
key_call t bs = unless (first (table_tests t)) t (perform_line t (decode bs))
