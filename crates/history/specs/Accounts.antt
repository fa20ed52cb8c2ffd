-- What the cabins are charged, counted along a history: "Steps in use less 1 equal the cabins' charges, counted from the first table and the adds and
-- frees since." (document 02, W5). Assumes nothing.
--   gone t u c          the steps of cabin c that are in use in t and not in u
--   booked c d t u n s  the account of cabin c that stood at n, after a call for cabin d that made u of t and said s; account, after a list of calls
--   summed n s          the accounts together, from what is said alone; tally, along a list
use Rattle.std.specs.Prelude.{◌&&◌, not, List, [], ◌∷◌, ℕ, ◌+◌, ◌-◌, eqb}
use Rattle.finite.specs.Below.{one, count}
use Rattle.table.specs.Table.{Table, in_use}
use Rattle.table.specs.Cabins.{charged}
use Rattle.history.specs.History.{Call, Said, silent, number, freed, back, foreseen, spoken, listed, Heard, row, run}

unfoldable pub gone : Table → Table → ℕ → ℕ
gone t u c = count t.capacity (λ i. charged t c i && not (in_use u i))

-- a step that was given to the cabin is one more, each of its steps that was freed one less; W7: "Steps brought back count as added again by their
-- cabins."
unfoldable pub booked : ℕ → ℕ → Table → Table → ℕ → Said → ℕ
booked c d t u n silent = n
booked c d t u n (number m) = n + one (eqb d c)
booked c d t u n (freed m) = n - gone t u c
booked c d t u n (back m) = n + gone u t c
booked c d t u n (foreseen m) = n
booked c d t u n (spoken a b) = n
booked c d t u n (listed a b bytes) = n

unfoldable pub account : ℕ → ℕ → Table → List Call → ℕ
account c n t [] = n
account c n t (k ∷ cs) =
    let u = (run t k).table in
    account c (booked c (row t k).cabin t u n (run t k).heard.said) u cs

unfoldable pub summed : ℕ → Said → ℕ
summed n silent = n
summed n (number m) = n + 1
summed n (freed m) = n - m
summed n (back m) = n + m
summed n (foreseen m) = n
summed n (spoken a b) = n
summed n (listed a b bytes) = n

unfoldable pub tally : ℕ → List Heard → ℕ
tally n [] = n
tally n (h ∷ hs) = tally (summed n h.said) hs
