-- Examples of calls: P1 to P9 of document 01 ("Edits on F4"), what they do not show, W2's, W3's, W5's and W8's, who can be rung, then each call refused
-- for each of its reasons ("Reasons for no") and the calls that P1 to P9 do not make. The entries of a run are made one after the other, each on the table
-- that the one before left. Assumes nothing.
--   examples, refusals   the table
--   key_lines, Decodes  key lines byte by byte, and what they are decoded to
--   unsound, fail_as_said   a table made unsound for each clause of soundness, and the clauses that it fails
use Rattle.std.specs.Prelude.{◌≡◌, Bool, true, false, ◌&&◌, List, [], ◌∷◌, ◌++◌, ℕ, suc, set, take, replicate, Option, Some, None}
use Rattle.finite.specs.Below.{same}
use Rattle.table.specs.Table.{Table, with_numbers, with_links, with_steps}
use Rattle.table.specs.Cabins.{sole_quotas}
use Rattle.table.specs.Sound.{sound_tests}
use Rattle.table.specs.Calls.{add_call}
use Rattle.keyline.specs.declared.Command.{Command}
use Rattle.keyline.specs.declared.Command.TheVariants.{Add, Link, Clear, Count}
use Rattle.keyline.specs.Keys.{decode}
use Rattle.history.specs.History.{fresh, load, add, link, clear, read, trial, write, key_line, squeeze, clear_slip, take_back, preview, rung}
use Rattle.history.specs.Acts.{begin, call}
use Rattle.cases.specs.Cases.{nothing, weak_link, strong_link, Entry, Run, line, table_f4, ◌is◌, accepts, refuses, answer, bytes, order, sizes, steps, what, own, counts, exit, cabin, quotas, charges}
use Rattle.cases.specs.Bytes.{image_p5}

-- "P1 to P7 run on from each other."
unfoldable pub p1_to_p7 : List Entry
p1_to_p7 =
    -- P1 "add 0, 0, 1, 0: step 1."
    accepts (call (add 0 0 1 0 0))
    (answer is (1 ∷ 0 ∷ []) ∷
    what 1 is (1 ∷ 0 ∷ []) ∷
    exit 0 0 is (strong_link ∷ 1 ∷ []) ∷
    counts 1 is (1 ∷ 0 ∷ []) ∷
    steps is (0 ∷ 1 ∷ []) ∷
    []) ∷
    -- P2 "add 1, 2, 1, 1: step 2."
    accepts (call (add 1 2 1 1 0))
    (answer is (2 ∷ 0 ∷ []) ∷
    what 2 is (1 ∷ 1 ∷ []) ∷
    exit 1 2 is (strong_link ∷ 2 ∷ []) ∷
    counts 2 is (1 ∷ 0 ∷ []) ∷
    steps is (0 ∷ 1 ∷ 2 ∷ []) ∷
    []) ∷
    -- P3 "link 0, 0 to 2, 2: weak; step 1 counters 1 and 1."
    accepts (call (link 0 0 2 2))
    (answer is (0 ∷ 0 ∷ []) ∷ exit 2 2 is (weak_link ∷ 1 ∷ []) ∷ counts 1 is (1 ∷ 1 ∷ []) ∷ []) ∷
    -- P4 "link 1, 2 to 0, 1: weak; step 2 counters 1 and 1."
    accepts (call (link 1 2 0 1))
    (answer is (0 ∷ 0 ∷ []) ∷ exit 0 1 is (weak_link ∷ 2 ∷ []) ∷ counts 2 is (1 ∷ 1 ∷ []) ∷ []) ∷
    -- P5 "clear 0, 0: counts 2, 0. Step 2 is taken first, then 1; both bits are 1; 0 to 2 and 2 to 1 are strong, 1 to 2 weak."
    accepts (call (clear 0 0))
    (answer is (2 ∷ 0 ∷ []) ∷
    order 0 0 is (2 ∷ 1 ∷ []) ∷
    own 1 is (1 ∷ []) ∷
    own 2 is (1 ∷ []) ∷
    exit 0 0 is (nothing ∷ 0 ∷ []) ∷
    exit 0 1 is (strong_link ∷ 2 ∷ []) ∷
    exit 2 2 is (strong_link ∷ 1 ∷ []) ∷
    exit 1 2 is (weak_link ∷ 2 ∷ []) ∷
    steps is (0 ∷ 1 ∷ 2 ∷ []) ∷
    []) ∷
    -- the table that P5 leaves, as an image, and read: its links and bits in numbers
    accepts (call (write (replicate 110 0xFF))) (answer is (108 ∷ 0 ∷ []) ∷ bytes is (image_p5 ++ (0xFF ∷ 0xFF ∷ [])) ∷ []) ∷
    accepts (call (read 0)) (answer is (0 ∷ 0 ∷ 0 ∷ 0 ∷ 2 ∷ 0 ∷ 0 ∷ 0 ∷ 1 ∷ 0 ∷ 0 ∷ 0 ∷ 0 ∷ 0 ∷ []) ∷ []) ∷
    accepts (call (read 2)) (answer is (1 ∷ 1 ∷ 1 ∷ 0 ∷ 0 ∷ 1 ∷ 0 ∷ 0 ∷ 0 ∷ 1 ∷ 0 ∷ 1 ∷ 1 ∷ 0 ∷ []) ∷ []) ∷
    -- a trial of it is open at once: step 0 has no line result, and its answered exit is empty
    accepts (call (trial 4 (1 ∷ 2 ∷ 2 ∷ []) (7 ∷ 7 ∷ 7 ∷ 7 ∷ []))) (answer is (0 ∷ 0 ∷ 0 ∷ []) ∷ bytes is (7 ∷ 7 ∷ 7 ∷ 7 ∷ []) ∷ []) ∷
    -- P6 "clear 0, 1: counts 2, 2; only step 0 is left."
    accepts (call (clear 0 1))
    (answer is (2 ∷ 2 ∷ []) ∷ order 0 1 is [] ∷ own 1 is (0 ∷ []) ∷ own 2 is (0 ∷ []) ∷ steps is (0 ∷ []) ∷ []) ∷
    -- P7 "add 0, 0, 3, 600: step 3; add 3, 0, 2, 15: step 1."
    accepts (call (add 0 0 3 600 0)) (answer is (3 ∷ 0 ∷ []) ∷ what 3 is (3 ∷ 600 ∷ []) ∷ steps is (0 ∷ 3 ∷ []) ∷ []) ∷
    accepts (call (add 3 0 2 15 0)) (answer is (1 ∷ 0 ∷ []) ∷ what 1 is (2 ∷ 15 ∷ []) ∷ steps is (0 ∷ 1 ∷ 3 ∷ []) ∷ []) ∷
    []

-- P8 "F4, P1, link 0, 0 to 1, 0, clear 0, 0: counts 1, 1."
unfoldable pub p8 : List Entry
p8 =
    accepts (call (add 0 0 1 0 0)) (answer is (1 ∷ 0 ∷ []) ∷ []) ∷
    accepts (call (link 0 0 1 0)) (exit 1 0 is (weak_link ∷ 1 ∷ []) ∷ []) ∷
    accepts (call (clear 0 0)) (answer is (1 ∷ 1 ∷ []) ∷ order 0 0 is [] ∷ steps is (0 ∷ []) ∷ []) ∷
    []

-- P9 "F4, P1, link 0, 0 to 0, 1, clear 0, 0: counts 1, 0; 0 to 1 is strong."
unfoldable pub p9 : List Entry
p9 =
    accepts (call (add 0 0 1 0 0)) (answer is (1 ∷ 0 ∷ []) ∷ []) ∷
    accepts (call (link 0 0 0 1)) (exit 0 1 is (weak_link ∷ 1 ∷ []) ∷ []) ∷
    accepts (call (clear 0 0))
    (answer is (1 ∷ 0 ∷ []) ∷ order 0 0 is (1 ∷ []) ∷ exit 0 1 is (strong_link ∷ 1 ∷ []) ∷ steps is (0 ∷ 1 ∷ []) ∷ []) ∷
    []

-- two steps that rule 3 could take at once: 2 and 3, each with a weak link from step 0 and from the other. The lower is taken first, so its link to the
-- other ends strong; the other's link back is weak.
unfoldable pub two_candidates : List Entry
two_candidates =
    accepts (call (add 0 0 1 0 0)) (answer is (1 ∷ 0 ∷ []) ∷ []) ∷
    accepts (call (add 1 0 1 1 0)) (answer is (2 ∷ 0 ∷ []) ∷ []) ∷
    accepts (call (add 1 1 1 2 0)) (answer is (3 ∷ 0 ∷ []) ∷ []) ∷
    accepts (call (link 1 0 0 1)) [] ∷
    accepts (call (link 1 1 0 2)) [] ∷
    accepts (call (link 1 1 2 0)) [] ∷
    accepts (call (link 1 0 3 0)) [] ∷
    accepts (call (clear 0 0))
    (answer is (3 ∷ 1 ∷ []) ∷
    order 0 0 is (2 ∷ 3 ∷ []) ∷
    own 2 is (1 ∷ []) ∷
    own 3 is (1 ∷ []) ∷
    exit 0 1 is (strong_link ∷ 2 ∷ []) ∷
    exit 0 2 is (strong_link ∷ 3 ∷ []) ∷
    exit 2 0 is (strong_link ∷ 3 ∷ []) ∷
    exit 3 0 is (weak_link ∷ 2 ∷ []) ∷
    counts 2 is (1 ∷ 1 ∷ []) ∷
    counts 3 is (0 ∷ 2 ∷ []) ∷
    steps is (0 ∷ 2 ∷ 3 ∷ []) ∷
    []) ∷
    []

-- W2: that table has steps 0, 2 and 3 in use, last number 3 and capacity 4. A link to step 2 is copied into exit 0 of step 0, so that a trial leaves step
-- 0; then it is squeezed. Steps 2 and 3 become 1 and 2, their targets follow, their bits and counters go with them, and the last number is 2. The trial
-- enters 1, 2, 1 where it entered 2, 3, 2.
unfoldable pub squeezes : List Entry
squeezes =
    accepts (call (link 0 1 0 0)) (exit 0 0 is (weak_link ∷ 2 ∷ []) ∷ counts 2 is (2 ∷ 1 ∷ []) ∷ []) ∷
    accepts (call (trial 4 (0 ∷ 0 ∷ []) (7 ∷ 7 ∷ 7 ∷ 7 ∷ []))) (answer is (1 ∷ 2 ∷ 3 ∷ []) ∷ bytes is (2 ∷ 3 ∷ 2 ∷ 7 ∷ []) ∷ []) ∷
    refuses (call (squeeze 0 (sole_quotas 0))) 2 ∷
    refuses (call (squeeze 129 (sole_quotas 129))) 2 ∷
    refuses (call (squeeze 2 (sole_quotas 2))) 13 ∷
    accepts (call (squeeze 3 (sole_quotas 3)))
    (answer is (0 ∷ 0 ∷ []) ∷
    sizes is (3 ∷ 2 ∷ []) ∷
    steps is (0 ∷ 1 ∷ 2 ∷ []) ∷
    what 1 is (1 ∷ 1 ∷ []) ∷
    what 2 is (1 ∷ 2 ∷ []) ∷
    own 0 is (0 ∷ []) ∷
    own 1 is (1 ∷ []) ∷
    own 2 is (1 ∷ []) ∷
    exit 0 0 is (weak_link ∷ 1 ∷ []) ∷
    exit 0 1 is (strong_link ∷ 1 ∷ []) ∷
    exit 0 2 is (strong_link ∷ 2 ∷ []) ∷
    exit 0 3 is (nothing ∷ 0 ∷ []) ∷
    exit 1 0 is (strong_link ∷ 2 ∷ []) ∷
    exit 2 0 is (weak_link ∷ 1 ∷ []) ∷
    counts 1 is (2 ∷ 1 ∷ []) ∷
    counts 2 is (0 ∷ 2 ∷ []) ∷
    what 3 is (0 ∷ 0 ∷ []) ∷
    own 3 is (0 ∷ []) ∷
    exit 3 0 is (nothing ∷ 0 ∷ []) ∷
    counts 3 is (0 ∷ 0 ∷ []) ∷
    []) ∷
    -- it is full; as an image, header, steps 0, 1, 2: the bits are 2 + 4, 1 + 16, 0 + 16
    refuses (call (add 0 3 1 0 0)) 8 ∷
    accepts (call (write (replicate 108 0xFF)))
    (answer is (108 ∷ 0 ∷ []) ∷
    bytes is
    (0x2A ∷ 0 ∷ 3 ∷ 0 ∷ 3 ∷ 0 ∷ 2 ∷ 0 ∷ 3 ∷ 0 ∷ 2 ∷ 0 ∷ 2 ∷ 0 ∷
    (replicate 28 0 ++
    (0x16 ∷ 0 ∷ 4 ∷ 0 ∷ 0 ∷ 0 ∷ 0 ∷ 0 ∷ 0 ∷ 0 ∷ 6 ∷ 0 ∷ 1 ∷ 0 ∷ 1 ∷ 0 ∷ 2 ∷ 0 ∷ 0 ∷ 0 ∷ 0 ∷ 0 ∷
    0x16 ∷ 0 ∷ 4 ∷ 0 ∷ 1 ∷ 0 ∷ 1 ∷ 0 ∷ 1 ∷ 0 ∷ 0x11 ∷ 0 ∷ 2 ∷ 0 ∷ 0 ∷ 0 ∷ 0 ∷ 0 ∷ 0 ∷ 0 ∷ 0 ∷ 0 ∷
    0x16 ∷ 0 ∷ 4 ∷ 0 ∷ 2 ∷ 0 ∷ 1 ∷ 0 ∷ 2 ∷ 0 ∷ 0x10 ∷ 0 ∷ 1 ∷ 0 ∷ 0 ∷ 0 ∷ 0 ∷ 0 ∷ 0 ∷ 0 ∷ 0 ∷ 0 ∷ []))) ∷
    []) ∷
    accepts (call (trial 4 (0 ∷ 0 ∷ []) (7 ∷ 7 ∷ 7 ∷ 7 ∷ []))) (answer is (1 ∷ 1 ∷ 3 ∷ []) ∷ bytes is (1 ∷ 2 ∷ 1 ∷ 7 ∷ []) ∷ []) ∷
    -- a larger capacity is no reason to refuse: the next step added is the one after the last
    accepts (call (squeeze 5 (sole_quotas 5))) (sizes is (5 ∷ 2 ∷ []) ∷ steps is (0 ∷ 1 ∷ 2 ∷ []) ∷ []) ∷
    accepts (call (add 0 3 3 600 0)) (answer is (3 ∷ 0 ∷ []) ∷ steps is (0 ∷ 1 ∷ 2 ∷ 3 ∷ []) ∷ []) ∷
    []

-- W3. F4 has an empty answered exit at step 0: "open" comes before "stopped".
unfoldable pub waits : List Entry
waits =
    accepts (call (trial 0 [] [])) (answer is (0 ∷ 0 ∷ 0 ∷ []) ∷ bytes is [] ∷ []) ∷
    -- "step 0 leads when answered to wait 1, whose answered exit leads to itself; limit 3 and no results give 'stopped' at step 1, 3 moves, trace 1 1 1."
    accepts (call (add 0 0 3 1 0)) (answer is (1 ∷ 0 ∷ []) ∷ []) ∷
    accepts (call (link 0 0 1 0)) (exit 1 0 is (weak_link ∷ 1 ∷ []) ∷ []) ∷
    accepts (call (trial 3 [] (7 ∷ 7 ∷ 7 ∷ []))) (answer is (2 ∷ 1 ∷ 3 ∷ []) ∷ bytes is (1 ∷ 1 ∷ 1 ∷ []) ∷ []) ∷
    -- a larger limit begins with the same trace; with a smaller one the trace past the moves is untouched
    accepts (call (trial 5 [] (7 ∷ 7 ∷ 7 ∷ 7 ∷ 7 ∷ []))) (answer is (2 ∷ 1 ∷ 5 ∷ []) ∷ bytes is (1 ∷ 1 ∷ 1 ∷ 1 ∷ 1 ∷ []) ∷ []) ∷
    accepts (call (trial 2 [] (7 ∷ 7 ∷ 7 ∷ []))) (answer is (2 ∷ 1 ∷ 2 ∷ []) ∷ bytes is (1 ∷ 1 ∷ 7 ∷ []) ∷ []) ∷
    accepts (call (trial 0 [] (7 ∷ []))) (answer is (2 ∷ 0 ∷ 0 ∷ []) ∷ bytes is (7 ∷ []) ∷ []) ∷
    -- results that no contact uses: more of them than the trace is long; one that is no exit is refused all the same
    accepts (call (trial 1 (1 ∷ 2 ∷ 3 ∷ []) (7 ∷ []))) (answer is (2 ∷ 1 ∷ 1 ∷ []) ∷ bytes is (1 ∷ []) ∷ []) ∷
    refuses (call (trial 1 (1 ∷ 2 ∷ 4 ∷ []) (7 ∷ []))) 10 ∷
    -- the trace is shorter than the limit
    refuses (call (trial 2 [] (7 ∷ []))) 11 ∷
    []

-- W3. The alarm leads to message 1, that to contact 2; the engaged exit of 2 leads to wait 3, that back to 2.
unfoldable pub messages : List Entry
messages =
    accepts (call (add 0 0 2 4 0)) (answer is (1 ∷ 0 ∷ []) ∷ []) ∷
    accepts (call (add 1 0 1 7 0)) (answer is (2 ∷ 0 ∷ []) ∷ []) ∷
    -- at the limit: stopped at the message; spent at the contact, which has no result left; open at it, where its exit is empty
    accepts (call (trial 1 [] (7 ∷ []))) (answer is (2 ∷ 1 ∷ 1 ∷ []) ∷ bytes is (1 ∷ []) ∷ []) ∷
    accepts (call (trial 2 [] (7 ∷ 7 ∷ []))) (answer is (1 ∷ 2 ∷ 2 ∷ []) ∷ bytes is (1 ∷ 2 ∷ []) ∷ []) ∷
    accepts (call (trial 2 (0 ∷ []) (7 ∷ 7 ∷ []))) (answer is (0 ∷ 2 ∷ 2 ∷ []) ∷ bytes is (1 ∷ 2 ∷ []) ∷ []) ∷
    accepts (call (add 2 1 3 30 0)) (answer is (3 ∷ 0 ∷ []) ∷ []) ∷
    accepts (call (link 1 0 3 0)) (exit 3 0 is (weak_link ∷ 2 ∷ []) ∷ []) ∷
    -- twice engaged, and then no result is left
    accepts (call (trial 8 (1 ∷ 1 ∷ []) (replicate 8 7)))
    (answer is (1 ∷ 2 ∷ 6 ∷ []) ∷ bytes is (1 ∷ 2 ∷ 3 ∷ 2 ∷ 3 ∷ 2 ∷ 7 ∷ 7 ∷ []) ∷ []) ∷
    -- the same within 5 moves; and engaged, then answered, with a result left over
    accepts (call (trial 5 (1 ∷ 1 ∷ []) (replicate 5 7))) (answer is (2 ∷ 3 ∷ 5 ∷ []) ∷ bytes is (1 ∷ 2 ∷ 3 ∷ 2 ∷ 3 ∷ []) ∷ []) ∷
    accepts (call (trial 8 (1 ∷ 0 ∷ 3 ∷ []) (replicate 8 7)))
    (answer is (0 ∷ 2 ∷ 4 ∷ []) ∷ bytes is (1 ∷ 2 ∷ 3 ∷ 2 ∷ 7 ∷ 7 ∷ 7 ∷ 7 ∷ []) ∷ []) ∷
    []

-- a copy of a weak link is weak too; and the ends of each range of contents. W9: a contact goes up to 999, which can be keyed, and 1000 cannot
unfoldable pub ends : List Entry
ends =
    accepts (call (add 0 0 1 999 0)) (what 1 is (1 ∷ 999 ∷ []) ∷ []) ∷
    accepts (call (link 0 0 0 1)) (exit 0 1 is (weak_link ∷ 1 ∷ []) ∷ []) ∷
    accepts (call (link 0 1 1 3)) (exit 1 3 is (weak_link ∷ 1 ∷ []) ∷ counts 1 is (1 ∷ 2 ∷ []) ∷ []) ∷
    refuses (call (add 0 2 1 1000 0)) 7 ∷
    refuses (call (add 0 2 2 16 0)) 7 ∷
    refuses (call (add 0 2 3 601 0)) 7 ∷
    accepts (call (add 0 2 2 15 0)) (what 2 is (2 ∷ 15 ∷ []) ∷ []) ∷
    accepts (call (add 0 3 3 600 0)) (what 3 is (3 ∷ 600 ∷ []) ∷ []) ∷
    accepts (call (clear 0 3)) (steps is (0 ∷ 1 ∷ 2 ∷ []) ∷ []) ∷
    refuses (call (key_line (line 10 1000311000))) 9 ∷
    accepts (call (key_line (line 9 100031999))) (what 3 is (1 ∷ 999 ∷ []) ∷ []) ∷
    []

-- W5: capacity 5, so 4 steps for the cabins. Cabin 0 is guaranteed 1 and may have 2, cabin 1 is guaranteed 2 and may have 2, cabin 2 is guaranteed none and
-- may have 4, the others may have none.
unfoldable pub shares5 : List ℕ
shares5 = 1 ∷ 2 ∷ 2 ∷ 2 ∷ 0 ∷ 4 ∷ replicate 10 0

unfoldable pub shared : List Entry
shared =
    accepts (begin (fresh 5 shares5)) (sizes is (5 ∷ 0 ∷ []) ∷ quotas is shares5 ∷ charges is replicate 8 0 ∷ cabin 0 is (0 ∷ []) ∷ []) ∷
    -- 16 directly after 1, whatever else is wrong
    refuses (call (add 9 9 9 9 8)) 16 ∷
    refuses (call (add 0 0 1 0 8)) 16 ∷
    refuses (call (add 9 9 9 9 7)) 3 ∷
    -- 4 steps are free and 3 of them reserved: cabin 2 gets the one left over
    accepts (call (add 0 0 1 0 2)) (answer is (1 ∷ 0 ∷ []) ∷ cabin 1 is (2 ∷ []) ∷ charges is (0 ∷ 0 ∷ 1 ∷ replicate 5 0) ∷ []) ∷
    refuses (call (add 0 1 1 0 2)) 15 ∷
    -- cabin 3 has a limit of 0: 14 before 15
    refuses (call (add 0 1 1 0 3)) 14 ∷
    -- cabin 0 gets its guarantee, and nothing more: 2 are free, for cabin 1
    accepts (call (add 0 1 1 0 0)) (answer is (2 ∷ 0 ∷ []) ∷ cabin 2 is (0 ∷ []) ∷ charges is (1 ∷ 0 ∷ 1 ∷ replicate 5 0) ∷ []) ∷
    refuses (call (add 0 2 1 0 0)) 15 ∷
    refuses (call (key_line (line 9 100021000))) 15 ∷
    accepts (call (add 0 2 1 0 1)) (answer is (3 ∷ 0 ∷ []) ∷ []) ∷
    accepts (call (add 0 3 1 0 1))
    (answer is (4 ∷ 0 ∷ []) ∷ steps is (0 ∷ 1 ∷ 2 ∷ 3 ∷ 4 ∷ []) ∷ charges is (1 ∷ 2 ∷ 1 ∷ replicate 5 0) ∷ []) ∷
    -- full, and cabin 1 is at its limit: 8 before 14
    refuses (call (add 1 0 1 0 1)) 8 ∷
    accepts (call (read 4)) (answer is (1 ∷ 0 ∷ 0 ∷ (replicate 8 0 ++ (1 ∷ 0 ∷ 1 ∷ []))) ∷ []) ∷
    -- the image says it: 42 + 5 * 22 bytes, and the cabins 0, 2, 0, 1, 1 last in the records
    accepts (call (write (replicate 152 7)))
    (answer is (152 ∷ 0 ∷ []) ∷
    bytes is
    (0x2A ∷ 0 ∷ 3 ∷ 0 ∷ 5 ∷ 0 ∷ 4 ∷ 0 ∷ 5 ∷ 0 ∷ 1 ∷ 0 ∷ 2 ∷ 0 ∷ 2 ∷ 0 ∷ 2 ∷ 0 ∷ 0 ∷ 0 ∷ 4 ∷ 0 ∷
    (replicate 20 0 ++
    (0x16 ∷ 0 ∷ 4 ∷ 0 ∷ 0 ∷ 0 ∷ 0 ∷ 0 ∷ 0 ∷ 0 ∷ 0 ∷ 0 ∷ 1 ∷ 0 ∷ 2 ∷ 0 ∷ 3 ∷ 0 ∷ 4 ∷ 0 ∷ 0 ∷ 0 ∷
    0x16 ∷ 0 ∷ 4 ∷ 0 ∷ 1 ∷ 0 ∷ 1 ∷ 0 ∷ 0 ∷ 0 ∷ 0 ∷ 0 ∷ 0 ∷ 0 ∷ 0 ∷ 0 ∷ 0 ∷ 0 ∷ 0 ∷ 0 ∷ 2 ∷ 0 ∷
    0x16 ∷ 0 ∷ 4 ∷ 0 ∷ 2 ∷ 0 ∷ 1 ∷ 0 ∷ 0 ∷ 0 ∷ 0 ∷ 0 ∷ 0 ∷ 0 ∷ 0 ∷ 0 ∷ 0 ∷ 0 ∷ 0 ∷ 0 ∷ 0 ∷ 0 ∷
    0x16 ∷ 0 ∷ 4 ∷ 0 ∷ 3 ∷ 0 ∷ 1 ∷ 0 ∷ 0 ∷ 0 ∷ 0 ∷ 0 ∷ 0 ∷ 0 ∷ 0 ∷ 0 ∷ 0 ∷ 0 ∷ 0 ∷ 0 ∷ 1 ∷ 0 ∷
    0x16 ∷ 0 ∷ 4 ∷ 0 ∷ 4 ∷ 0 ∷ 1 ∷ 0 ∷ 0 ∷ 0 ∷ 0 ∷ 0 ∷ 0 ∷ 0 ∷ 0 ∷ 0 ∷ 0 ∷ 0 ∷ 0 ∷ 0 ∷ 1 ∷ 0 ∷ []))) ∷
    []) ∷
    -- the step of cabin 2 goes, and with it its cabin; the place is nobody's reserve, so cabin 0 may have a second step, and a key line is cabin 0's
    accepts (call (clear 0 0)) (answer is (1 ∷ 1 ∷ []) ∷ cabin 1 is (0 ∷ []) ∷ charges is (1 ∷ 2 ∷ replicate 6 0) ∷ []) ∷
    refuses (call (add 0 0 1 0 1)) 14 ∷
    accepts (call (key_line (line 9 100001000))) (answer is (1 ∷ 0 ∷ []) ∷ cabin 1 is (0 ∷ []) ∷ charges is (2 ∷ 2 ∷ replicate 6 0) ∷ []) ∷
    []

-- W5: lists of quotas, on that table: 2 before 16 before 13. The guarantees together are at most the capacity less 1; a sum is not cut to 16 bits.
unfoldable pub lists : List Entry
lists =
    refuses (call (squeeze 0 [])) 2 ∷
    refuses (call (squeeze 4 (5 ∷ 5 ∷ replicate 14 0))) 16 ∷
    refuses (call (squeeze 4 (1 ∷ 2 ∷ 2 ∷ 2 ∷ replicate 12 0))) 13 ∷
    refuses (call (squeeze 5 (3 ∷ 2 ∷ replicate 14 9))) 16 ∷
    -- cabin 1's two steps are above its limit; the one free step is too few for the guarantees of cabins 2 and 3
    refuses (call (squeeze 6 (sole_quotas 6))) 13 ∷
    refuses (call (squeeze 6 (0 ∷ 9 ∷ 0 ∷ 9 ∷ 1 ∷ 9 ∷ 1 ∷ 9 ∷ replicate 8 0))) 13 ∷
    accepts (call (squeeze 6 (0 ∷ 2 ∷ 0 ∷ 9 ∷ 1 ∷ 9 ∷ 0 ∷ 9 ∷ replicate 8 0)))
    (sizes is (6 ∷ 4 ∷ []) ∷
    quotas is (0 ∷ 2 ∷ 0 ∷ 9 ∷ 1 ∷ 9 ∷ 0 ∷ 9 ∷ replicate 8 0) ∷
    charges is (2 ∷ 2 ∷ replicate 6 0) ∷
    cabin 3 is (1 ∷ []) ∷
    []) ∷
    -- cabin 0 has 2 of 2, by call and by key line; cabin 1 may have more, but the free step is cabin 2's
    refuses (call (add 1 0 1 0 0)) 14 ∷
    refuses (call (key_line (line 9 100101000))) 14 ∷
    refuses (call (add 1 0 1 0 1)) 15 ∷
    accepts (call (add 1 0 1 0 2)) (answer is (5 ∷ 0 ∷ []) ∷ charges is (2 ∷ 2 ∷ 1 ∷ replicate 5 0) ∷ []) ∷
    -- fresh: "Fresh gives 2, then 16"; refused, it hands back a table that guarantees and allows nothing
    refuses (begin (fresh 0 [])) 2 ∷
    accepts (call (read 0)) (sizes is (1 ∷ 0 ∷ []) ∷ quotas is replicate 16 0 ∷ []) ∷
    refuses (begin (fresh 5 (2 ∷ 1 ∷ replicate 14 0))) 16 ∷
    refuses (begin (fresh 5 (1 ∷ 1 ∷ replicate 13 0))) 16 ∷
    refuses (begin (fresh 5 (replicate 15 0 ++ (0 ∷ 0 ∷ [])))) 16 ∷
    refuses (begin (fresh 5 (replicate 10 1 ++ replicate 6 0))) 16 ∷
    refuses (begin (fresh 128 (32768 ∷ 65535 ∷ 32768 ∷ 65535 ∷ replicate 12 0))) 16 ∷
    accepts (begin (fresh 5 (replicate 8 1 ++ (0 ∷ 65535 ∷ 0 ∷ 65535 ∷ 0 ∷ 65535 ∷ 0 ∷ 65535 ∷ [])))) (charges is replicate 8 0 ∷ []) ∷
    []

-- W8: step 0 holds step 1, which holds steps 2 and 3 and is held by step 2 in a ring; a weak link of step 0 holds step 3 too
unfoldable pub previews : List Entry
previews =
    accepts (call (add 0 0 1 7 0)) (answer is (1 ∷ 0 ∷ []) ∷ []) ∷
    accepts (call (add 1 0 1 8 0)) (answer is (2 ∷ 0 ∷ []) ∷ []) ∷
    accepts (call (add 1 1 2 9 0)) (answer is (3 ∷ 0 ∷ []) ∷ []) ∷
    accepts (call (link 0 0 2 0)) (exit 2 0 is (weak_link ∷ 1 ∷ []) ∷ []) ∷
    accepts (call (link 1 1 0 1)) (exit 0 1 is (weak_link ∷ 3 ∷ []) ∷ []) ∷
    -- the clearing's refusals, whatever the buffer, then 11, even where nothing would go
    refuses (call (preview 4 4 [])) 3 ∷
    refuses (call (preview 0 4 [])) 4 ∷
    refuses (call (preview 0 2 [])) 6 ∷
    refuses (call (preview 0 0 (replicate 126 9))) 11 ∷
    refuses (call (preview 0 1 (replicate 126 9))) 11 ∷
    -- three steps would be doubtful, and steps 1 and 2 would go: two bytes are written
    accepts (call (preview 0 0 (replicate 127 9)))
    (answer is (3 ∷ 2 ∷ []) ∷ bytes is (1 ∷ 2 ∷ replicate 125 9) ∷ steps is (0 ∷ 1 ∷ 2 ∷ 3 ∷ []) ∷ exit 0 0 is (strong_link ∷ 1 ∷ []) ∷
    exit 0 1 is (weak_link ∷ 3 ∷ []) ∷ own 3 is (0 ∷ []) ∷ counts 1 is (1 ∷ 1 ∷ []) ∷ counts 3 is (1 ∷ 1 ∷ []) ∷ []) ∷
    -- a weak link: nothing would go, and no byte is written
    accepts (call (preview 0 1 (replicate 128 9))) (answer is (0 ∷ 0 ∷ []) ∷ bytes is (replicate 128 9) ∷ []) ∷
    -- the same clearing, made next
    accepts (call (clear 0 0)) (answer is (3 ∷ 2 ∷ []) ∷ steps is (0 ∷ 3 ∷ []) ∷ exit 0 1 is (strong_link ∷ 3 ∷ []) ∷ []) ∷
    accepts (call (preview 0 1 (replicate 128 9))) (answer is (1 ∷ 1 ∷ []) ∷ bytes is (3 ∷ replicate 127 9) ∷ steps is (0 ∷ 3 ∷ []) ∷ []) ∷
    -- step 0 holds step 3, and step 3 holds step 1, which was given after it: ascending all the same
    accepts (begin (fresh 4 (sole_quotas 4))) [] ∷
    accepts (call (add 0 0 1 1 0)) [] ∷
    accepts (call (add 0 1 1 2 0)) [] ∷
    accepts (call (add 0 2 1 3 0)) (answer is (3 ∷ 0 ∷ []) ∷ []) ∷
    accepts (call (clear 0 0)) (answer is (1 ∷ 1 ∷ []) ∷ []) ∷
    accepts (call (add 3 0 1 4 0)) (answer is (1 ∷ 0 ∷ []) ∷ []) ∷
    accepts (call (preview 0 2 (replicate 127 9))) (answer is (2 ∷ 2 ∷ []) ∷ bytes is (1 ∷ 3 ∷ replicate 125 9) ∷ []) ∷
    -- 127 bytes are asked of a table of two steps too
    accepts (begin (fresh 2 (sole_quotas 2))) [] ∷
    accepts (call (add 0 0 1 7 0)) [] ∷
    refuses (call (preview 0 0 (replicate 126 9))) 11 ∷
    accepts (call (preview 0 0 (replicate 127 9))) (answer is (1 ∷ 1 ∷ []) ∷ bytes is (1 ∷ replicate 126 9) ∷ []) ∷
    []

-- who can be rung: held and rung are two things
unfoldable pub rings : List Entry
rings =
    -- nobody, and no byte is written
    accepts (call (rung (replicate 127 9))) (answer is (0 ∷ 0 ∷ []) ∷ bytes is (replicate 127 9) ∷ []) ∷
    -- a wait, and a contact in its engaged exit, by which no wait goes on
    accepts (call (add 0 0 3 60 0)) (answer is (1 ∷ 0 ∷ []) ∷ []) ∷
    accepts (call (add 1 1 1 7 0)) (answer is (2 ∷ 0 ∷ []) ∷ []) ∷
    accepts (call (rung (replicate 127 9))) (answer is (1 ∷ 0 ∷ []) ∷ bytes is (1 ∷ replicate 126 9) ∷ steps is (0 ∷ 1 ∷ 2 ∷ []) ∷ []) ∷
    -- a contact in its answered exit, which goes on to the other by its line fault
    accepts (call (add 1 0 1 8 0)) (answer is (3 ∷ 0 ∷ []) ∷ []) ∷
    accepts (call (rung (replicate 128 9))) (answer is (2 ∷ 1 ∷ []) ∷ bytes is (1 ∷ 3 ∷ replicate 126 9) ∷ []) ∷
    accepts (call (link 1 1 3 3)) [] ∷
    accepts (call (rung (replicate 127 9))) (answer is (3 ∷ 2 ∷ []) ∷ bytes is (1 ∷ 2 ∷ 3 ∷ replicate 124 9) ∷ []) ∷
    -- by engaged, and by answered
    accepts (call (clear 3 3)) (answer is (0 ∷ 0 ∷ []) ∷ []) ∷
    accepts (call (link 1 1 3 1)) [] ∷
    accepts (call (rung (replicate 127 9))) (answer is (3 ∷ 2 ∷ []) ∷ bytes is (1 ∷ 2 ∷ 3 ∷ replicate 124 9) ∷ []) ∷
    accepts (call (clear 3 1)) [] ∷
    accepts (call (link 1 1 3 0)) [] ∷
    accepts (call (rung (replicate 127 9))) (answer is (3 ∷ 2 ∷ []) ∷ bytes is (1 ∷ 2 ∷ 3 ∷ replicate 124 9) ∷ []) ∷
    -- a ring back to the wait changes nothing
    accepts (call (link 0 0 2 2)) [] ∷
    accepts (call (rung (replicate 127 9))) (answer is (3 ∷ 2 ∷ []) ∷ bytes is (1 ∷ 2 ∷ 3 ∷ replicate 124 9) ∷ exit 2 2 is (weak_link ∷ 1 ∷ []) ∷ []) ∷
    -- the alarm goes on by answered alone: all steps stay, and nobody is rung
    accepts (call (link 0 0 0 3)) [] ∷
    accepts (call (clear 0 0)) (answer is (3 ∷ 0 ∷ []) ∷ []) ∷
    accepts (call (rung (replicate 127 9))) (answer is (0 ∷ 0 ∷ []) ∷ bytes is (replicate 127 9) ∷ steps is (0 ∷ 1 ∷ 2 ∷ 3 ∷ []) ∷ []) ∷
    -- 127 bytes are asked, whatever the table
    refuses (call (rung (replicate 126 9))) 11 ∷
    -- a message and a contact behind it, and after a squeeze the same under new numbers
    accepts (begin (fresh 4 (sole_quotas 4))) [] ∷
    accepts (call (add 0 1 1 7 0)) (answer is (1 ∷ 0 ∷ []) ∷ []) ∷
    accepts (call (add 0 0 2 9 0)) (answer is (2 ∷ 0 ∷ []) ∷ []) ∷
    accepts (call (add 2 0 1 8 0)) (answer is (3 ∷ 0 ∷ []) ∷ []) ∷
    accepts (call (clear 0 1)) (answer is (1 ∷ 1 ∷ []) ∷ []) ∷
    accepts (call (rung (replicate 127 9))) (answer is (2 ∷ 1 ∷ []) ∷ bytes is (2 ∷ 3 ∷ replicate 125 9) ∷ []) ∷
    accepts (call (squeeze 3 (sole_quotas 3))) [] ∷
    accepts (call (rung (replicate 127 9))) (answer is (2 ∷ 1 ∷ []) ∷ bytes is (1 ∷ 2 ∷ replicate 125 9) ∷ []) ∷
    []

-- "I took one exit off the plan. Why does the alarm no longer ring the primary call centre?" A message, the caretaker's flat (contact 42), on no reply the
-- primary and nine more contacts; the alarm's engaged exit leads to the primary too
unfoldable pub flat : List Entry
flat =
    accepts (begin (fresh 13 (sole_quotas 13))) [] ∷
    accepts (call (add 0 0 2 4 0)) (answer is (1 ∷ 0 ∷ []) ∷ []) ∷
    accepts (call (add 1 0 1 42 0)) (answer is (2 ∷ 0 ∷ []) ∷ []) ∷
    accepts (call (add 2 2 1 0 0)) (answer is (3 ∷ 0 ∷ []) ∷ []) ∷
    accepts (call (add 3 2 1 1 0)) [] ∷
    accepts (call (add 4 2 1 2 0)) [] ∷
    accepts (call (add 5 2 1 3 0)) [] ∷
    accepts (call (add 6 2 1 4 0)) [] ∷
    accepts (call (add 7 2 1 5 0)) [] ∷
    accepts (call (add 8 2 1 6 0)) [] ∷
    accepts (call (add 9 2 1 7 0)) [] ∷
    accepts (call (add 10 2 1 8 0)) [] ∷
    accepts (call (add 11 2 1 9 0)) (answer is (12 ∷ 0 ∷ []) ∷ []) ∷
    accepts (call (link 2 2 0 1)) [] ∷
    -- all can be rung
    accepts (call (rung (replicate 127 0)))
    (answer is (12 ∷ 11 ∷ []) ∷ bytes is (1 ∷ 2 ∷ 3 ∷ 4 ∷ 5 ∷ 6 ∷ 7 ∷ 8 ∷ 9 ∷ 10 ∷ 11 ∷ 12 ∷ replicate 115 0) ∷ []) ∷
    -- the flat's no-reply exit cleared: nothing goes, and the primary and nine others are silent for ever
    accepts (call (clear 2 2)) (answer is (10 ∷ 0 ∷ []) ∷ steps is (0 ∷ 1 ∷ 2 ∷ 3 ∷ 4 ∷ 5 ∷ 6 ∷ 7 ∷ 8 ∷ 9 ∷ 10 ∷ 11 ∷ 12 ∷ []) ∷ []) ∷
    accepts (call (rung (replicate 127 0))) (answer is (2 ∷ 1 ∷ []) ∷ bytes is (1 ∷ 2 ∷ replicate 125 0) ∷ []) ∷
    []

unfoldable pub examples : List Run
examples =
    record { table = table_f4; entries = p1_to_p7 } ∷
    record { table = table_f4; entries = p8 } ∷
    record { table = table_f4; entries = p9 } ∷
    record { table = table_f4; entries = two_candidates ++ squeezes } ∷
    record { table = table_f4; entries = waits } ∷
    record { table = table_f4; entries = messages } ∷
    record { table = table_f4; entries = ends } ∷
    record { table = table_f4; entries = previews } ∷
    record { table = table_f4; entries = rings } ∷
    record { table = table_f4; entries = flat } ∷
    record { table = table_f4; entries = shared ++ lists } ∷
    []

-- "Fresh gives only 2, load only 12." W5 adds 16, in `lists`.
unfoldable pub beginnings : List Entry
beginnings =
    -- "Capacities 1 and 128 are accepted, 0 is refused."
    accepts (begin (fresh 1 (sole_quotas 1))) (sizes is (1 ∷ 0 ∷ []) ∷ steps is (0 ∷ []) ∷ []) ∷
    accepts (begin (fresh 128 (sole_quotas 128))) (sizes is (128 ∷ 0 ∷ []) ∷ []) ∷
    refuses (begin (fresh 0 (sole_quotas 0))) 2 ∷
    -- 2 "capacity not 1 to 128": "fresh 129"
    refuses (begin (fresh 129 (sole_quotas 129))) 2 ∷
    -- 12 "image not accepted": "no bytes"
    refuses (begin (load [])) 12 ∷
    -- 8 "steps in use equal the capacity": "fresh 1, then add"; add and key line
    accepts (begin (fresh 1 (sole_quotas 1))) [] ∷
    refuses (call (add 0 0 1 0 0)) 8 ∷
    refuses (call (key_line (line 9 100001000))) 8 ∷
    []

-- Where document 01 gives no example, most arguments below meet later conditions of the call's order too: such an entry shows which comes first.
-- "F4 with step 0 out of use"
unfoldable pub no_alarm : Table
no_alarm = let t = table_f4 in with_steps t t.last (set t.used 0 0) t.kinds t.contents t.own t.cabins

-- 1 "table not sound", from each call that can give it
unfoldable pub not_sound_reasons : List Entry
not_sound_reasons =
    refuses (call (add 1 4 0 0 8)) 1 ∷
    refuses (call (link 1 4 1 4)) 1 ∷
    refuses (call (clear 1 4)) 1 ∷
    refuses (call (rung [])) 1 ∷
    refuses (call (read 1)) 1 ∷
    refuses (call (trial 2 (0 ∷ 4 ∷ []) (7 ∷ []))) 1 ∷
    refuses (call (write (7 ∷ []))) 1 ∷
    refuses (call (key_line [])) 1 ∷
    refuses (call (squeeze 0 [])) 1 ∷
    refuses (call (clear_slip 1 4 [])) 1 ∷
    refuses (call (take_back [])) 1 ∷
    refuses (call (preview 1 4 [])) 1 ∷
    []

-- the reasons that F4 gives, and after P1 the others
unfoldable pub reasons : List Entry
reasons =
    -- add: 3, 4, 7 ("add 0, 0, 3, 0", "Wait 601 is refused.", and a kind below and above)
    refuses (call (add 1 4 0 0 0)) 3 ∷
    refuses (call (add 0 4 0 0 0)) 4 ∷
    refuses (call (add 0 0 3 0 0)) 7 ∷
    refuses (call (add 0 0 3 601 0)) 7 ∷
    refuses (call (add 0 0 0 0 0)) 7 ∷
    refuses (call (add 0 0 4 1 0)) 7 ∷
    -- link: source 3, 4, 6
    refuses (call (link 1 4 1 4)) 3 ∷
    refuses (call (link 0 4 1 4)) 4 ∷
    refuses (call (link 0 0 1 4)) 6 ∷
    -- clear: 3, 4 ("clear 0, 4"), 6 ("clear 0, 0")
    refuses (call (clear 1 4)) 3 ∷
    refuses (call (clear 0 4)) 4 ∷
    refuses (call (clear 0 0)) 6 ∷
    -- read: 3 ("read 1")
    refuses (call (read 1)) 3 ∷
    -- trial: 10 ("results 0, 4"), 11
    refuses (call (trial 2 (0 ∷ 4 ∷ []) (7 ∷ []))) 10 ∷
    refuses (call (trial 2 (0 ∷ 3 ∷ []) (7 ∷ []))) 11 ∷
    -- write: 11 ("F4 written into 29 bytes"; in edition 2 it has 64)
    refuses (call (write (replicate 63 7))) 11 ∷
    -- key line: 9 ("H*5A"), then its call's: add 3, 4, 7, link source 3, 4, 6, clear 3, 4, 6
    refuses (call (key_line (line 1 5))) 9 ∷
    refuses (call (key_line (line 9 100140000))) 3 ∷
    refuses (call (key_line (line 9 100040000))) 4 ∷
    refuses (call (key_line (line 9 100003000))) 7 ∷
    refuses (call (key_line (line 9 200140014))) 3 ∷
    refuses (call (key_line (line 9 200040014))) 4 ∷
    refuses (call (key_line (line 9 200000014))) 6 ∷
    refuses (call (key_line (line 5 30014))) 3 ∷
    refuses (call (key_line (line 5 30004))) 4 ∷
    refuses (call (key_line (line 5 30000))) 6 ∷
    -- accepted: H*4A speaks 1 in use and 3 free, and H*100001000A adds as P1 does
    accepts (call (key_line (line 1 4))) (answer is (1 ∷ 3 ∷ []) ∷ []) ∷
    accepts (call (key_line (line 9 100001000))) (answer is (1 ∷ 0 ∷ []) ∷ steps is (0 ∷ 1 ∷ []) ∷ []) ∷
    -- add: 5 ("add twice at 0, 0")
    refuses (call (add 0 0 1 0 0)) 5 ∷
    refuses (call (add 0 0 0 0 0)) 5 ∷
    -- link: second 3, 4, 5
    refuses (call (link 0 0 2 4)) 3 ∷
    refuses (call (link 0 0 0 4)) 4 ∷
    refuses (call (link 0 0 0 0)) 5 ∷
    -- key line: add 5, link second 3, 4, 5
    refuses (call (key_line (line 9 100000000))) 5 ∷
    refuses (call (key_line (line 9 200000024))) 3 ∷
    refuses (call (key_line (line 9 200000004))) 4 ∷
    refuses (call (key_line (line 9 200000000))) 5 ∷
    -- accepted: read 1 has kind 1, content 0, own bit 0, no targets, no bits, counters 1 and 0, cabin 0
    accepts (call (read 1)) (answer is (1 ∷ 0 ∷ 0 ∷ (replicate 8 0 ++ (1 ∷ 0 ∷ 0 ∷ []))) ∷ []) ∷
    -- accepted: a trial that is spent at step 1 after 1 move, and one that is open there; the trace past the move is untouched
    accepts (call (trial 2 [] (7 ∷ 7 ∷ []))) (answer is (1 ∷ 1 ∷ 1 ∷ []) ∷ bytes is (1 ∷ 7 ∷ []) ∷ []) ∷
    accepts (call (trial 2 (3 ∷ []) (7 ∷ 7 ∷ []))) (answer is (0 ∷ 1 ∷ 1 ∷ []) ∷ bytes is (1 ∷ 7 ∷ []) ∷ []) ∷
    []

unfoldable pub refusals : List Run
refusals =
    record { table = table_f4; entries = beginnings } ∷
    record { table = no_alarm; entries = not_sound_reasons } ∷
    record { table = table_f4; entries = reasons } ∷
    []

-- key lines, byte by byte, and what they are decoded to: H*101231007A, H*201230123A, H*30123A, H*4A; H*5A is none
unfoldable pub key_lines : List (List ℕ × Option Command)
key_lines =
    (72 ∷ 42 ∷ 49 ∷ 48 ∷ 49 ∷ 50 ∷ 51 ∷ 49 ∷ 48 ∷ 48 ∷ 55 ∷ 65 ∷ [], Some (Add 12 3 1 7)) ∷
    (72 ∷ 42 ∷ 50 ∷ 48 ∷ 49 ∷ 50 ∷ 51 ∷ 48 ∷ 49 ∷ 50 ∷ 51 ∷ 65 ∷ [], Some (Link 12 3 12 3)) ∷
    (72 ∷ 42 ∷ 51 ∷ 48 ∷ 49 ∷ 50 ∷ 51 ∷ 65 ∷ [], Some (Clear 12 3)) ∷
    (72 ∷ 42 ∷ 52 ∷ 65 ∷ [], Some Count) ∷
    (72 ∷ 42 ∷ 53 ∷ 65 ∷ [], None) ∷
    []

abbrev pub Decodes : List (List ℕ × Option Command) → Type 0
Decodes [] = Unit {0}
Decodes (x ∷ xs) = (decode x.0 ≡ x.1) × Decodes xs

-- the numbers, from k on, of the tests that fail
unfoldable pub failing : ℕ → List Bool → List ℕ
failing k [] = []
failing k (true ∷ bs) = failing (suc k) bs
failing k (false ∷ bs) = k ∷ failing (suc k) bs

-- F4 after P1
unfoldable pub table_p1 : Table
table_p1 = (add_call table_f4 0 0 1 0 0).table

-- a table made unsound for each clause of soundness, with the numbers of the clauses that it fails; `sound_tests` has them in this order
unfoldable pub unsound : List (Table × List ℕ)
unsound =
    let t = table_f4 in
    let u = table_p1 in
    -- 0: an array is a place short
    (with_steps t t.last (take 127 t.used) t.kinds t.contents t.own t.cabins, 0 ∷ []) ∷
    -- 1: the capacity is 129; 2: the last number given is the capacity
    (with_numbers t 129 0 t.quotas, 1 ∷ []) ∷
    (with_numbers t 4 4 t.quotas, 2 ∷ []) ∷
    -- 3: a step at the capacity is in use (and so it is not reached)
    (with_steps t t.last (set t.used 4 1) (set t.kinds 4 1) t.contents t.own t.cabins, 3 ∷ 13 ∷ []) ∷
    -- 4: step 0 is not in use; 5: kind 4, contact 1000; 6: a step's bit is 2
    (no_alarm, 4 ∷ []) ∷
    (with_steps u u.last u.used (set u.kinds 1 4) u.contents u.own u.cabins, 5 ∷ []) ∷
    (with_steps u u.last u.used u.kinds (set u.contents 1 1000) u.own u.cabins, 5 ∷ []) ∷
    (with_steps t t.last t.used t.kinds t.contents (set t.own 0 2) t.cabins, 6 ∷ []) ∷
    -- 7: a link's bit is 2 (and so it is neither counted nor strong); 8: a link leads to a free step; 9: an empty exit has a bit
    (with_links u u.targets (set u.bits 0 2) u.counts, 7 ∷ 11 ∷ 13 ∷ []) ∷
    (with_links t (set t.targets 0 2) t.bits t.counts, 8 ∷ []) ∷
    (with_links t t.targets (set t.bits 0 1) t.counts, 9 ∷ []) ∷
    -- 10: a free step has a content; 11: counter 0 of step 1 is 2
    (with_steps t t.last t.used t.kinds (set t.contents 1 1) t.own t.cabins, 10 ∷ []) ∷
    (with_links u u.targets u.bits (set u.counts 2 2), 11 ∷ []) ∷
    -- 12: step 1 has a strong link to itself; 13: the one link to step 1 is weak
    (with_links u (set u.targets 4 1) u.bits (set u.counts 2 2), 12 ∷ []) ∷
    (with_links u u.targets (set u.bits 0 1) (set (set u.counts 2 0) 3 1), 13 ∷ []) ∷
    -- W5. 0: a cabin, or a number of the quotas, is missing; 10: a free step has a cabin
    (with_steps t t.last t.used t.kinds t.contents t.own (take 127 t.cabins), 0 ∷ []) ∷
    (with_numbers t 4 0 (take 15 t.quotas), 0 ∷ []) ∷
    (with_steps t t.last t.used t.kinds t.contents t.own (set t.cabins 1 1), 10 ∷ []) ∷
    -- 14: a guarantee is above its limit; the guarantees together are 4, and so too few steps are free for them
    (with_numbers t 4 0 (3 ∷ 2 ∷ replicate 14 0), 14 ∷ []) ∷
    (with_numbers t 4 0 (2 ∷ 2 ∷ 2 ∷ 2 ∷ replicate 12 0), 14 ∷ 17 ∷ []) ∷
    -- 15: the cabin of step 1 is 8, with no guarantee for cabin 0; 16: step 0 has a cabin
    (with_numbers (with_steps u u.last u.used u.kinds u.contents u.own (set u.cabins 1 8)) 4 1 (0 ∷ 3 ∷ replicate 14 0), 15 ∷ []) ∷
    (with_steps t t.last t.used t.kinds t.contents t.own (set t.cabins 0 1), 16 ∷ []) ∷
    -- 17: cabin 0 is charged 1 with a limit of 0; 2 steps are free, and cabin 1 is guaranteed 3
    (with_numbers u 4 1 (replicate 16 0), 17 ∷ []) ∷
    (with_numbers u 4 1 (0 ∷ 3 ∷ 3 ∷ 3 ∷ replicate 12 0), 17 ∷ []) ∷
    []

unfoldable pub fail_as_said : List (Table × List ℕ) → Bool
fail_as_said [] = true
fail_as_said (x ∷ xs) = same (failing 0 (sound_tests x.0)) x.1 && fail_as_said xs
