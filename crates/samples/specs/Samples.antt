-- Examples of images and slips, byte by byte: P10 of document 01 ("Edits on F4"), sorted records (document 02, W1), editions (W5), conversions (W6),
-- slips (W7), phone books (W9) and clearings in two orders (W14); and two tables with one plan and different images (W1). The entries of a run are made
-- one after the other, each on the table that the one before left. Assumes nothing.
--   samples            the table
--   Twins              two tables with one plan and different images
--   crossed chained    the tables that are cleared in two orders; CrossedEnd, what both orders leave of the first
use Rattle.std.specs.Prelude.{◌≡◌, true, List, [], ◌∷◌, ◌++◌, ℕ, set, take, replicate}
use Rattle.table.specs.Table.{Table, in_use, kind_of, content_of, cabin_of, target_of}
use Rattle.table.specs.declared.Ending.TheVariants.{Spent}
use Rattle.table.specs.Answer.{refusal_of}
use Rattle.table.specs.Trial.{ended, trial_call}
use Rattle.table.specs.Plan.{plan_of}
use Rattle.table.specs.Orders.{Exit, clear_second}
use Rattle.image.specs.Image.{edition1, edition2, written_edition, image}
use Rattle.history.specs.History.{load, add, link, clear, write, clear_slip, take_back}
use Rattle.history.specs.Acts.{begin, call, convert}
use Rattle.cases.specs.Cases.{weak_link, strong_link, Entry, Run, table_left, table_f4, ◌is◌, accepts, refuses, answer, bytes, sizes, steps, what, own, counts, exit, quotas, charges}
use Rattle.cases.specs.Bytes.{header_p5, step0_p5, step1_p5, step2_p5, image_p5, old_header_p5, old_step0_p5, old_step1_p5, old_step2_p5}

-- P10 "F4 as an image, hex: 0A 00 01 00 04 00 00 00 01 00 14 00 02 00, then sixteen 00."
unfoldable pub image_f4 : List ℕ
image_f4 =
    0x0A ∷ 0x00 ∷ 0x01 ∷ 0x00 ∷ 0x04 ∷ 0x00 ∷ 0x00 ∷ 0x00 ∷ 0x01 ∷ 0x00 ∷ 0x14 ∷ 0x00 ∷ 0x02 ∷ 0x00 ∷ replicate 16 0x00

-- W5: "The writer writes edition 2, .. and P10 belongs to W6." F4 is written with a header of 42 bytes, which has cabin 0's 3 and 3, and a record of 22
-- bytes; converted down it is P10's image, and that converted up is what was written. Both load as F4.
unfoldable pub new_image_f4 : List ℕ
new_image_f4 = 0x2A ∷ 0 ∷ 3 ∷ 0 ∷ 4 ∷ 0 ∷ 0 ∷ 0 ∷ 1 ∷ 0 ∷ 3 ∷ 0 ∷ 3 ∷ 0 ∷ (replicate 28 0 ++ (0x16 ∷ 0 ∷ 4 ∷ 0 ∷ replicate 18 0))

unfoldable pub p10 : List Entry
p10 =
    accepts (call (write (replicate 66 0xFF))) (answer is (64 ∷ 0 ∷ []) ∷ bytes is (new_image_f4 ++ replicate 2 0xFF) ∷ []) ∷
    accepts (convert edition1 new_image_f4 (replicate 32 0xFF)) (answer is (30 ∷ 0 ∷ []) ∷ bytes is (image_f4 ++ replicate 2 0xFF) ∷ []) ∷
    accepts (convert edition2 image_f4 (replicate 64 0xFF)) (answer is (64 ∷ 0 ∷ []) ∷ bytes is new_image_f4 ∷ []) ∷
    accepts (begin (load image_f4))
    (answer is (0 ∷ 0 ∷ []) ∷ sizes is (4 ∷ 0 ∷ []) ∷ steps is (0 ∷ []) ∷ what 0 is (0 ∷ 0 ∷ []) ∷ quotas is (3 ∷ 3 ∷ replicate 14 0) ∷ []) ∷
    accepts (call (write (replicate 66 0xFF))) (bytes is (new_image_f4 ++ replicate 2 0xFF) ∷ []) ∷
    accepts (begin (load new_image_f4)) (sizes is (4 ∷ 0 ∷ []) ∷ steps is (0 ∷ []) ∷ quotas is (3 ∷ 3 ∷ replicate 14 0) ∷ []) ∷
    []

-- W1: the same records in two other orders load as the same table, and are written in ascending step number
unfoldable pub sorted : List Entry
sorted =
    accepts (begin (load (header_p5 ++ step2_p5 ++ step0_p5 ++ step1_p5))) (sizes is (4 ∷ 2 ∷ []) ∷ steps is (0 ∷ 1 ∷ 2 ∷ []) ∷ []) ∷
    accepts (call (write (replicate 110 0xFF))) (answer is (108 ∷ 0 ∷ []) ∷ bytes is (image_p5 ++ (0xFF ∷ 0xFF ∷ [])) ∷ []) ∷
    accepts (begin (load (header_p5 ++ step1_p5 ++ step2_p5 ++ step0_p5))) (sizes is (4 ∷ 2 ∷ []) ∷ steps is (0 ∷ 1 ∷ 2 ∷ []) ∷ []) ∷
    accepts (call (write (replicate 108 0xFF))) (answer is (108 ∷ 0 ∷ []) ∷ bytes is image_p5 ∷ []) ∷
    []

-- W5: the records of edition 1 load in any order, with all steps charged to cabin 0 and its 3 and 3; what is written is of edition 2. An image that mixes
-- editions is not accepted, and neither is one of edition 1 whose capacity is 0.
unfoldable pub editions : List Entry
editions =
    accepts (begin (load (old_header_p5 ++ old_step2_p5 ++ old_step0_p5 ++ old_step1_p5)))
    (sizes is (4 ∷ 2 ∷ []) ∷ steps is (0 ∷ 1 ∷ 2 ∷ []) ∷ quotas is (3 ∷ 3 ∷ replicate 14 0) ∷ charges is (2 ∷ replicate 7 0) ∷ []) ∷
    accepts (call (write (replicate 108 0xFF))) (answer is (108 ∷ 0 ∷ []) ∷ bytes is image_p5 ∷ []) ∷
    refuses (begin (load (header_p5 ++ old_step0_p5 ++ old_step1_p5 ++ old_step2_p5))) 12 ∷
    refuses (begin (load (old_header_p5 ++ step0_p5 ++ step1_p5 ++ step2_p5))) 12 ∷
    refuses (begin (load (header_p5 ++ step0_p5 ++ step1_p5 ++ old_step2_p5))) 12 ∷
    refuses (begin (load (set image_p5 66 2))) 12 ∷
    refuses (begin (load (set image_f4 4 0))) 12 ∷
    -- in edition 2: a cabin of step 0, a cabin above 7, a guarantee above its limit, a limit below the charge
    refuses (begin (load (set image_p5 62 1))) 12 ∷
    refuses (begin (load (set image_p5 84 8))) 12 ∷
    refuses (begin (load (set image_p5 12 2))) 12 ∷
    refuses (begin (load (set (set image_p5 10 1) 12 1))) 12 ∷
    []

-- W1: two tables with one plain plan, in which exits 0 and 1 of step 0 lead to step 1, and with other strengths: their images differ in the bits of
-- step 0, which are 2 where exit 0 is strong and 1 where exit 1 is
unfoldable pub image_twin : ℕ → List ℕ
image_twin bits =
    0x2A ∷ 0 ∷ 3 ∷ 0 ∷ 4 ∷ 0 ∷ 1 ∷ 0 ∷ 2 ∷ 0 ∷ 3 ∷ 0 ∷ 3 ∷ 0 ∷
    (replicate 28 0 ++
    (0x16 ∷ 0 ∷ 4 ∷ 0 ∷ 0 ∷ 0 ∷ 0 ∷ 0 ∷ 0 ∷ 0 ∷ bits ∷ 0 ∷ 1 ∷ 0 ∷ 1 ∷ 0 ∷ 0 ∷ 0 ∷ 0 ∷ 0 ∷ 0 ∷ 0 ∷
    0x16 ∷ 0 ∷ 4 ∷ 0 ∷ 1 ∷ 0 ∷ 1 ∷ 0 ∷ 0 ∷ 0 ∷ 0 ∷ 0 ∷ 0 ∷ 0 ∷ 0 ∷ 0 ∷ 0 ∷ 0 ∷ 0 ∷ 0 ∷ 0 ∷ 0 ∷ []))

-- W6: the records that P5 leaves, in other orders, up and down: bits and targets go along, and the records come out in ascending order. The lengths are
-- 42 + 3 * 22 and 10 + 3 * 20.
unfoldable pub conversions : List Entry
conversions =
    accepts (convert edition2 (old_header_p5 ++ old_step2_p5 ++ old_step0_p5 ++ old_step1_p5) (replicate 110 0xFF))
    (answer is (108 ∷ 0 ∷ []) ∷ bytes is (image_p5 ++ (0xFF ∷ 0xFF ∷ [])) ∷ []) ∷
    accepts (convert edition1 (header_p5 ++ step1_p5 ++ step2_p5 ++ step0_p5) (replicate 70 0xFF))
    (answer is (70 ∷ 0 ∷ []) ∷ bytes is (old_header_p5 ++ old_step0_p5 ++ old_step1_p5 ++ old_step2_p5) ∷ []) ∷
    -- up: 12 for no image and for one of edition 2, whatever the buffer; then 11
    refuses (convert edition2 [] []) 12 ∷
    refuses (convert edition2 new_image_f4 []) 12 ∷
    refuses (convert edition2 new_image_f4 (replicate 64 7)) 12 ∷
    refuses (convert edition2 image_f4 (replicate 63 7)) 11 ∷
    -- down: 12 for an image of edition 1, and for a bad one that has another list too (byte 6: the last number given is the capacity)
    refuses (convert edition1 image_f4 (replicate 64 7)) 12 ∷
    refuses (convert edition1 (set (set new_image_f4 40 1) 6 4) []) 12 ∷
    -- 17: cabin 0's guarantee is 2, its limit is 4, cabin 7's limit is 1; the last with a buffer that is too short
    refuses (convert edition1 (set new_image_f4 10 2) (replicate 30 7)) 17 ∷
    refuses (convert edition1 (set new_image_f4 12 4) (replicate 30 7)) 17 ∷
    refuses (convert edition1 (set new_image_f4 40 1) (replicate 29 7)) 17 ∷
    -- and a step of cabin 1, which may have it, as cabin 0 is guaranteed 2 only: bytes 10, 16 and 84
    refuses (convert edition1 (set (set (set (image_twin 2) 10 2) 16 1) 84 1) (replicate 50 7)) 17 ∷
    refuses (convert edition1 new_image_f4 (replicate 29 7)) 11 ∷
    []

-- W9: capacity 2 with the alarm and one step, of a kind and with a content given as its two bytes, in edition 1 and in edition 2
unfoldable pub old_book : ℕ → ℕ → ℕ → List ℕ
old_book kind low high =
    0x0A ∷ 0 ∷ 1 ∷ 0 ∷ 2 ∷ 0 ∷ 1 ∷ 0 ∷ 2 ∷ 0 ∷
    0x14 ∷ 0 ∷ 2 ∷ 0 ∷ 0 ∷ 0 ∷ 0 ∷ 0 ∷ 0 ∷ 0 ∷ 0 ∷ 0 ∷ 1 ∷ 0 ∷ 0 ∷ 0 ∷ 0 ∷ 0 ∷ 0 ∷ 0 ∷
    0x14 ∷ 0 ∷ 2 ∷ 0 ∷ 1 ∷ 0 ∷ kind ∷ 0 ∷ low ∷ high ∷ 0 ∷ 0 ∷ replicate 8 0

unfoldable pub new_book : ℕ → ℕ → ℕ → List ℕ
new_book kind low high =
    0x2A ∷ 0 ∷ 3 ∷ 0 ∷ 2 ∷ 0 ∷ 1 ∷ 0 ∷ 2 ∷ 0 ∷ 1 ∷ 0 ∷ 1 ∷ 0 ∷
    (replicate 28 0 ++
    (0x16 ∷ 0 ∷ 4 ∷ 0 ∷ 0 ∷ 0 ∷ 0 ∷ 0 ∷ 0 ∷ 0 ∷ 0 ∷ 0 ∷ 1 ∷ 0 ∷ 0 ∷ 0 ∷ 0 ∷ 0 ∷ 0 ∷ 0 ∷ 0 ∷ 0 ∷
    0x16 ∷ 0 ∷ 4 ∷ 0 ∷ 1 ∷ 0 ∷ kind ∷ 0 ∷ low ∷ high ∷ 0 ∷ 0 ∷ replicate 10 0))

unfoldable pub books : List Entry
books =
    -- edition 1: contact 99 loads and goes up; 100 does neither
    accepts (begin (load (old_book 1 99 0))) (steps is (0 ∷ 1 ∷ []) ∷ what 1 is (1 ∷ 99 ∷ []) ∷ []) ∷
    accepts (convert edition2 (old_book 1 99 0) (replicate 86 0xFF)) (answer is (86 ∷ 0 ∷ []) ∷ bytes is new_book 1 99 0 ∷ []) ∷
    refuses (begin (load (old_book 1 100 0))) 12 ∷
    refuses (convert edition2 (old_book 1 100 0) (replicate 86 7)) 12 ∷
    -- edition 2: contacts 100 and 999 (E7 03 hex) load, 1000 does not
    accepts (begin (load (new_book 1 100 0))) (what 1 is (1 ∷ 100 ∷ []) ∷ []) ∷
    accepts (begin (load (new_book 1 0xE7 3))) (what 1 is (1 ∷ 999 ∷ []) ∷ []) ∷
    refuses (begin (load (new_book 1 0xE8 3))) 12 ∷
    -- going down, where cabin 0 has the plan to itself: contact 99 goes; 100 gets 17, whatever the buffer; 1000 gets 12 first
    accepts (convert edition1 (new_book 1 99 0) (replicate 50 0xFF)) (answer is (50 ∷ 0 ∷ []) ∷ bytes is old_book 1 99 0 ∷ []) ∷
    refuses (convert edition1 (new_book 1 100 0) (replicate 50 7)) 17 ∷
    refuses (convert edition1 (new_book 1 100 0) []) 17 ∷
    refuses (convert edition1 (new_book 1 0xE8 3) []) 12 ∷
    -- a wait is no contact: 600 seconds (58 02 hex) load in edition 1 and go down
    accepts (begin (load (old_book 3 0x58 2))) (what 1 is (3 ∷ 600 ∷ []) ∷ []) ∷
    accepts (convert edition1 (new_book 3 0x58 2) (replicate 50 0xFF)) (bytes is old_book 3 0x58 2 ∷ []) ∷
    []

unfoldable pub first_strong : List Entry
first_strong =
    accepts (call (add 0 0 1 0 0)) [] ∷
    accepts (call (link 0 0 0 1)) (exit 0 0 is (strong_link ∷ 1 ∷ []) ∷ exit 0 1 is (weak_link ∷ 1 ∷ []) ∷ []) ∷
    accepts (call (write (replicate 86 0xFF))) (bytes is image_twin 2 ∷ []) ∷
    []

unfoldable pub second_strong : List Entry
second_strong =
    accepts (call (add 0 1 1 0 0)) [] ∷
    accepts (call (link 0 1 0 0)) (exit 0 0 is (weak_link ∷ 1 ∷ []) ∷ exit 0 1 is (strong_link ∷ 1 ∷ []) ∷ []) ∷
    accepts (call (write (replicate 86 0xFF))) (bytes is image_twin 1 ∷ []) ∷
    []

pub record Twins (t u : Table) : Type 0 where
  pub plan : plan_of t ≡ plan_of u
  pub images : image written_edition t ≡ image written_edition u → ⊥

-- W7: the slip of a clearing on F4 that frees contact 7, which was step 1: two changed steps. Step 0 had it in its first exit.
unfoldable pub freed_slip : List ℕ
freed_slip =
    (0 ∷ 0 ∷ 0 ∷ 0 ∷ 2 ∷ 0 ∷ []) ++
    ((22 ∷ 0 ∷ 4 ∷ 0 ∷ 0 ∷ 0 ∷ 0 ∷ 0 ∷ 0 ∷ 0 ∷ 0 ∷ 0 ∷ 1 ∷ 0 ∷ 0 ∷ 0 ∷ 0 ∷ 0 ∷ 0 ∷ 0 ∷ 0 ∷ 0 ∷ []) ++
    ((22 ∷ 0 ∷ 4 ∷ 0 ∷ replicate 18 0) ++
    ((22 ∷ 0 ∷ 4 ∷ 0 ∷ 1 ∷ 0 ∷ 1 ∷ 0 ∷ 7 ∷ 0 ∷ replicate 12 0) ++
    (22 ∷ 0 ∷ 4 ∷ 0 ∷ 1 ∷ 0 ∷ replicate 16 0))))

-- the slip of a clearing that turns two bits: steps 1 and 2 hold each other, and step 0 holds both, step 2 by a weak link
unfoldable pub turned_slip : List ℕ
turned_slip =
    (0 ∷ 0 ∷ 0 ∷ 0 ∷ 3 ∷ 0 ∷ []) ++
    ((22 ∷ 0 ∷ 4 ∷ 0 ∷ 0 ∷ 0 ∷ 0 ∷ 0 ∷ 0 ∷ 0 ∷ 2 ∷ 0 ∷ 1 ∷ 0 ∷ 2 ∷ 0 ∷ 0 ∷ 0 ∷ 0 ∷ 0 ∷ 0 ∷ 0 ∷ []) ++
    ((22 ∷ 0 ∷ 4 ∷ 0 ∷ 0 ∷ 0 ∷ 0 ∷ 0 ∷ 0 ∷ 0 ∷ 2 ∷ 0 ∷ 0 ∷ 0 ∷ 2 ∷ 0 ∷ 0 ∷ 0 ∷ 0 ∷ 0 ∷ 0 ∷ 0 ∷ []) ++
    ((22 ∷ 0 ∷ 4 ∷ 0 ∷ 1 ∷ 0 ∷ 1 ∷ 0 ∷ 7 ∷ 0 ∷ 0 ∷ 0 ∷ 2 ∷ 0 ∷ replicate 8 0) ++
    ((22 ∷ 0 ∷ 4 ∷ 0 ∷ 1 ∷ 0 ∷ 1 ∷ 0 ∷ 7 ∷ 0 ∷ 16 ∷ 0 ∷ 2 ∷ 0 ∷ replicate 8 0) ++
    ((22 ∷ 0 ∷ 4 ∷ 0 ∷ 2 ∷ 0 ∷ 2 ∷ 0 ∷ 3 ∷ 0 ∷ 1 ∷ 0 ∷ 1 ∷ 0 ∷ replicate 8 0) ++
    (22 ∷ 0 ∷ 4 ∷ 0 ∷ 2 ∷ 0 ∷ 2 ∷ 0 ∷ 3 ∷ 0 ∷ 17 ∷ 0 ∷ 1 ∷ 0 ∷ replicate 8 0))))))

unfoldable pub regrets : List Entry
regrets =
    accepts (call (add 0 0 1 7 0)) (answer is (1 ∷ 0 ∷ []) ∷ []) ∷
    -- the clearing's refusals, whatever the buffer, then 11: this slip has 94 bytes
    refuses (call (clear_slip 2 4 [])) 3 ∷
    refuses (call (clear_slip 0 4 [])) 4 ∷
    refuses (call (clear_slip 0 1 [])) 6 ∷
    refuses (call (clear_slip 0 0 (replicate 93 9))) 11 ∷
    -- the slip, and the byte past it as it was; the last number given stays
    accepts (call (clear_slip 0 0 (replicate 95 9)))
    (answer is (1 ∷ 1 ∷ []) ∷ bytes is (freed_slip ++ (9 ∷ [])) ∷ steps is (0 ∷ []) ∷ sizes is (4 ∷ 1 ∷ []) ∷ []) ∷
    -- 18: no bytes, a byte after the slip, a byte less, and the slip of another clearing
    refuses (call (take_back [])) 18 ∷
    refuses (call (take_back (freed_slip ++ (0 ∷ [])))) 18 ∷
    refuses (call (take_back (take 93 freed_slip))) 18 ∷
    refuses (call (take_back turned_slip)) 18 ∷
    -- taken back: one step is back, and the table is the one from before
    accepts (call (take_back freed_slip))
    (answer is (1 ∷ 0 ∷ []) ∷ steps is (0 ∷ 1 ∷ []) ∷ what 1 is (1 ∷ 7 ∷ []) ∷ exit 0 0 is (strong_link ∷ 1 ∷ []) ∷ counts 1 is (1 ∷ 0 ∷ []) ∷
    sizes is (4 ∷ 1 ∷ []) ∷ []) ∷
    refuses (call (take_back freed_slip)) 18 ∷
    -- a clearing that frees none and turns two bits: its slip has them
    accepts (call (add 1 0 2 3 0)) (answer is (2 ∷ 0 ∷ []) ∷ []) ∷
    accepts (call (link 0 0 2 0)) [] ∷
    accepts (call (link 1 0 0 1)) (exit 0 1 is (weak_link ∷ 2 ∷ []) ∷ []) ∷
    accepts (call (clear_slip 0 0 (replicate 138 9)))
    (answer is (2 ∷ 0 ∷ []) ∷ bytes is turned_slip ∷ own 1 is (1 ∷ []) ∷ own 2 is (1 ∷ []) ∷ exit 0 1 is (strong_link ∷ 2 ∷ []) ∷
    exit 2 0 is (strong_link ∷ 1 ∷ []) ∷ exit 1 0 is (weak_link ∷ 2 ∷ []) ∷ []) ∷
    accepts (call (take_back turned_slip))
    (answer is (0 ∷ 0 ∷ []) ∷ own 1 is (0 ∷ []) ∷ own 2 is (0 ∷ []) ∷ exit 0 0 is (strong_link ∷ 1 ∷ []) ∷ exit 0 1 is (weak_link ∷ 2 ∷ []) ∷
    exit 2 0 is (weak_link ∷ 1 ∷ []) ∷ exit 1 0 is (strong_link ∷ 2 ∷ []) ∷ counts 1 is (1 ∷ 1 ∷ []) ∷ counts 2 is (1 ∷ 1 ∷ []) ∷ []) ∷
    -- the weak link to step 2: of step 2 the counters alone change, so step 0 alone is in the slip
    refuses (call (clear_slip 0 1 (replicate 49 9))) 11 ∷
    accepts (call (clear_slip 0 1 (replicate 50 9)))
    (answer is (0 ∷ 0 ∷ []) ∷
    bytes is
    ((0 ∷ 0 ∷ 1 ∷ 0 ∷ 1 ∷ 0 ∷ []) ++
    ((22 ∷ 0 ∷ 4 ∷ 0 ∷ 0 ∷ 0 ∷ 0 ∷ 0 ∷ 0 ∷ 0 ∷ 2 ∷ 0 ∷ 1 ∷ 0 ∷ 2 ∷ 0 ∷ 0 ∷ 0 ∷ 0 ∷ 0 ∷ 0 ∷ 0 ∷ []) ++
    (22 ∷ 0 ∷ 4 ∷ 0 ∷ 0 ∷ 0 ∷ 0 ∷ 0 ∷ 0 ∷ 0 ∷ 0 ∷ 0 ∷ 1 ∷ 0 ∷ replicate 8 0))) ∷
    counts 2 is (1 ∷ 0 ∷ []) ∷ []) ∷
    []

-- W14: step 0 holds steps 1 and 2, step 1 by two exits; step 1 holds steps 2 and 3, step 2 holds step 3
unfoldable pub crossing : List Entry
crossing =
    accepts (call (add 0 1 1 1 0)) [] ∷
    accepts (call (add 0 2 1 2 0)) [] ∷
    accepts (call (link 0 1 0 0)) [] ∷
    accepts (call (add 1 0 1 3 0)) [] ∷
    accepts (call (link 0 2 1 1)) [] ∷
    accepts (call (link 1 0 2 0)) (exit 0 0 is (weak_link ∷ 1 ∷ []) ∷ exit 1 1 is (weak_link ∷ 2 ∷ []) ∷ exit 2 0 is (weak_link ∷ 3 ∷ []) ∷ []) ∷
    []

unfoldable pub crossed : Table
crossed = table_left table_f4 crossing

-- what is left of it when exits 1 and 2 of step 0 are cleared, by the bits of steps 1 and 2: all four steps are still in use
unfoldable pub image_crossed : ℕ → ℕ → List ℕ
image_crossed bits1 bits2 =
    0x2A ∷ 0 ∷ 3 ∷ 0 ∷ 4 ∷ 0 ∷ 3 ∷ 0 ∷ 4 ∷ 0 ∷ 3 ∷ 0 ∷ 3 ∷ 0 ∷
    (replicate 28 0 ++
    (0x16 ∷ 0 ∷ 4 ∷ 0 ∷ 0 ∷ 0 ∷ 0 ∷ 0 ∷ 0 ∷ 0 ∷ 1 ∷ 0 ∷ 1 ∷ 0 ∷ 0 ∷ 0 ∷ 0 ∷ 0 ∷ 0 ∷ 0 ∷ 0 ∷ 0 ∷
    0x16 ∷ 0 ∷ 4 ∷ 0 ∷ 1 ∷ 0 ∷ 1 ∷ 0 ∷ 1 ∷ 0 ∷ bits1 ∷ 0 ∷ 3 ∷ 0 ∷ 2 ∷ 0 ∷ 0 ∷ 0 ∷ 0 ∷ 0 ∷ 0 ∷ 0 ∷
    0x16 ∷ 0 ∷ 4 ∷ 0 ∷ 2 ∷ 0 ∷ 1 ∷ 0 ∷ 2 ∷ 0 ∷ bits2 ∷ 0 ∷ 3 ∷ 0 ∷ 0 ∷ 0 ∷ 0 ∷ 0 ∷ 0 ∷ 0 ∷ 0 ∷ 0 ∷
    0x16 ∷ 0 ∷ 4 ∷ 0 ∷ 3 ∷ 0 ∷ 1 ∷ 0 ∷ 3 ∷ 0 ∷ 16 ∷ 0 ∷ replicate 10 0))

-- one order makes 2 and 1 steps doubtful and leaves step 2's link weak
unfoldable pub first_order : List Entry
first_order =
    accepts (call (clear 0 1)) (answer is (2 ∷ 0 ∷ []) ∷ []) ∷
    accepts (call (clear 0 2)) (answer is (1 ∷ 0 ∷ []) ∷ steps is (0 ∷ 1 ∷ 2 ∷ 3 ∷ []) ∷ exit 2 0 is (weak_link ∷ 3 ∷ []) ∷ []) ∷
    accepts (call (write (replicate 130 0xFF))) (bytes is image_crossed 19 16 ∷ []) ∷
    []

-- the other makes 1 and 3 doubtful and leaves it strong; an exit that was cleared is empty
unfoldable pub second_order : List Entry
second_order =
    accepts (call (clear 0 2)) (answer is (1 ∷ 0 ∷ []) ∷ []) ∷
    accepts (call (clear 0 1)) (answer is (3 ∷ 0 ∷ []) ∷ steps is (0 ∷ 1 ∷ 2 ∷ 3 ∷ []) ∷ exit 2 0 is (strong_link ∷ 3 ∷ []) ∷ []) ∷
    refuses (call (clear 0 2)) 6 ∷
    accepts (call (write (replicate 130 0xFF))) (bytes is image_crossed 17 1 ∷ []) ∷
    []

-- the same clearings as lists
abbrev pub one_order : List Exit
one_order = (0, 1) ∷ (0, 2) ∷ []

abbrev pub other_order : List Exit
other_order = (0, 2) ∷ (0, 1) ∷ (0, 2) ∷ []

-- what both leave, in numbers: step 3, what the exit of step 2 leads to, and a trial that goes by all steps
pub record CrossedEnd (t : Table) : Type 0 where
  pub used : in_use t 3 ≡ true
  pub kind : kind_of t 3 ≡ 1
  pub content : content_of t 3 ≡ 3
  pub cabin : cabin_of t 3 ≡ 0
  pub stays : in_use t 2 ≡ true
  pub target : target_of t 2 0 ≡ 3
  pub rung : trial_call t 4 (1 ∷ 0 ∷ []) (7 ∷ 7 ∷ 7 ∷ 7 ∷ []) ≡ ended Spent 3 3 (1 ∷ 2 ∷ 3 ∷ 7 ∷ [])

-- step 0 holds step 1, which holds step 2: the first clearing frees the holder of the second exit, and in the other order both are accepted
unfoldable pub chaining : List Entry
chaining =
    accepts (call (add 0 0 1 1 0)) [] ∷
    accepts (call (add 1 0 1 2 0)) [] ∷
    []

unfoldable pub chained : Table
chained = table_left table_f4 chaining

unfoldable pub holder_first : List Entry
holder_first =
    accepts (call (clear 0 0)) (answer is (2 ∷ 2 ∷ []) ∷ steps is (0 ∷ []) ∷ sizes is (4 ∷ 2 ∷ []) ∷ []) ∷
    refuses (call (clear 1 0)) 3 ∷
    []

unfoldable pub holder_last : List Entry
holder_last =
    accepts (call (clear 1 0)) (answer is (1 ∷ 1 ∷ []) ∷ steps is (0 ∷ 1 ∷ []) ∷ []) ∷
    accepts (call (clear 0 0)) (answer is (1 ∷ 1 ∷ []) ∷ steps is (0 ∷ []) ∷ sizes is (4 ∷ 2 ∷ []) ∷ []) ∷
    []

-- the same of the second clearings alone
abbrev pub HolderFreed : Type 0
HolderFreed = (refusal_of (clear_second chained (0, 0) (1, 0)).answer ≡ 3) × (refusal_of (clear_second chained (1, 0) (0, 0)).answer ≡ 0)

unfoldable pub samples : List Run
samples =
    record { table = table_f4; entries = p10 } ∷
    record { table = table_f4; entries = sorted } ∷
    record { table = table_f4; entries = editions } ∷
    record { table = table_f4; entries = conversions } ∷
    record { table = table_f4; entries = books } ∷
    record { table = table_f4; entries = regrets } ∷
    record { table = table_f4; entries = first_strong } ∷
    record { table = table_f4; entries = second_strong } ∷
    record { table = table_f4; entries = crossing } ∷
    record { table = crossed; entries = first_order } ∷
    record { table = crossed; entries = second_order } ∷
    record { table = table_f4; entries = chaining } ∷
    record { table = chained; entries = holder_first } ∷
    record { table = chained; entries = holder_last } ∷
    []
