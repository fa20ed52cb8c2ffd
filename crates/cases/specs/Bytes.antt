-- The table that P5 leaves as an image of each edition, byte by byte, record by record (document 01, "Image"; document 02, W5). Assumes nothing.
use Rattle.std.specs.Prelude.{List, [], ◌∷◌, ◌++◌, ℕ, replicate}

-- the table that P5 leaves, as an image of edition 2. Header: length 42, kind 3, capacity 4, last number 2, 3 steps, then the guarantee and the limit of
-- each cabin, 3 and 3 for cabin 0; then the records of steps 0, 1, 2: length 22, kind 4, number, kind, content, bits, four targets, cabin. The bits are 2
-- (exit 1 of step 0), 16 (step 1), 4 + 16 (exit 2 of step 2, and step 2).
unfoldable pub header_p5 : List ℕ
header_p5 = 0x2A ∷ 0 ∷ 3 ∷ 0 ∷ 4 ∷ 0 ∷ 2 ∷ 0 ∷ 3 ∷ 0 ∷ 3 ∷ 0 ∷ 3 ∷ 0 ∷ replicate 28 0

unfoldable pub step0_p5 : List ℕ
step0_p5 = 0x16 ∷ 0 ∷ 4 ∷ 0 ∷ 0 ∷ 0 ∷ 0 ∷ 0 ∷ 0 ∷ 0 ∷ 2 ∷ 0 ∷ 0 ∷ 0 ∷ 2 ∷ 0 ∷ 0 ∷ 0 ∷ 0 ∷ 0 ∷ 0 ∷ 0 ∷ []

unfoldable pub step1_p5 : List ℕ
step1_p5 = 0x16 ∷ 0 ∷ 4 ∷ 0 ∷ 1 ∷ 0 ∷ 1 ∷ 0 ∷ 0 ∷ 0 ∷ 0x10 ∷ 0 ∷ 0 ∷ 0 ∷ 0 ∷ 0 ∷ 2 ∷ 0 ∷ 0 ∷ 0 ∷ 0 ∷ 0 ∷ []

unfoldable pub step2_p5 : List ℕ
step2_p5 = 0x16 ∷ 0 ∷ 4 ∷ 0 ∷ 2 ∷ 0 ∷ 1 ∷ 0 ∷ 1 ∷ 0 ∷ 0x14 ∷ 0 ∷ 0 ∷ 0 ∷ 0 ∷ 0 ∷ 1 ∷ 0 ∷ 0 ∷ 0 ∷ 0 ∷ 0 ∷ []

unfoldable pub image_p5 : List ℕ
image_p5 = header_p5 ++ step0_p5 ++ step1_p5 ++ step2_p5

-- the same in edition 1. Header: length 10, kind 1, capacity 4, last number 2, 3 steps; records of length 20, kind 2, the bits 2, 16 and 4 + 16.
unfoldable pub old_header_p5 : List ℕ
old_header_p5 = 0x0A ∷ 0 ∷ 1 ∷ 0 ∷ 4 ∷ 0 ∷ 2 ∷ 0 ∷ 3 ∷ 0 ∷ []

unfoldable pub old_step0_p5 : List ℕ
old_step0_p5 = 0x14 ∷ 0 ∷ 2 ∷ 0 ∷ 0 ∷ 0 ∷ 0 ∷ 0 ∷ 0 ∷ 0 ∷ 2 ∷ 0 ∷ 0 ∷ 0 ∷ 2 ∷ 0 ∷ 0 ∷ 0 ∷ 0 ∷ 0 ∷ []

unfoldable pub old_step1_p5 : List ℕ
old_step1_p5 = 0x14 ∷ 0 ∷ 2 ∷ 0 ∷ 1 ∷ 0 ∷ 1 ∷ 0 ∷ 0 ∷ 0 ∷ 0x10 ∷ 0 ∷ 0 ∷ 0 ∷ 0 ∷ 0 ∷ 2 ∷ 0 ∷ 0 ∷ 0 ∷ []

unfoldable pub old_step2_p5 : List ℕ
old_step2_p5 = 0x14 ∷ 0 ∷ 2 ∷ 0 ∷ 2 ∷ 0 ∷ 1 ∷ 0 ∷ 1 ∷ 0 ∷ 0x14 ∷ 0 ∷ 0 ∷ 0 ∷ 0 ∷ 0 ∷ 1 ∷ 0 ∷ 0 ∷ 0 ∷ []
