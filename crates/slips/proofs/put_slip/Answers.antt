-- `slips::put_slip` meets its contract: three numbers, and the pairs behind them. Assumes nothing.
use mathlib.Core.Path.{◌≡◌, sym, ◌∙◌, ap, ap₂}
use mathlib.Core.List.{List, [], ◌∷◌, ◌++◌}
use Prim.Native.Nat.{ℕ, ◌+◌, ◌-◌, ◌≤◌}
use native.Mathlib.Omega.{arith}
use lib.ListN.{length, take, drop, length-drop, length-append}
use lib.Seq.{sets-eq, length-take-le, drop-drop}
use Rattle.finite.specs.Below.{count}
use Rattle.table.specs.Table.{Table}
use Rattle.image.specs.Image.{record_size, word, words}
use Rattle.image.specs.Slip.{changed, pairs_below, slip, slip_size}
use Rattle.image.proofs.Words.{length_words}
use Rattle.image.proofs.Slips.{length_pairs}
use Rattle.words.specs.Words.{table_of}
use Rattle.records.specs.Records.{put_words}
use Rattle.records.proofs.Laws.{part_back}
use Rattle.slips.proofs.put_slip.Goals as goal

-- the three numbers
module _ (b : List ℕ) (step exit steps : ℕ) where
  abbrev head : List ℕ
  head = words (step ∷ exit ∷ steps ∷ [])

  abbrev put : List ℕ
  put = put_words (put_words (put_words b 0 (step ∷ [])) 2 (exit ∷ [])) 4 (steps ∷ [])

  head_put : 6 ≤ length b → put ≡ head ++ drop 6 b
  unfolding put_words words word
  head_put l = sets-eq head b 0 l

  length_put : 6 ≤ length b → length put ≡ length b
  length_put l =
      ap length (head_put l) ∙ length-append head (drop 6 b)
      ∙ (let a = length_words (step ∷ exit ∷ steps ∷ []) in let d = length-drop 6 b in omega arith)

-- the room of the pairs
pairs_size : (t u : Table) (n : ℕ) → n ≡ count t.capacity (changed t u) → slip_size n ≡ 6 + length (pairs_below t u t.capacity)
unfolding record_size
pairs_size t u n e = rw e (omega (arith, length_pairs t u t.capacity))

-- the pairs behind the numbers
slip_put : (t u : Table) (b q : List ℕ) (step exit steps : ℕ) → steps ≡ count t.capacity (changed t u) → slip_size steps ≤ length b →
    q ≡ pairs_below t u t.capacity ++ drop (length (pairs_below t u t.capacity)) (take (length (put b step exit steps) - 6) (drop 6 (put b step exit steps))) →
    take 6 (put b step exit steps) ++ (q ++ drop (length (put b step exit steps) - 6) (drop 6 (put b step exit steps))) ≡ slip step exit t u ++ drop (slip_size steps) b
unfolding slip
slip_put t u b q step exit steps n room e =
    let pairs = pairs_below t u t.capacity in
    let size = pairs_size t u steps n in
    let d = length-drop 6 b in
    let long = length_words (step ∷ exit ∷ steps ∷ []) in
    let p = put b step exit steps in
    ap (λ (x : List ℕ). take 6 p ++ (x ++ drop (length p - 6) (drop 6 p))) e
    ∙ part_back p (head b step exit steps) (drop 6 b) pairs 6 (length pairs) (head_put b step exit steps (omega arith)) (omega arith) (omega arith)
    ∙ ap₂ (λ (k : ℕ) (x : List ℕ). (words (step ∷ exit ∷ k ∷ []) ++ pairs) ++ x) n (drop-drop (length pairs) 6 b ∙ ap (λ (k : ℕ). drop k b) (sym size))

-- the buffer behind the three numbers
begun : (b : List ℕ) (step exit steps : ℕ) {b₁ b₂ b₃ : List ℕ} → b₁ ≡ put_words b 0 (step ∷ []) → b₂ ≡ put_words b₁ 2 (exit ∷ []) →
    b₃ ≡ put_words b₂ 4 (steps ∷ []) → b₃ ≡ put b step exit steps
begun b step exit steps p q r =
    r ∙ ap (λ (x : List ℕ). put_words x 4 (steps ∷ [])) (q ∙ ap (λ (x : List ℕ). put_words x 2 (exit ∷ [])) p)

pub put_pairs-requires : goal.put_pairs-requires
put_pairs-requires c =
    let p = c.put_word-3.new.part in
    let k = length-drop 6 p in
    let m = length-take-le (length p - 6) (drop 6 p) (omega arith) in
    let size = pairs_size (table_of c.args.tables.now.t.now) (table_of c.args.tables.now.u.now) c.args.steps c.requires.0 in
    omega (arith, size, k, m)

pub returns : goal.returns
returns c =
    let t = table_of c.args.tables.now.t.now in
    let u = table_of c.args.tables.now.u.now in
    let e = begun c.args.buffer.now c.args.step c.args.exit c.args.steps c.put_word.ensures c.put_word-2.ensures c.put_word-3.ensures in
    let p : List ℕ → List ℕ → List ℕ = λ q b. take 6 b ++ (q ++ drop (length b - 6) (drop 6 b)) in
    ap (p c.put_pairs.new.part) e
    ∙ slip_put t u c.args.buffer.now c.put_pairs.new.part c.args.step c.args.exit c.args.steps c.requires.0 c.requires.1
    (c.put_pairs.ensures
    ∙ ap (λ (b : List ℕ). pairs_below t u t.capacity ++ drop (length (pairs_below t u t.capacity)) (take (length b - 6) (drop 6 b))) e)
