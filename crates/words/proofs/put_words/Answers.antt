-- `words::put_words` meets its contract. Assumes nothing.
use mathlib.Core.Path.{◌≡◌, sym, ◌∙◌, ap}
use mathlib.Core.List.{List, ◌∷◌, []}
use Prim.Native.Nat.{ℕ, zero, suc, ◌+◌, ◌<◌}
use native.Mathlib.Omega.{arith}
use native.Mathlib.Numerals.{add-one}
use lib.ListN.{length, take, get_or, set}
use lib.Seq.{sets, take_all}
use Rattle.words.proofs.put_words.Goals as goal

sets_more : (ys l : List ℕ) (p k : ℕ) → k < length ys → set (sets l p (take k ys)) (p + k) (get_or ys k 0) ≡ sets l p (take (suc k) ys)
sets_more [] l p k h = absurd (omega arith)
sets_more (y ∷ ys) l p zero h = let e : p + zero ≡ p = omega arith in ap (λ (q : ℕ). set l q y) e
sets_more (y ∷ ys) l p (suc k) h =
    let e : p + suc k ≡ suc p + k = omega arith in
    ap (λ (q : ℕ). set (sets (set l p y) (suc p) (take k ys)) q (get_or ys k 0)) e ∙ sets_more ys (set l p y) (suc p) k (omega arith)

pub loop-k-preserved : goal.loop-k-preserved
loop-k-preserved c =
    let a = c.args in
    let k = c.loop-k.k in
    ap (λ (w : List ℕ). set w (a.from + k) (get_or a.numbers.now k 0)) c.loop-k.invariant ∙ sets_more a.numbers.now a.t.now a.from k (omega arith) ∙
    ap (λ (m : ℕ). sets a.t.now a.from (take m a.numbers.now)) (sym (add-one k))

pub returns : goal.returns
returns c =
    let a = c.args in
    c.loop-k.invariant ∙ ap (sets a.t.now a.from) (take_all c.loop-k.k a.numbers.now (omega arith))
