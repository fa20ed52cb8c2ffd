-- Words cut into parts of given lengths, one behind the other, and put together again. Assumes nothing.
--   cut ns w        the parts of w: as many words for each as ns says
--   before ns f     how many words stand before part f
--   cut_store       a store into part f changes that part alone
--   cut_part        part f of the words behind the first a
--   glued ps        the parts put together; `glued_cut` and `cut_glued` say that it is the inverse
use mathlib.Core.Path.{◌≡◌, refl, sym, ◌∙◌, ap, ap₂}
use mathlib.Core.List.{List, [], ◌∷◌, ◌++◌, map}
use Prim.Native.Nat.{ℕ, zero, suc, ◌+◌, ◌≤◌, ◌<◌}
use native.Mathlib.Nat.{zero-add, add-zero}
use native.Mathlib.Omega.{arith}
use lib.ListN.{length, get_or, set, take, drop, length-drop, take-append-drop}
use lib.Seq.{take-set-le, take-set-lt, drop-set-lt, drop-set-add, take_all, take-append_seam, drop-append_seam, drop-drop}
use Rattle.words.specs.Words.{part}

abbrev pub cut : List ℕ → List ℕ → List (List ℕ)
cut [] w = []
cut (n ∷ ns) w = take n w ∷ cut ns (drop n w)

abbrev pub before : List ℕ → ℕ → ℕ
before [] f = 0
before (n ∷ ns) zero = 0
before (n ∷ ns) (suc f) = n + before ns f

pub cut_store : (ns w : List ℕ) (f k x : ℕ) → k < get_or ns f 0 → cut ns (set w (before ns f + k) x) ≡ set (cut ns w) f (set (get_or (cut ns w) f []) k x)
cut_store [] w f k x l = absurd (omega arith)
cut_store (n ∷ ns) w zero k x l =
    ap₂ ◌∷◌ (ap (λ (q : ℕ). take n (set w q x)) (zero-add k) ∙ take-set-lt n w k x l)
    (ap (λ (q : ℕ). cut ns (drop n (set w q x))) (zero-add k) ∙ ap (cut ns) (drop-set-lt n w k x l))
cut_store (n ∷ ns) w (suc f) k x l =
    let q : n + before ns f + k ≡ n + (before ns f + k) = omega arith in
    ap₂ ◌∷◌ (take-set-le n w _ x (omega arith))
    (ap (λ (p : ℕ). cut ns (drop n (set w p x))) q ∙ ap (cut ns) (drop-set-add n w (before ns f + k) x) ∙ cut_store ns (drop n w) f k x l)

pub cut_part : (ns w : List ℕ) (a f : ℕ) → get_or (cut ns (drop a w)) f [] ≡ part (a + before ns f) (get_or ns f 0) w
cut_part [] w a f = refl
cut_part (n ∷ ns) w a zero = ap (λ (p : ℕ). part p n w) (sym (add-zero a))
cut_part (n ∷ ns) w a (suc f) =
    let q : a + n + before ns f ≡ a + (n + before ns f) = omega arith in
    ap (λ (v : List ℕ). get_or (cut ns v) f []) (drop-drop n a w) ∙ cut_part ns w (a + n) f ∙ ap (λ (p : ℕ). part p (get_or ns f 0) w) q

abbrev pub glued : List (List ℕ) → List ℕ
glued [] = []
glued (p ∷ []) = p
glued (p ∷ q ∷ qs) = p ++ glued (q ∷ qs)

abbrev sum : List ℕ → ℕ
sum [] = 0
sum (n ∷ ns) = n + sum ns

pub glued_cut : (ns w : List ℕ) → length w ≤ sum ns → glued (cut ns w) ≡ w
glued_cut [] [] l = refl
glued_cut [] (x ∷ xs) l = absurd (omega arith)
glued_cut (n ∷ []) w l = take_all n w (omega arith)
glued_cut (n ∷ m ∷ ms) w l =
    ap (λ (x : List ℕ). take n w ++ x) (glued_cut (m ∷ ms) (drop n w) (let d = length-drop n w in omega arith)) ∙ take-append-drop n w

pub cut_glued : (ps : List (List ℕ)) → cut (map length ps) (glued ps) ≡ ps
cut_glued [] = refl
cut_glued (p ∷ []) = ap (λ (x : List ℕ). x ∷ []) (take_all (length p) p (omega arith))
cut_glued (p ∷ q ∷ qs) =
    ap₂ ◌∷◌ (take-append_seam p (glued (q ∷ qs)))
    (ap (cut (map length (q ∷ qs))) (drop-append_seam p (glued (q ∷ qs))) ∙ cut_glued (q ∷ qs))
