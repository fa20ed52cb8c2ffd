-- What `keys` writes for an input is what its bytes have it write when they are fed one by one, and then the end of input (`keys_fed`); and the
-- same where the input comes in blocks (`keys_blocks`). Assumes nothing.
--   key_kept           the first 13 bytes of a line decide its call
--   feed_append        bytes fed in two blocks leave the state that they leave in one
--   fed_output_append  and have the same written
use mathlib.Core.Path.{◌≡◌, refl, sym, ◌∙◌, ap}
use mathlib.Core.Bool.{true, false}
use mathlib.Core.Logic.{⊎_elim}
use mathlib.Core.List.{List, [], ◌∷◌, ◌++◌, append_assoc, append-nil, flatten}
use Prim.Native.Nat.{ℕ, ◌+◌, ◌≤◌, ◌<◌}
use native.Mathlib.Omega.{arith}
use lib.ListN.{length, take, length-append}
use lib.Seq.{take_all, take-append-le, length-take-le}
use lib.Dec.{eqb}
use borrow.Author.Tests.{lt-ltb, le-ltb, ne_eqb}
use Rattle.std.specs.Prelude.{None}
use Rattle.finite.proofs.Bools.{test}
use Rattle.finite.proofs.Below.{le_or_lt}
use Rattle.table.specs.Answer.{Outcome}
use Rattle.table.specs.Table.{Table}
use Rattle.keyline.specs.Keys.{is_line, decode, key_call}
use Rattle.keying.proofs.Laws.{not_line, decode_nothing}
use Rattle.session.specs.Session.{keys_table, line_end, kept_most, State, lines_from, lines_of, printed, answers, keys_output, keep, push, line_output, push_output, feed, fed_output, finish_output, blocks_output, first_state}

-- a line of 13 bytes or more is no key line
decode_long : (l : List ℕ) → kept_most ≤ length l → decode l ≡ None
decode_long l h =
    sym
    (decode_nothing l (other 1 8 (omega arith)) (other 2 8 (omega arith)) (other 3 4 (omega arith)) (other 4 0 (omega arith)))
  where
    other : (call n : ℕ) → n + 4 < kept_most → is_line l call n ≡ false
    other call n m = not_line l call n 0 (ne_eqb (length l) (n + 4) (λ e. omega arith))

pub key_kept : (t : Table) (l : List ℕ) → key_call t (take kept_most l) ≡ key_call t l
unfolding key_call
key_kept t l =
    ⊎_elim (λ (h : length l ≤ kept_most). ap (key_call t) (take_all kept_most l h))
    (λ (h : kept_most < length l).
    let m : kept_most ≤ length (take kept_most l) = rw (length-take-le kept_most l (omega arith)) (omega arith) in
    let e : decode (take kept_most l) ≡ decode l = decode_long (take kept_most l) m ∙ sym (decode_long l (omega arith)) in
    rw e)
    (le_or_lt (length l) kept_most)

keep_take : (l : List ℕ) (b : ℕ) → keep (take kept_most l) b ≡ take kept_most (l ++ (b ∷ []))
unfolding keep
keep_take l b =
    ⊎_elim
    (λ (h : kept_most ≤ length l).
    let m : kept_most ≤ length (take kept_most l) = rw (length-take-le kept_most l h) (omega arith) in
    rw (le-ltb (length (take kept_most l)) kept_most m, take-append-le kept_most l (b ∷ []) h))
    (λ (h : length l < kept_most).
    let e : take kept_most l ≡ l = take_all kept_most l (omega arith) in
    let g : take kept_most (l ++ (b ∷ [])) ≡ l ++ (b ∷ []) = take_all kept_most (l ++ (b ∷ [])) (simp length-append (omega arith)) in
    rw (g, e, lt-ltb (length l) kept_most h))
    (le_or_lt kept_most (length l))

pub feed_append : (s : State) (a b : List ℕ) → feed s (a ++ b) ≡ feed (feed s a) b
unfolding feed
feed_append s [] b = refl
feed_append s (x ∷ a) b = feed_append (push s x) a b

pub fed_output_append : (s : State) (a b : List ℕ) → fed_output s (a ++ b) ≡ fed_output s a ++ fed_output (feed s a) b
unfolding feed fed_output
fed_output_append s [] b = refl
fed_output_append s (x ∷ a) b = rw (fed_output_append (push s x) a b, append_assoc)

-- the end of a line, and any other byte
module _ (s : State) (b : ℕ) where
  pub push_end : eqb b line_end ≡ true → push s b ≡ record { table = (key_call s.table s.kept).table; kept = [] }
  unfolding push
  push_end h = rw h

  pub push_end_output : eqb b line_end ≡ true → push_output s b ≡ line_output s
  unfolding push_output
  push_end_output h = rw h

  pub push_other : eqb b line_end ≡ false → push s b ≡ record { table = s.table; kept = keep s.kept b }
  unfolding push
  push_other h = rw h

  pub push_other_output : eqb b line_end ≡ false → push_output s b ≡ []
  unfolding push_output
  push_other_output h = rw h

-- what is written from a state on, to the end of input
abbrev rest : State → List ℕ → List ℕ
rest s bs = fed_output s bs ++ finish_output (feed s bs)

rest_push : (s s' : State) (o : List ℕ) (b : ℕ) (bs : List ℕ) → push s b ≡ s' → push_output s b ≡ o → rest s (b ∷ bs) ≡ o ++ rest s' bs
unfolding feed fed_output
rest_push s s' o b bs p q =
    append_assoc (push_output s b) (fed_output (push s b) bs) (finish_output (feed (push s b) bs))
    ∙ ap (λ (x : List ℕ). x ++ rest (push s b) bs) q
    ∙ ap (λ (x : State). o ++ rest x bs) p

-- a line begun, of which all bytes are at hand
abbrev begun : Table → List ℕ → State
begun t l = record { table = t; kept = take kept_most l }

fed_from : (bs l : List ℕ) (t : Table) → answers t (lines_from l bs) ≡ rest (begun t l) bs
unfolding answers lines_from feed fed_output finish_output line_output
fed_from [] [] t = refl
fed_from [] (x ∷ l) t =
    let h : eqb (length (x ∷ l)) 0 ≡ false = ne_eqb (length (x ∷ l)) 0 (λ e. omega arith) in
    let k : eqb (length (take kept_most (x ∷ l))) 0 ≡ false = ne_eqb (length (take kept_most (x ∷ l))) 0 (λ e. omega arith) in
    rw (h, k, append-nil) (ap (λ (o : Outcome). printed o.answer) (sym (key_kept t (x ∷ l))))
fed_from (b ∷ bs) l t =
    ⊎_elim
    (λ (h : eqb b line_end ≡ true).
    let e : answers t (lines_from l (b ∷ bs)) ≡ printed (key_call t l).answer ++ answers (key_call t l).table (lines_from [] bs) = rw h in
    e ∙ ap (λ (r : List ℕ). printed (key_call t l).answer ++ r) (fed_from bs [] (key_call t l).table)
    ∙ sym
    (rest_push (begun t l) (begun (key_call t l).table []) (printed (key_call t l).answer) b bs
    (push_end (begun t l) b h ∙ λ i. record { table = (key_kept t l i).table; kept = [] })
    (push_end_output (begun t l) b h ∙ λ i. printed (key_kept t l i).answer)))
    (λ (h : eqb b line_end ≡ false).
    let e : answers t (lines_from l (b ∷ bs)) ≡ answers t (lines_from (l ++ (b ∷ [])) bs) = rw h in
    e ∙ fed_from bs (l ++ (b ∷ [])) t
    ∙ sym
    (rest_push (begun t l) (begun t (l ++ (b ∷ []))) [] b bs (push_other (begun t l) b h ∙ λ i. record { table = t; kept = keep_take l b i })
    (push_other_output (begun t l) b h)))
    (test (eqb b line_end))

pub keys_fed : (bs : List ℕ) → keys_output bs ≡ fed_output first_state bs ++ finish_output (feed first_state bs)
unfolding keys_output lines_of first_state
keys_fed bs = fed_from bs [] keys_table

blocks_fed : (s : State) (blocks : List (List ℕ)) → blocks_output s blocks ≡ rest s (flatten blocks)
unfolding blocks_output flatten feed fed_output
blocks_fed s [] = refl
blocks_fed s (b ∷ bs) =
    rw (fed_output_append s b (flatten bs), feed_append s b (flatten bs), append_assoc) (ap (λ (r : List ℕ). fed_output s b ++ r) (blocks_fed (feed s b) bs))

-- however the input is cut into blocks, the same is written
pub keys_blocks : (blocks : List (List ℕ)) → blocks_output first_state blocks ≡ keys_output (flatten blocks)
keys_blocks blocks = blocks_fed first_state blocks ∙ sym (keys_fed (flatten blocks))
