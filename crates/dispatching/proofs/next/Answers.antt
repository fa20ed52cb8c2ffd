-- `dispatching::next` meets its contract. Assumes nothing.
use mathlib.Core.Path.{◌≡◌, sym, ◌∙◌, ap₂}
use mathlib.Core.List.{List}
use Prim.Native.Nat.{ℕ, ◌<◌}
use native.Mathlib.Omega.{arith}
use lib.ListN.{get_or}
use Rattle.line.specs.Line.{line_cabins, Dispatcher, next_cabin, next, with_alarm, line_row, dispatcher_of, line_words_of}
use Rattle.line.proofs.Laws.{next_known}
use Rattle.dispatching.proofs.Laws.{word_waits, word_silent, alarm_words, refused, given, next_unsound, next_none, next_some}
use Rattle.dispatching.proofs.next.Goals as goal

-- past the first refusal the last served is a cabin, and so is the one found
below : (w : List ℕ) {l : ℕ} → l ≡ get_or w line_cabins 0 → l < line_cabins → (dispatcher_of w).last < line_cabins
unfolding dispatcher_of
below w e h = omega (arith, e, h)

known : (d : Dispatcher) → d.last < line_cabins → {n : ℕ} → n ≡ next_cabin d → n < line_cabins
known d h e = rw e (next_known d h)

pub returns-then-from-ge-LINE_CABINS : goal.returns-then-from-ge-LINE_CABINS
returns-then-from-ge-LINE_CABINS c =
    let w = c.args.d.now in
    refused w c.told-d next (sym (next_unsound (dispatcher_of w) (unfold dispatcher_of in omega (arith, c.if-from-ge-LINE_CABINS.true, c.from.ensures))))
    (λ z. omega (arith, z))

pub next_cabin-cabin-requires : goal.next_cabin-cabin-requires
next_cabin-cabin-requires c = below c.args.d.now c.from.ensures c.if-from-ge-LINE_CABINS.false

pub bounds-d-served : goal.bounds-d-served
bounds-d-served c =
    let w = c.args.d.now in
    let low = below w c.from.ensures c.if-from-ge-LINE_CABINS.false in
    omega (arith, known (dispatcher_of w) low c.next_cabin-cabin.ensures)

pub returns-then-d-served-eq0 : goal.returns-then-d-served-eq0
returns-then-d-served-eq0 c =
    let w = c.args.d.now in
    let low = below w c.from.ensures c.if-from-ge-LINE_CABINS.false in
    let found = c.from-served.ensures ∙ c.next_cabin-cabin.ensures in
    let silent = word_silent w c.from-served.result (known (dispatcher_of w) low found) c.if-d-served-eq0.true in
    refused w c.told-d next (sym (next_none (dispatcher_of w) low (rw (sym found) silent))) (λ z. omega (arith, z))

pub returns : goal.returns
unfolding line_row
returns c =
    let size = c.told-d in
    let w = c.args.d.now in
    let low = below w c.from.ensures c.if-from-ge-LINE_CABINS.false in
    let found = c.from-served.ensures ∙ c.next_cabin-cabin.ensures in
    let cabin = known (dispatcher_of w) low found in
    let waits = word_waits w c.from-served.result cabin c.if-d-served-eq0.false in
    given w size next _ _ (next_some (dispatcher_of w) low (rw (sym found) waits)) c.next_cabin-cabin.ensures
    (alarm_words w _ 0 _ size cabin ∙ ap₂ (λ (x y : ℕ). line_words_of (with_alarm (dispatcher_of w) x 0 y)) found c.next_cabin-cabin.ensures)
