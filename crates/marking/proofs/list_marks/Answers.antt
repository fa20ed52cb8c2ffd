-- `marking::list_marks` meets its contract. The loop's invariant: the numbers of the marked steps below k are written, and `at` is their count.
-- Assumes nothing.
use mathlib.Core.Path.{◌≡◌, sym, ◌∙◌, ap, ap₂}
use mathlib.Core.List.{List}
use Prim.Native.Nat.{ℕ, ◌≤◌, ◌<◌}
use native.Mathlib.Omega.{arith}
use lib.ListN.{length, get_or, set, take}
use Rattle.finite.specs.Below.{count}
use Rattle.finite.proofs.Below.{count_le}
use Rattle.finite.proofs.Loops.{count_zero, count_hit, count_miss}
use Rattle.finite.proofs.Select.{count_rises}
use Rattle.words.specs.Marks.{is_marked}
use Rattle.marking.proofs.Laws.{first_size, first_marked, first_unmarked, written, written_none, written_hit, written_miss}
use Rattle.marking.proofs.list_marks.Goals as goal
use Rattle.marking.proofs.list_marks.Goals.{else-mark-eq1, then-mark-eq1}

-- there is room for the number of a marked step
room : (marks : List ℕ) (n k space : ℕ) → n ≤ length marks → k < length (take n marks) → get_or (take n marks) k 0 ≡ 1 → count n (is_marked marks) ≤ space →
    count k (is_marked marks) < space
room marks n k space most l h r =
    let size = first_size marks n most in
    omega (arith, count_rises (is_marked marks) k n (omega arith) (first_marked marks n most k l h))

pub loop-k-init : goal.loop-k-init
loop-k-init c = (sym (count_zero _), written_none _ _)

pub bounds-buffer-at : goal.bounds-buffer-at
bounds-buffer-at c =
    omega (arith, c.loop-k.invariant.0, room _ _ c.loop-k.k (length c.loop-k.buffer) (omega arith) c.loop-k-test.true c.if-mark-eq1.true (omega arith))

pub overflow_add-at : goal.overflow_add-at
overflow_add-at c =
    let size = first_size c.args.marks.now c.args.n (omega arith) in
    omega (arith, count_le c.loop-k.k (is_marked c.args.marks.now))

pub loop-k-preserved : goal.loop-k-preserved
loop-k-preserved c =
    let l = c.loop-k in
    let a = c.args in
    let d = a.marks.now in
    let p = is_marked d in
    let b = a.buffer.now in
    let most : a.n ≤ length d = omega arith in
    elim c.if-mark-eq1.branch [
      | then-mark-eq1 w ↦
          let h = w.if-mark-eq1.true in
          let marked = first_marked d a.n most l.k c.loop-k-test.true h in (
            omega (arith, count_hit l.k p marked),
            w.buffer-is
                ∙ ap₂ (λ (bytes : List ℕ) (i : ℕ). set bytes i l.k) l.invariant.1 l.invariant.0
                ∙ written_hit p b l.k marked (room d a.n l.k (length b) most c.loop-k-test.true h (omega arith)),
          )
      | else-mark-eq1 w ↦
          let h = first_unmarked d a.n most l.k c.loop-k-test.true w.if-mark-eq1.false in (
            omega (arith, count_miss l.k p h),
            rw w.buffer-is (l.invariant.1 ∙ written_miss p b l.k h),
          )
    ]

pub overflow_cast-result : goal.overflow_cast-result
overflow_cast-result c =
    let size = first_size c.args.marks.now c.args.n (omega arith) in
    omega (arith, count_le c.loop-k.k (is_marked c.args.marks.now))

pub returns : goal.returns
returns c =
    let l = c.loop-k in
    let a = c.args in
    let p = is_marked a.marks.now in
    let size = first_size a.marks.now a.n (omega arith) in
    let e : l.k ≡ a.n = omega arith in record {
      counted = l.invariant.0 ∙ ap (λ (k : ℕ). count k p) e;
      written = l.invariant.1 ∙ ap (λ (k : ℕ). written k p a.buffer.now) e;
    }
