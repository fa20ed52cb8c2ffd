-- `session::Line::keep` meets its contract. Assumes nothing.
use mathlib.Core.Path.{sym, ◌∙◌, ap}
use mathlib.Core.List.{List}
use Prim.Native.Nat.{ℕ}
use native.Mathlib.Omega.{arith}
use Rattle.session.specs.Session.{keep}
use Rattle.session.proofs.Laws.{keep_short, keep_long}
use Rattle.session.proofs.Line.keep.Goals as goal

pub returns-then-self-lt-KEPT : goal.returns-then-self-lt-KEPT
returns-then-self-lt-KEPT c =
    let l = c.self.inside in
    keep_short l.bytes l.kept c.args.byte (omega arith) c.if-self-lt-KEPT.true ∙ ap (λ (x : List ℕ). keep x c.args.byte) c.self.view_is

pub returns-else-self-lt-KEPT : goal.returns-else-self-lt-KEPT
returns-else-self-lt-KEPT c =
    let l = c.self.inside in
    sym c.self.view_is ∙ keep_long l.bytes l.kept c.args.byte (omega arith) (omega arith) ∙ ap (λ (x : List ℕ). keep x c.args.byte) c.self.view_is
