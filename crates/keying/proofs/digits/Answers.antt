-- `keying::digits` meets its contract: `all` tests the part of the line that is lent. Assumes nothing.
use mathlib.Core.Path.{◌∙◌}
use Prim.Native.Nat.{◌+◌}
use Rattle.std.proofs.Common.{rules, tests}
use Rattle.std.proofs.lemmas.Iterator.{YieldsList-from_slice}
use Rattle.std.proofs.lemmas.Iterator.Search.{all_from_yields_List}
use Rattle.std.specs.Char.{is_ascii_digit}
use Rattle.std.specs.List.{slice_range}
use Rattle.keying.proofs.Laws.{part_digits}
use Rattle.keying.proofs.digits.Goals as goal

pub returns : goal.returns
returns c =
    let a = c.args in
    all_from_yields_List is_ascii_digit _ _ c.all.result c.all.ensures.ran (YieldsList-from_slice (slice_range a.line.now a.from (a.from + a.n)) cc)
    (λ x b q k. search (rules, tests))
    ∙ part_digits a.line.now a.from a.n c.requires
