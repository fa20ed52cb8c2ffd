-- `counters_of` gives all counters of the table. Assumes nothing.
use Rattle.std.proofs.Common.{◌≡◌, refl, sym, ◌∙◌, List, ℕ, ◌*◌, length, get_or, arith}
use Rattle.finite.proofs.Select.{tabulate_entries}
use Rattle.table.specs.Table.{places, counters}
use Rattle.words.proofs.Laws.{shape_table}
use Rattle.withdraw.proofs.counters_of.Invariants.{Copied}
use Rattle.withdraw.proofs.counters_of.Goals as goal

copied_all : (counts left : List ℕ) (n q : ℕ) → length left ≡ n → length counts ≡ n → q ≡ n → Copied counts left q → left ≡ counts
copied_all counts left n q ll lc e w =
    sym (tabulate_entries n (λ k. get_or counts k 0) left 0 ll (λ k l. sym (w k (rw e l)))) ∙
    tabulate_entries n (λ k. get_or counts k 0) counts 0 lc (λ k l. refl)

pub returns : goal.returns
returns c = copied_all _ _ (places * counters) _ c.loop-q.invariant.0 (shape_table _ c.told-t).counts (omega arith) c.loop-q.invariant.1
