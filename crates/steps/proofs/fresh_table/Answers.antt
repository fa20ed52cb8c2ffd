-- `steps::fresh_table` meets its contract: of a table with no step in use, with its quotas and step 0 put in. Assumes nothing.
use mathlib.Core.Path.{◌≡◌, refl, ◌∙◌, ap}
use mathlib.Core.List.{List}
use Prim.Native.Nat.{ℕ}
use lib.ListN.{set}
use Rattle.table.specs.Table.{Table, with_steps, with_numbers}
use Rattle.table.specs.Calls.{fresh_table}
use Rattle.words.specs.Words.{words_of, blank_table}
use Rattle.words.proofs.Laws.{became, erased_table, erased_size}
use Rattle.steps.proofs.fresh_table.Goals as goal

-- the quotas are set, and step 0 is put into use
listed : List ℕ → Table → Table
listed q t = with_numbers t t.capacity t.last q

begun : Table → Table
begun t = with_steps t t.last (set t.used 0 1) (set t.kinds 0 0) (set t.contents 0 0) (set t.own 0 0) (set t.cabins 0 0)

begun_fresh : (n : ℕ) (q : List ℕ) → begun (listed q (blank_table n 0)) ≡ fresh_table n q
unfolding begun listed blank_table with_steps with_numbers fresh_table
begun_fresh n q = refl

pub returns : goal.returns
unfolding begun listed
returns c =
    let s = c in
    let n = s.args.capacity in
    let q = s.args.quotas.now in
    let e = c.erase.ensures in
    let listing = c.put_quotas.ensures in
    became _ _ _ c.put_step.ensures (listing.size ∙ erased_size _ n 0 e)
    ∙ ap words_of (ap begun (listing.table ∙ ap (listed q) (erased_table _ n 0 e)) ∙ begun_fresh n q)
