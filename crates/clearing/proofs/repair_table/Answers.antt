-- `clearing::repair_table` meets its contract, from what each function says of the table. Assumes nothing.
use mathlib.Core.Path.{sym, ◌∙◌}
use Rattle.words.specs.Words.{table_of}
use Rattle.clearing.proofs.Outcomes.{found_able, found_candidates, Mended, repaired_answer, repaired_table, repaired_whole}
use Rattle.clearing.proofs.repair_table.Goals as goal
use Rattle.clearing.proofs.repair_table.Goals.{After-repair_steps}

-- what was found and mended
facts : (c : After-repair_steps) →
    let a = c.args in
    let l = c.repair_steps.new in
    Mended (table_of a.t.now) (table_of l.t) c.from-n.result a.doubt.now a.wanted.now l.doubt
facts c =
    record {
      searched = c.requires;
      size = c.from-n.ensures ∙ c.capacity.ensures;
      same = c.repair_steps.ensures.repaired;
      capacity = c.repair_steps.ensures.able.capacity;
    }

pub repair_steps-requires : goal.repair_steps-requires
repair_steps-requires c =
    let t = table_of c.args.t.now in
    let size = c.from-n.ensures ∙ c.capacity.ensures in
    (found_able t _ _ size c.requires.doubts c.requires.formed, found_candidates t c.requires _ size)

pub returns-then-freed-ne0 : goal.returns-then-freed-ne0
returns-then-freed-ne0 c =
    let m = facts c.before.before.before.before in
    let b = c.free_steps.ensures in record {
      answer = repaired_answer m _ _ c.count_marks-doubts.ensures c.count_marks-freed.ensures;
      table = record { table = b.table ∙ repaired_table m; size = b.size ∙ c.repair_steps.ensures.size };
    }

pub returns-else-freed-ne0 : goal.returns-else-freed-ne0
returns-else-freed-ne0 c =
    let m = facts c.before.before in record {
      answer = repaired_answer m _ _ c.count_marks-doubts.ensures c.count_marks-freed.ensures;
      table = record { table = repaired_whole m (sym c.count_marks-freed.ensures ∙ c.if-freed-ne0.false); size = c.repair_steps.ensures.size };
    }
