-- Tables that are the same in all fields are one table. Assumes nothing.
--   table_same same_table_lem   both ways of the test
use mathlib.Core.Path.{◌≡◌, refl, subst}
use mathlib.Core.Bool.{true}
use borrow.Author.Tests.{eqb-true, eq-eqb}
use Rattle.finite.proofs.Bools.{passes_at, and_intro}
use Rattle.finite.proofs.Select.{same_true, same_refl}
use Rattle.table.specs.Table.{Table, same_fields, same_table}

pub table_same : (t u : Table) → same_table t u ≡ true → t ≡ u
unfolding same_table same_fields
table_same t u p =
    let at = passes_at (same_fields t u) p in
    λ i.
    record {
      capacity = eqb-true t.capacity u.capacity (at 0) i;
      last = eqb-true t.last u.last (at 1) i;
      used = same_true t.used u.used (at 2) i;
      kinds = same_true t.kinds u.kinds (at 3) i;
      contents = same_true t.contents u.contents (at 4) i;
      own = same_true t.own u.own (at 5) i;
      targets = same_true t.targets u.targets (at 6) i;
      bits = same_true t.bits u.bits (at 7) i;
      counts = same_true t.counts u.counts (at 8) i;
      cabins = same_true t.cabins u.cabins (at 9) i;
      quotas = same_true t.quotas u.quotas (at 10) i;
    }

pub same_table_lem : {t u : Table} → t ≡ u → same_table t u ≡ true
same_table_lem {t} q = subst (λ (u : Table). same_table t u ≡ true) q (itself t)
  where
    itself : (t : Table) → same_table t t ≡ true
    itself t =
        unfold same_table same_fields in
        and_intro (eq-eqb t.capacity t.capacity refl)
        (and_intro (eq-eqb t.last t.last refl)
        (and_intro (same_refl t.used)
        (and_intro (same_refl t.kinds)
        (and_intro (same_refl t.contents)
        (and_intro (same_refl t.own)
        (and_intro (same_refl t.targets)
        (and_intro (same_refl t.bits)
        (and_intro (same_refl t.counts) (and_intro (same_refl t.cabins) (and_intro (same_refl t.quotas) refl))))))))))
