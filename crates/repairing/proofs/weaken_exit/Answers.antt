-- `repairing::weaken_exit` meets its contract: an empty exit and a weak link stay, and a strong link is replaced. Assumes nothing.
use mathlib.Core.Path.{◌≡◌, refl, sym, ◌∙◌, ap, ap₂, subst}
use Prim.Native.Nat.{ℕ, ◌-◌, ◌<◌}
use native.Mathlib.Omega.{arith}
use Rattle.table.specs.Table.{Table, places, exits_of, own_bit, target_of}
use Rattle.table.specs.Calls.{relink}
use Rattle.words.specs.Words.{table_of, Becomes}
use Rattle.repairing.specs.Repairing.{Standing}
use Rattle.words.proofs.Formed.{target_place}
use Rattle.repairing.proofs.Laws.{standing_place, standing_relinkable, weaken_none, weaken_weak, weaken_strong}
use Rattle.repairing.proofs.weaken_exit.Goals as goal

-- the target that was read is a place
target_below : {t : Table} {k e j : ℕ} → Standing t k → e < exits_of k → j ≡ target_of t k e → j < places
target_below s b q = rw q (target_place s.formed _ _ b)

pub returns-then-j-eq0 : goal.returns-then-j-eq0
returns-then-j-eq0 c =
    let a = c.args in
    record {
      table = weaken_none (table_of a.t.now) a.k a.e (sym (c.from-j.ensures ∙ c.target_at-target.ensures) ∙ c.if-j-eq0.true);
      size = refl;
    }

pub returns-then-b-own_at : goal.returns-then-b-own_at
returns-then-b-own_at c =
    let a = c.args in
    let t = table_of a.t.now in
    let own = c.own_at.ensures ∙ ap (own_bit t) (c.from-j.ensures ∙ c.target_at-target.ensures) in
    record { table = weaken_weak t a.k a.e (λ q. c.if-b-own_at.true (c.bit_at-b.ensures ∙ q ∙ sym own)); size = refl }

pub overflow_sub-b : goal.overflow_sub-b
overflow_sub-b c =
    let b = c.requires.0.formed.bits c.args.k c.args.e c.requires.0.used c.requires.1 in
    omega (arith, c.bit_at-b.ensures)

pub relink-requires : goal.relink-requires
relink-requires c =
    let p = c.requires in
    standing_relinkable p.0 c.args.e p.1 _ _ (target_below p.0 p.1 c.target_at-target.ensures) (omega arith)

pub returns : goal.returns
returns c =
    let a = c.args in
    let t = table_of a.t.now in
    let target = c.target_at-target.ensures in
    let own = c.own_at.ensures ∙ ap (own_bit t) (c.from-j.ensures ∙ target) in
    subst (Becomes a.t.now _)
    (ap₂ (λ (j b : ℕ). relink t a.k a.e j (1 - b)) target c.bit_at-b.ensures ∙
    weaken_strong t a.k a.e (λ z. c.if-j-eq0.false (c.from-j.ensures ∙ target ∙ z))
    (sym c.bit_at-b.ensures ∙ c.if-b-own_at.false ∙ own))
    c.relink.ensures

pub target_at-target-requires : goal.target_at-target-requires
target_at-target-requires c = let p = c.requires in (standing_place p.0, p.1)

pub bit_at-b-requires : goal.bit_at-b-requires
bit_at-b-requires c = let p = c.requires in (standing_place p.0, p.1)

pub own_at-requires : goal.own_at-requires
own_at-requires c = rw c.from-j.ensures (target_below c.requires.0 c.requires.1 c.target_at-target.ensures)
