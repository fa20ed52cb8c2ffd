-- Two tables with the same plain plan, field by field: what a repair keeps. Assumes nothing.
--   Alike t u     u has t's capacity, last number, quotas, steps in use, kinds, contents, targets and cabins; bits and counters may differ
use mathlib.Core.Path.{◌≡◌, refl, ◌∙◌, ap₂}
use mathlib.Core.Bool.{Bool, ◌&&◌}
use Prim.Native.Nat.{ℕ}
use lib.Dec.{eqb}
use Rattle.finite.proofs.Below.{any_ext}
use Rattle.table.specs.Table.{Table, exits_of, in_use, target_of, holds, leads, linked}

pub record Alike (t u : Table) : Type 0 where
  pub capacity : u.capacity ≡ t.capacity
  pub last : u.last ≡ t.last
  pub used : u.used ≡ t.used
  pub kinds : u.kinds ≡ t.kinds
  pub contents : u.contents ≡ t.contents
  pub targets : u.targets ≡ t.targets
  pub cabins : u.cabins ≡ t.cabins
  pub quotas : u.quotas ≡ t.quotas

pub alike_refl : (t : Table) → Alike t t
alike_refl t = record { capacity = refl; last = refl; used = refl; kinds = refl; contents = refl; targets = refl; cabins = refl; quotas = refl }

pub alike_trans : {t u v : Table} → Alike t u → Alike u v → Alike t v
alike_trans a b =
    record {
      capacity = b.capacity ∙ a.capacity;
      last = b.last ∙ a.last;
      used = b.used ∙ a.used;
      kinds = b.kinds ∙ a.kinds;
      contents = b.contents ∙ a.contents;
      targets = b.targets ∙ a.targets;
      cabins = b.cabins ∙ a.cabins;
      quotas = b.quotas ∙ a.quotas;
    }

module _ {t u : Table} (a : Alike t u) where
  pub alike_used : (i : ℕ) → in_use u i ≡ in_use t i
  unfolding in_use
  alike_used i = rw a.used

  pub alike_target : (i e : ℕ) → target_of u i e ≡ target_of t i e
  unfolding target_of
  alike_target i e = rw a.targets

  pub alike_holds : (i e : ℕ) → holds u i e ≡ holds t i e
  unfolding holds
  alike_holds i e = rw (alike_target i e)

  pub alike_linked : (i j : ℕ) → linked u i j ≡ linked t i j
  unfolding linked leads
  alike_linked i j =
      any_ext (exits_of i) _ _ (λ e l. ap₂ (λ (h : Bool) (x : ℕ). h && eqb x j) (alike_holds i e) (alike_target i e))
