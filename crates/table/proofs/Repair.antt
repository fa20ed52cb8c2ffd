-- Rule 3 of clearing, to its end: the steps kept are those that a chain of links of either strength reaches from step 0. Assumes nothing.
--   kept_in r      the steps in use that are not doubtful
--   Repairing t r what holds each time round: the table has t's plan, is in order, and its strong links hold the kept steps together
--   repair_done   after the rounds nothing is wanted
use mathlib.Core.Path.{◌≡◌, refl, sym, ◌∙◌, ap}
use mathlib.Core.Bool.{Bool, true, false, ◌&&◌, ◌||◌, not}
use mathlib.Core.Logic.{⊎_elim}
use Prim.Native.Nat.{ℕ, zero, suc, ◌+◌, ◌≤◌, ◌<◌}
use native.Mathlib.Omega.{arith}
use lib.ListN.{length, set, length-set}
use lib.Seq.{get_or-set_same, get_or-set_other}
use lib.Dec.{eqb, ltb}
use borrow.Author.Tests.{eq-eqb, ne_eqb, lt-ltb, le-ltb}
use Rattle.finite.specs.Below.{one, lowest}
use Rattle.finite.specs.Reach.{marked, reaches}
use Rattle.finite.proofs.Bools.{and_intro, and_left, and_right, or_right, clash, refute, same_test, not_true_false}
use Rattle.finite.proofs.Below.{le_or_lt, eq_or_ne, any_at, any_intro, count_change, count_pos, lowest_passes, lowest_none}
use Rattle.finite.proofs.Reach.{chain_map, chain_keeps, reach_sound, reach_complete}
use Rattle.table.specs.Table.{Table, in_use, linked}
use Rattle.table.specs.Sound.{Formed}
use Rattle.table.specs.Clear.{Repair, wanted, restored, repair, size}
use Rattle.table.proofs.Links.{formed_wired, linked_used, linked_below, strongly_linked_lem}
use Rattle.table.proofs.Formed.{formed_below}
use Rattle.table.proofs.Spine.{Spine, spine_chain, spine_ext, spine_more}
use Rattle.table.proofs.Alike.{Alike, alike_trans, alike_used, alike_linked}
use Rattle.table.proofs.Restore.{taken, take_joins}

unfoldable pub kept_in : Repair → ℕ → Bool
kept_in r i = in_use r.table i && not (marked r.doubt i)

pub record Repairing (t : Table) (r : Repair) : Type 0 where
  pub formed : Formed r.table
  pub alike : Alike t r.table
  pub marks : length r.doubt ≡ t.capacity
  pub doubted : (i : ℕ) → marked r.doubt i ≡ true → in_use r.table i ≡ true
  pub spine : Spine r.table (kept_in r)

-- one round
abbrev pub taking : Repair → ℕ → Repair
taking r k = record { table = restored r.table k; doubt = set r.doubt k false }

module _ {t : Table} (r : Repair) (g : Repairing t r) (k : ℕ) (low : k < t.capacity) (want : wanted r k ≡ true) where
  doubt_k : marked r.doubt k ≡ true
  unfolding wanted
  doubt_k = and_left (marked r.doubt k) _ want

  used_k : in_use r.table k ≡ true
  used_k = g.doubted k doubt_k

  from : (p : ℕ) × (kept_in r p ≡ true) × (linked r.table p k ≡ true)
  unfolding wanted kept_in
  from =
      let w = any_at r.table.capacity _ (and_right (marked r.doubt k) _ want) in
      let p = w.0 in
      let l = and_right (not (marked r.doubt p)) (linked r.table p k) w.2 in
      (p, and_intro (linked_used (formed_wired g.formed) p k l).0 (and_left (not (marked r.doubt p)) (linked r.table p k) w.2), l)

  out_k : kept_in r k ≡ false
  unfolding kept_in
  out_k = refute _ (λ h. clash doubt_k (not_true_false _ (and_right (in_use r.table k) _ h)))

  pub unmarked_k : marked (set r.doubt k false) k ≡ false
  unmarked_k = get_or-set_same r.doubt k false false (rw g.marks low)

  pub marked_other : (i : ℕ) → (i ≡ k → ⊥) → marked (set r.doubt k false) i ≡ marked r.doubt i
  marked_other i d = get_or-set_other r.doubt k i false false d

  kept_next : (i : ℕ) → (kept_in r i || eqb i k) ≡ kept_in (taking r k) i
  unfolding kept_in
  kept_next i =
      let a = (taken r.table g.formed k used_k).alike in
      ⊎_elim
      (λ (q : i ≡ k).
      let right : (in_use (restored r.table k) i && not (marked (set r.doubt k false) i)) ≡ true =
      rw q (and_intro (alike_used a k ∙ used_k) (ap not unmarked_k)) in
      or_right (kept_in r i) (eqb i k) (eq-eqb i k q) ∙ sym right)
      (λ d.
      let left : eqb i k ≡ false = ne_eqb i k d in
      rw (left, alike_used a i, marked_other i d) (or_false (in_use r.table i && not (marked r.doubt i))))
      (eq_or_ne i k)
    where
      or_false : (b : Bool) → (b || false) ≡ b
      or_false true = refl
      or_false false = refl

  pub repairing_next : Repairing t (taking r k)
  repairing_next =
      let c = taken r.table g.formed k used_k in
      record {
        formed = c.formed;
        alike = alike_trans g.alike c.alike;
        marks = length-set r.doubt k false ∙ g.marks;
        doubted =
            λ i h.
            ⊎_elim (λ q. clash (rw q at h) unmarked_k)
            (λ d. alike_used c.alike i ∙ g.doubted i (sym (marked_other i d) ∙ h))
            (eq_or_ne i k);
        spine =
            spine_ext kept_next
            (spine_more g.spine (take_joins r.table g.formed k used_k (kept_in r) g.spine out_k from.0 from.1 from.2));
      }

  size_next : size (set r.doubt k false) t.capacity + 1 ≡ size r.doubt t.capacity
  unfolding size
  size_next =
      let c = count_change t.capacity (marked r.doubt) (marked (set r.doubt k false)) k low (λ i l d. marked_other i d) in
      let x : one (marked r.doubt k) ≡ 1 = ap one doubt_k in
      let y : one (marked (set r.doubt k false) k) ≡ 0 = ap one unmarked_k in
      omega arith

-- what the rounds come to: nothing is wanted any more
pub record Repaired (t : Table) (r : Repair) : Type 0 where
  pub repairing : Repairing t r
  pub settled : (i : ℕ) → i < t.capacity → wanted r i ≡ false

repair_stop : (f : ℕ) (r : Repair) → ltb (lowest r.table.capacity (wanted r)) r.table.capacity ≡ false → repair (suc f) r ≡ r
unfolding repair
repair_stop f r h = rw (h, repair)

repair_go : (f : ℕ) (r : Repair) → ltb (lowest r.table.capacity (wanted r)) r.table.capacity ≡ true →
    repair (suc f) r ≡ repair f (taking r (lowest r.table.capacity (wanted r)))
unfolding repair
repair_go f r h = rw (h, repair)

pub repair_done : {t : Table} (f : ℕ) (r : Repair) → Repairing t r → size r.doubt t.capacity ≤ f → Repaired t (repair f r)
unfolding repair
repair_done {t} zero r g s = record { repairing = g; settled = λ i l. refute (wanted r i) (λ h. none i l h) }
  where
    none : (i : ℕ) → i < t.capacity → wanted r i ≡ true → ⊥
    none i l h = unfold size in (let c = count_pos t.capacity (marked r.doubt) i l (doubt_k r g i l h) in omega arith)
repair_done {t} (suc f) r g s =
    let k = lowest r.table.capacity (wanted r) in
    let cap : r.table.capacity ≡ t.capacity = g.alike.capacity in
    ⊎_elim
    (λ n.
    rw (repair_stop f r (le-ltb k r.table.capacity n))
    (record { repairing = g; settled = λ i l. lowest_none r.table.capacity (wanted r) n i (rw cap l) }))
    (λ l.
    let low : k < t.capacity = omega arith in
    let want = lowest_passes r.table.capacity (wanted r) l in
    rw (repair_go f r (lt-ltb k r.table.capacity l))
    (repair_done f (taking r k) (repairing_next r g k low want) (let e = size_next r g k low want in omega arith)))
    (le_or_lt r.table.capacity k)

-- the kept steps are those that chains of links reach
module _ {t : Table} (r : Repair) (d : Repaired t r) where
  pub no_link_out : (i j : ℕ) → kept_in r i ≡ true → linked r.table i j ≡ true → kept_in r j ≡ true
  unfolding kept_in wanted
  no_link_out i j h l =
      let g = d.repairing in
      let w = formed_wired g.formed in
      let low : j < t.capacity = rw (sym g.alike.capacity) (linked_below w i j l) in
      let li : i < r.table.capacity = formed_below g.formed i (linked_used w i j l).0 in
      and_intro (linked_used w i j l).1
      (ap not
      (refute (marked r.doubt j)
      (λ m.
      let w : wanted r j ≡ true = and_intro m (any_intro r.table.capacity _ i li (and_intro (and_right (in_use r.table i) _ h) l)) in
      clash w (d.settled j low))))

  pub kept_reached : (j : ℕ) → kept_in r j ≡ reaches (linked t) t.capacity 0 j
  kept_reached j =
      let g = d.repairing in
      let links : (a b : ℕ) → linked t a b ≡ true → b < t.capacity =
      λ a b h. rw (sym g.alike.capacity) (linked_below (formed_wired g.formed) a b (alike_linked g.alike a b ∙ h)) in
      same_test _ _
      (λ h.
      let c = spine_chain g.spine j h in
      reach_complete (linked t) t.capacity links (rw (sym g.alike.capacity) g.formed.least)
      (chain_map (λ a b l. sym (alike_linked g.alike a b) ∙ strongly_linked_lem r.table a b l) c.1))
      (λ h.
      let c = reach_sound (linked t) t.capacity 0 j h in
      chain_keeps (λ i. kept_in r i ≡ true) (λ a b k l. no_link_out a b k (alike_linked g.alike a b ∙ l)) g.spine.root c.1)
