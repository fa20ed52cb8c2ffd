-- Rule 3 of clearing, one step: its bit is flipped and its links made weak. The plan stays, the fields stay in order, and the step joins the
-- set that the strong links hold together. Assumes nothing.
use mathlib.Core.Path.{◌≡◌, refl, sym, ◌∙◌, ap, subst}
use mathlib.Core.Bool.{Bool, true, false}
use mathlib.Core.Logic.{inl, inr, ⊎_elim}
use mathlib.Core.List.{List}
use Prim.Native.Nat.{ℕ, suc, ◌-◌, ◌<◌}
use native.Mathlib.Omega.{arith}
use lib.ListN.{get_or, set}
use lib.Seq.{get_or-set_same, get_or-set_other, set-get_or}
use Rattle.finite.proofs.Bools.{clash, test}
use Rattle.finite.proofs.Below.{eq_or_ne, below_suc, rounds_induct}
use Rattle.table.specs.Table.{Table, exit_place, exits_of, in_use, own_bit, target_of, link_bit, strong, linked, strongly_linked, with_links, with_steps}
use Rattle.table.specs.Sound.{Formed}
use Rattle.table.specs.Calls.{relink, weak_bit}
use Rattle.table.specs.Clear.{flipped, weakened, restored}
use Rattle.table.proofs.Links.{holds_target, strong_holds, bit_strong, linked_exit, strongly_exit, exit_strongly}
use Rattle.table.proofs.Relink.{relink_target, relink_bit, relink_bit_other}
use Rattle.table.proofs.Formed.{formed_place, formed_relink, formed_flipped}
use Rattle.table.proofs.Spine.{Spine, Joins}
use Rattle.table.proofs.Edits.{strong_same, weak_bit_lem, relink_strong_other}
use Rattle.table.proofs.Alike.{Alike, alike_refl, alike_trans, alike_used, alike_target, alike_holds}

-- one link made weak
module _ (t : Table) (g : Formed t) (k e : ℕ) (u : in_use t k ≡ true) (le : e < exits_of k) where
  abbrev turned : Table
  turned = relink t k e (target_of t k e) (weak_bit t (target_of t k e))

  weakened_strong : strong t k e ≡ true → weakened t k e ≡ turned
  unfolding weakened
  weakened_strong h = rw h

  weakened_weak : strong t k e ≡ false → weakened t k e ≡ t
  unfolding weakened
  weakened_weak h = rw h

  turned_formed : strong t k e ≡ true → Formed turned
  unfolding weak_bit
  turned_formed h =
      let f = strong_holds t k e h in
      formed_relink t g k e (target_of t k e) (1 - own_bit t (target_of t k e)) u le (inr (g.targets k e u le f, holds_target t k e f, omega arith))

  turned_weak : strong t k e ≡ true → strong turned k e ≡ false
  turned_weak h =
      let j = target_of t k e in
      let lk = formed_place g k u in
      let at = relink_target t g.shape k e j (weak_bit t j) lk le in
      let bit = relink_bit t g.shape k e j (weak_bit t j) lk le in
      let own : own_bit t j < 2 = g.own j (g.targets k e u le (strong_holds t k e h)) in
      weak_bit_lem turned k e
      (λ q.
      let r : weak_bit t j ≡ own_bit t j = sym bit ∙ q ∙ ap (own_bit turned) at ∙ (unfold relink with_links own_bit in refl) in
      apart j own r)
    where
      apart : (j : ℕ) → own_bit t j < 2 → weak_bit t j ≡ own_bit t j → ⊥
      apart j own r = unfold weak_bit in omega arith

  turned_alike : Alike t turned
  unfolding relink with_links target_of
  turned_alike =
      record {
        capacity = refl;
        last = refl;
        used = refl;
        kinds = refl;
        contents = refl;
        targets = set-get_or t.targets (exit_place k e) 0;
        cabins = refl;
        quotas = refl;
      }

  -- what one weakening does, whichever way it goes
  record Weakened (v : Table) : Type 0 where
    formed : Formed v
    alike : Alike t v
    own : v.own ≡ t.own
    weak : strong v k e ≡ false
    other : (i f : ℕ) → f < exits_of i → ((i ≡ k) × (f ≡ e) → ⊥) → link_bit v i f ≡ link_bit t i f
    strongs : (i f : ℕ) → f < exits_of i → ((i ≡ k) × (f ≡ e) → ⊥) → strong v i f ≡ strong t i f

  weakening : Weakened (weakened t k e)
  weakening =
      ⊎_elim
      (λ h.
      subst Weakened (sym (weakened_strong h))
      (record {
        formed = turned_formed h;
        alike = turned_alike;
        own = (unfold relink with_links in refl);
        weak = turned_weak h;
        other = relink_bit_other t g.shape k e (target_of t k e) (weak_bit t (target_of t k e)) (formed_place g k u) le;
        strongs = relink_strong_other t g k e (target_of t k e) (weak_bit t (target_of t k e)) u le;
      }))
      (λ h.
      subst Weakened (sym (weakened_weak h))
      (record {
        formed = g;
        alike = alike_refl t;
        own = refl;
        weak = h;
        other = λ i f l d. refl;
        strongs = λ i f l d. refl;
      }))
      (test (strong t k e))

-- the step taken back
module _ (t : Table) (g : Formed t) (k : ℕ) (u : in_use t k ≡ true) where
  -- after m of its exits
  pub record Turned (m : ℕ) (v : Table) : Type 0 where
    pub formed : Formed v
    pub alike : Alike t v
    pub own : v.own ≡ set t.own k (1 - own_bit t k)
    pub weak : (e : ℕ) → e < m → strong v k e ≡ false
    pub other : (i f : ℕ) → f < exits_of i → (i ≡ k → ⊥) → link_bit v i f ≡ link_bit t i f

  turned_start : Turned 0 (flipped t k)
  turned_start =
      record {
        formed = formed_flipped t g k u;
        alike =
            (unfold flipped with_steps in
            record { capacity = refl; last = refl; used = refl; kinds = refl; contents = refl; targets = refl; cabins = refl; quotas = refl });
        own = (unfold flipped with_steps in refl);
        weak = λ e l. absurd (omega arith);
        other = λ i f l d. unfold flipped with_steps link_bit in refl;
      }

  turned_more : (m : ℕ) → m < exits_of k → (v : Table) → Turned m v → Turned (suc m) (weakened v k m)
  turned_more m l v r =
      let uv = alike_used r.alike k ∙ u in
      let w = weakening v r.formed k m uv l in
      record {
        formed = w.formed;
        alike = alike_trans r.alike w.alike;
        own = w.own ∙ r.own;
        weak =
            λ e x.
            ⊎_elim (λ (q : e ≡ m). rw q w.weak)
            (λ y. w.strongs k e (omega arith) (λ q. omega (arith, q.1)) ∙ r.weak e y)
            (below_suc x);
        other = λ i f x d. w.other i f x (λ q. d q.0) ∙ r.other i f x d;
      }

  pub taken : Turned (exits_of k) (restored t k)
  unfolding restored
  taken = rounds_induct Turned (exits_of k) (λ e v. weakened v k e) (flipped t k) turned_more turned_start

  own_taken : own_bit (restored t k) k ≡ 1 - own_bit t k
  unfolding own_bit
  own_taken =
      ap (λ (l : List ℕ). get_or l k 0) taken.own
      ∙ get_or-set_same t.own k (1 - get_or t.own k 0) 0 (rw g.shape.own (formed_place g k u))

  own_other : (j : ℕ) → (j ≡ k → ⊥) → own_bit (restored t k) j ≡ own_bit t j
  unfolding own_bit
  own_other j d = ap (λ (l : List ℕ). get_or l j 0) taken.own ∙ get_or-set_other t.own k j (1 - get_or t.own k 0) 0 d

  -- of links of other steps to other steps, the strength stays
  strong_other : (i e : ℕ) → e < exits_of i → (i ≡ k → ⊥) → (target_of t i e ≡ k → ⊥) → strong (restored t k) i e ≡ strong t i e
  strong_other i e l d c =
      strong_same t (restored t k) i e (alike_target taken.alike i e) (taken.other i e l d) (own_other (target_of t i e) c)

  module _ (K : ℕ → Bool) (s : Spine t K) (out : K k ≡ false) (p : ℕ) (kp : K p ≡ true) (link : linked t p k ≡ true) where
    apart : (i : ℕ) → K i ≡ true → i ≡ k → ⊥
    apart i h q = clash h (rw q out)

    -- the link from the set was weak, since strong links do not leave the set; now it is strong
    held : strongly_linked (restored t k) p k ≡ true
    held =
        let r = linked_exit t p k link in
        let v = restored t k in
        let at = alike_target taken.alike p r.0 ∙ r.3 in
        let up = s.used p kp in
        let weak : link_bit t p r.0 ≡ own_bit t k → ⊥ =
        λ q. clash (s.closed p k kp (exit_strongly t p k r.0 r.1 (bit_strong t p r.0 r.2 (q ∙ sym (ap (own_bit t) r.3))) r.3)) out in
        let b1 = g.bits p r.0 up r.1 in
        let b2 = g.own k u in
        let same : link_bit v p r.0 ≡ own_bit v k = taken.other p r.0 r.1 (apart p kp) ∙ turned_bit _ _ b1 b2 weak ∙ sym own_taken in
        exit_strongly v p k r.0 r.1
        (bit_strong v p r.0 (alike_holds taken.alike p r.0 ∙ r.2) (same ∙ sym (ap (own_bit v) at)))
        at
      where
        turned_bit : (a b : ℕ) → a < 2 → b < 2 → (a ≡ b → ⊥) → a ≡ 1 - b
        turned_bit a b la lb d = ⊎_elim (λ q. absurd (d q)) (λ n. omega arith) (eq_or_ne a b)

    pub take_joins : Joins t (restored t k) K k
    take_joins =
        record {
          new = out;
          used = λ i h. alike_used taken.alike i ∙ s.used i h;
          user = alike_used taken.alike k ∙ u;
          old =
              λ i j h l.
              let r = strongly_exit (restored t k) i j l in
              let at = sym (alike_target taken.alike i r.0) ∙ r.3 in
              ⊎_elim (λ q. inl q)
              (λ d.
              inr
              (exit_strongly t i j r.0 r.1 (sym (strong_other i r.0 r.1 (apart i h) (λ q. d (sym at ∙ q))) ∙ r.2) at))
              (eq_or_ne j k);
          kept =
              λ i j h h' l.
              let r = strongly_exit t i j l in
              exit_strongly (restored t k) i j r.0 r.1
              (strong_other i r.0 r.1 (apart i h) (λ q. apart j h' (sym r.3 ∙ q)) ∙ r.2)
              (alike_target taken.alike i r.0 ∙ r.3);
          parent = (p, kp, held);
          still = λ j l. let r = strongly_exit (restored t k) k j l in clash r.2 (taken.weak r.0 r.1);
        }
