-- The strong links of a table as local facts: a rank that they raise, a parent for each step, nothing led out of the set. With a table in
-- order (`Formed`) and charges within the quotas (`Shares`) they are soundness; the chains of the definitions are derived from them here and nowhere else. Assumes nothing.
--   Spine t K          the strong links hold the set of steps K together
--   spine_fewer        fewer strong links, a parent left for each step: still a spine
--   spine_more         one step more, led to from the set and leading nowhere: a spine of the larger set
--   sound_spine, spine_sound   the two ways between soundness and a spine of all steps in use
--   strong_chain_short         a strong chain has fewer links than there are steps in use
use mathlib.Core.Path.{◌≡◌, refl, sym, subst, fun_ext}
use mathlib.Core.Bool.{Bool, true, false, ◌||◌}
use mathlib.Core.Logic.{◌⊎◌, ⊎_elim}
use Prim.Native.Nat.{ℕ, zero, suc, ◌≤◌, ◌<◌}
use native.Mathlib.Omega.{arith}
use Rattle.finite.specs.Below.{count}
use Rattle.finite.specs.Reach.{Chain, start, then, reaches}
use lib.Dec.{eqb}
use borrow.Author.Tests.{eqb-true, eq-eqb}
use Rattle.finite.proofs.Bools.{clash, refute, or_left, or_right, or_elim}
use Rattle.finite.proofs.Below.{eq_or_ne, count_le, count_more, count_mono, count_pos}
use Rattle.finite.proofs.Reach.{chain_head, chain_raises, reach_sound, reach_complete, reach_start}
use Rattle.table.specs.Table.{Table, in_use, strongly_linked, steps_in_use, StrongChain}
use Rattle.table.specs.Sound.{Formed, Shares, Sound}
use Rattle.table.proofs.Links.{Wired, formed_wired, sound_wired, used_below, linked_used, linked_below, strongly_linked_lem}

pub record Spine (t : Table) (K : ℕ → Bool) : Type 0 where
  pub rank : ℕ → ℕ
  pub top : ℕ
  pub root : K 0 ≡ true
  pub used : (i : ℕ) → K i ≡ true → in_use t i ≡ true
  pub low : (i : ℕ) → K i ≡ true → rank i < top
  pub rising : (i j : ℕ) → K i ≡ true → strongly_linked t i j ≡ true → rank i < rank j
  pub closed : (i j : ℕ) → K i ≡ true → strongly_linked t i j ≡ true → K j ≡ true
  pub parent : (j : ℕ) → K j ≡ true → (j ≡ 0 → ⊥) → (i : ℕ) × (K i ≡ true) × (strongly_linked t i j ≡ true)

-- the chain from step 0, parent by parent
chain_within : {t : Table} {K : ℕ → Bool} (s : Spine t K) (n j : ℕ) → s.rank j < n → K j ≡ true → (m : ℕ) × Chain (strongly_linked t) 0 j m
chain_within s zero j l k = absurd (omega arith)
chain_within {t} s (suc n) j l k =
    ⊎_elim (λ z. (0, subst (λ (x : ℕ). Chain (strongly_linked t) 0 x 0) (sym z) start))
    (λ d.
    let p = s.parent j k d in
    let r = s.rising p.0 j p.1 p.2 in
    let c = chain_within s n p.0 (omega arith) p.1 in
    (suc c.0, then c.1 p.2))
    (eq_or_ne j 0)

pub spine_chain : {t : Table} {K : ℕ → Bool} (s : Spine t K) (j : ℕ) → K j ≡ true → (m : ℕ) × Chain (strongly_linked t) 0 j m
spine_chain s j k = chain_within s (suc (s.rank j)) j (omega arith) k

-- a strong link goes from a step in use to one in use below the capacity
strong_used : {t : Table} → Wired t → (i j : ℕ) → strongly_linked t i j ≡ true → (in_use t i ≡ true) × (in_use t j ≡ true)
strong_used {t} w i j h = linked_used w i j (strongly_linked_lem t i j h)

pub strong_below : {t : Table} → Wired t → (i j : ℕ) → strongly_linked t i j ≡ true → j < t.capacity
strong_below {t} w i j h = linked_below w i j (strongly_linked_lem t i j h)

pub spine_sound : {t : Table} → Formed t → Shares t → Spine t (in_use t) → Sound t
spine_sound {t} g shares s =
    record {
      formed = g;
      acyclic =
          λ i n c.
          let w = formed_wired g in
          let r = chain_raises s.rank (λ a b h. s.rising a b (strong_used w a b h).0 h) c.row in
          omega arith;
      reached = λ i u. let c = spine_chain s i u in (c.0, record { begins = g.alarm; row = c.1 });
      shares = shares;
    }

-- how many steps lead to i by strong chains, i itself among them: each strong link raises it
ranked : Table → ℕ → ℕ
ranked t i = count t.capacity (λ j. reaches (strongly_linked t) t.capacity j i)

module _ {t : Table} (s : Sound t) where
  edges : (i j : ℕ) → strongly_linked t i j ≡ true → j < t.capacity
  edges = strong_below (sound_wired s)

  ranked_rises : (i j : ℕ) → strongly_linked t i j ≡ true → ranked t i < ranked t j
  unfolding ranked
  ranked_rises i j h =
      let u = strong_used (sound_wired s) i j h in
      let lj = edges i j h in
      count_more t.capacity _ _
      (λ k l r.
      let c = reach_sound (strongly_linked t) t.capacity k i r in
      reach_complete (strongly_linked t) t.capacity edges l (then c.1 h))
      j
      lj
      (refute _
      (λ r.
      let c = reach_sound (strongly_linked t) t.capacity j i r in
      s.acyclic j c.0 (record { begins = u.1; row = then c.1 h })))
      (reach_start (strongly_linked t) t.capacity j lj)

  -- the last link of the strong chain that reaches a step
  last_link : (j n : ℕ) → Chain (strongly_linked t) 0 j n → (j ≡ 0 → ⊥) → (i : ℕ) × (in_use t i ≡ true) × (strongly_linked t i j ≡ true)
  last_link j n start d = absurd (d refl)
  last_link j n (then {b = i} q l) d = (i, (strong_used (sound_wired s) i j l).0, l)

  pub sound_spine : Spine t (in_use t)
  unfolding ranked
  sound_spine =
      record {
        rank = ranked t;
        top = suc t.capacity;
        root = s.formed.alarm;
        used = λ i u. u;
        low = λ i u. let c = count_le t.capacity (λ j. reaches (strongly_linked t) t.capacity j i) in omega arith;
        rising = λ i j u h. ranked_rises i j h;
        closed = λ i j u h. (strong_used (sound_wired s) i j h).1;
        parent = λ j u d. let c = s.reached j u in last_link j c.0 c.1.row d;
      }

  -- what leads to a step in use is in use
  source_used : (a b n : ℕ) → in_use t b ≡ true → Chain (strongly_linked t) a b n → in_use t a ≡ true
  source_used a b zero u start = u
  source_used a b (suc n) u c = let r = chain_head c in (strong_used (sound_wired s) a r.0 r.1).0

  pub strong_chain_short : (a b n : ℕ) → StrongChain t a b n → n < steps_in_use t
  unfolding ranked steps_in_use
  strong_chain_short a b n c =
      let w = sound_wired s in
      let la = used_below w a c.begins in
      let raise = chain_raises (ranked t) (λ i j h. ranked_rises i j h) c.row in
      let ub : in_use t b ≡ true = end_used a b n c.begins c.row in
      let some : 0 < ranked t a = count_pos t.capacity _ a la (reach_start (strongly_linked t) t.capacity a la) in
      let most : ranked t b ≤ steps_in_use t =
      count_mono t.capacity _ _
      (λ k l r.
      let d = reach_sound (strongly_linked t) t.capacity k b r in
      source_used k b d.0 ub d.1) in
      omega arith
    where
      end_used : (a b n : ℕ) → in_use t a ≡ true → Chain (strongly_linked t) a b n → in_use t b ≡ true
      end_used a b n u start = u
      end_used a b n u (then {b = i} q l) = (strong_used (sound_wired s) i b l).1

pub spine_ext : {t : Table} {K L : ℕ → Bool} → ((i : ℕ) → K i ≡ L i) → Spine t K → Spine t L
spine_ext {t} h s = subst (Spine t) (fun_ext h) s

pub spine_fewer : {t : Table} {K : ℕ → Bool} → Spine t K → (u : Table) →
    ((i : ℕ) → K i ≡ true → in_use u i ≡ true) →
    ((i j : ℕ) → strongly_linked u i j ≡ true → strongly_linked t i j ≡ true) →
    ((j : ℕ) → K j ≡ true → (j ≡ 0 → ⊥) → (i : ℕ) × (K i ≡ true) × (strongly_linked u i j ≡ true)) →
    Spine u K
spine_fewer s u used fewer parent =
    record {
      rank = s.rank;
      top = s.top;
      root = s.root;
      used = used;
      low = s.low;
      rising = λ i j k h. s.rising i j k (fewer i j h);
      closed = λ i j k h. s.closed i j k (fewer i j h);
      parent = parent;
    }

-- what serves rule 3 of clearing, for the step taken back, and add, for the new step
pub record Joins (t u : Table) (K : ℕ → Bool) (k : ℕ) : Type 0 where
  pub new : K k ≡ false
  pub used : (i : ℕ) → K i ≡ true → in_use u i ≡ true
  pub user : in_use u k ≡ true
  pub old : (i j : ℕ) → K i ≡ true → strongly_linked u i j ≡ true → (j ≡ k) ⊎ (strongly_linked t i j ≡ true)
  pub kept : (i j : ℕ) → K i ≡ true → K j ≡ true → strongly_linked t i j ≡ true → strongly_linked u i j ≡ true
  pub parent : (i : ℕ) × (K i ≡ true) × (strongly_linked u i k ≡ true)
  pub still : (j : ℕ) → strongly_linked u k j ≡ true → ⊥

module _ {t u : Table} {K : ℕ → Bool} {k : ℕ} (s : Spine t K) (m : Joins t u K k) where
  -- the ranks, with the new step above them all
  above : ℕ → ℕ
  above i = elim (eqb i k) [ true ↦ s.top | false ↦ s.rank i ]

  above_new : above k ≡ s.top
  unfolding above
  above_new = rw (eq-eqb k k refl, above)

  above_old : (i : ℕ) → K i ≡ true → above i ≡ s.rank i
  unfolding above
  above_old i h = let e : eqb i k ≡ false = refute (eqb i k) (λ q. clash h (rw (eqb-true i k q) m.new)) in rw (e, above)

  pub spine_more : Spine u (λ i. K i || eqb i k)
  spine_more =
      record {
        rank = above;
        top = suc s.top;
        root = or_left (K 0) _ s.root;
        used = λ i h. ⊎_elim (λ a. m.used i a) (λ b. rw (eqb-true i k b) m.user) (or_elim (K i) _ h);
        low =
            λ i h.
            ⊎_elim (λ a. rw (above_old i a) (let l = s.low i a in omega arith))
            (λ b. rw (eqb-true i k b, above_new) (omega arith))
            (or_elim (K i) _ h);
        rising =
            λ i j h l.
            ⊎_elim
            (λ a.
            let r = above_old i a in
            ⊎_elim (λ (e : j ≡ k). rw (r, e, above_new) (s.low i a))
            (λ b. rw (r, above_old j (s.closed i j a b)) (s.rising i j a b))
            (m.old i j a l))
            (λ b. absurd (m.still j (rw (eqb-true i k b) at l)))
            (or_elim (K i) _ h);
        closed =
            λ i j h l.
            ⊎_elim
            (λ a.
            ⊎_elim (λ e. or_right (K j) _ (eq-eqb j k e)) (λ b. or_left (K j) _ (s.closed i j a b)) (m.old i j a l))
            (λ b. absurd (m.still j (rw (eqb-true i k b) at l)))
            (or_elim (K i) _ h);
        parent =
            λ j h d.
            ⊎_elim
            (λ a. let p = s.parent j a d in (p.0, or_left (K p.0) _ p.1, m.kept p.0 j p.1 a p.2))
            (λ b. let p = m.parent in (p.0, or_left (K p.0) _ p.1, rw (eqb-true j k b) p.2))
            (or_elim (K j) _ h);
      }
