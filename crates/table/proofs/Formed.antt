-- Laws of a formed table, one whose fields are in order whatever its strong links: edits of one exit or one bit keep it. Assumes nothing.
--   formed_counts   the counters of free steps are exact too
--   Fit t j b           (j, b) may stand in an exit: it is empty, or a link to a step in use
use mathlib.Core.Path.{◌≡◌, sym, ◌∙◌, ap}
use mathlib.Core.Bool.{true, false, ◌&&◌, not}
use mathlib.Core.Logic.{◌⊎◌, inl, inr, ⊎_elim}
use Prim.Native.Nat.{ℕ, ◌-◌, ◌<◌}
use native.Mathlib.Omega.{arith}
use lib.ListN.{length, get_or, length-set}
use lib.Seq.{get_or-set_same, get_or-set_other}
use lib.Dec.{eqb}
use borrow.Author.Tests.{eqb-true, eqb-false}
use Rattle.finite.proofs.Bools.{and_left, and_right, clash, refute, test, not_true_false}
use Rattle.finite.proofs.Below.{eq_or_ne, count_none}
use Rattle.table.specs.Table.{Table, places, exits_of, exit_places, holder_at, exit_at, in_use, kind_of, content_of, own_bit, cabin_of, target_of, link_bit, counter_of, holds, counts_at, links_to, with_links, with_steps}
use Rattle.table.specs.Sound.{Formed}
use Rattle.table.specs.Calls.{relink}
use Rattle.table.specs.Clear.{flipped}
use Rattle.table.proofs.Places.{exit_at_below, exit_place_split}
use Rattle.table.proofs.Links.{Wired, formed_wired, used_below, used_place, holder_used, holds_target, target_holds, empty_target, target_empty}
use Rattle.table.proofs.Relink.{Exact, relink_shape, relink_target, relink_bit, relink_target_other, relink_bit_other, relink_exact}

-- no exit leads to k: no link to it is counted
none_lead : (t : Table) (k c : ℕ) → ((i e : ℕ) → e < exits_of i → holds t i e ≡ true → target_of t i e ≡ k → ⊥) → links_to t k c ≡ 0
unfolding links_to counts_at target_of
none_lead t k c alone =
    count_none (exit_places t.capacity) _
    (λ p l.
    refute (counts_at t k c p)
    (λ h.
    let both = and_left (not (eqb k 0) && eqb (get_or t.targets p 0) k) _ h in
    let same : get_or t.targets p 0 ≡ k = eqb-true _ _ (and_right (not (eqb k 0)) _ both) in
    let nonzero : k ≡ 0 → ⊥ = eqb-false k 0 (not_true_false _ (and_left (not (eqb k 0)) _ both)) in
    let here : target_of t (holder_at p) (exit_at p) ≡ k = ap (λ (q : ℕ). get_or t.targets q 0) (exit_place_split p) ∙ same in
    alone (holder_at p) (exit_at p) (exit_at_below p) (target_holds t (holder_at p) (exit_at p) (λ z. nonzero (sym here ∙ z))) here))

-- where links lead to steps in use alone, no link leads to a free step
pub no_links : (t : Table) → ((i e : ℕ) → e < exits_of i → holds t i e ≡ true → in_use t (target_of t i e) ≡ true) →
    (k c : ℕ) → in_use t k ≡ false → links_to t k c ≡ 0
no_links t lead k c f = none_lead t k c (λ i e l h q. clash (rw q at (lead i e l h)) f)

-- a held exit leads to a step in use
pub lead_used : {t : Table} → Wired t → (i e : ℕ) → e < exits_of i → holds t i e ≡ true → in_use t (target_of t i e) ≡ true
lead_used w i e l h = w.targets i e (holder_used w i e l h) l h

-- the counters of a free step are exact too
pub formed_counts : {t : Table} → Formed t → Exact t
formed_counts {t} g k c l b =
    ⊎_elim (λ u. g.counts k c u b)
    (λ f. (g.free k l f).counts c b ∙ sym (no_links t (lead_used (formed_wired g)) k c f))
    (test (in_use t k))

pub formed_place : {t : Table} → Formed t → (i : ℕ) → in_use t i ≡ true → i < places
formed_place f = used_place f.shape

pub formed_below : {t : Table} → Formed t → (i : ℕ) → in_use t i ≡ true → i < t.capacity
formed_below f = used_below (formed_wired f)

abbrev pub Fit : Table → ℕ → ℕ → Type 0
Fit t j b = ((j ≡ 0) × (b ≡ 0)) ⊎ ((in_use t j ≡ true) × (j ≡ 0 → ⊥) × (b < 2))

fit_bit : (t : Table) (j b : ℕ) → Fit t j b → b < 2
fit_bit t j b = ⊎_elim (λ z. omega (arith, z.1)) (λ f. f.2)

-- one exit, or all others
pub at_exit : (i e k f : ℕ) → ((k ≡ i) × (f ≡ e)) ⊎ ((k ≡ i) × (f ≡ e) → ⊥)
at_exit i e k f =
    ⊎_elim (λ a. ⊎_elim (λ b. inl (a, b)) (λ b. inr (λ c. b c.1)) (eq_or_ne f e)) (λ a. inr (λ c. a c.0)) (eq_or_ne k i)

module _ (t : Table) (g : Formed t) (i e j b : ℕ) (u : in_use t i ≡ true) (le : e < exits_of i) (fit : Fit t j b) where
  fit_below : j < places
  fit_below = ⊎_elim (λ z. omega (arith, z.0)) (λ f. formed_place g j f.0) fit

  lead : (k f : ℕ) → f < exits_of k → holds (relink t i e j b) k f ≡ true → in_use t (target_of (relink t i e j b) k f) ≡ true
  lead k f l h =
      let li = formed_place g i u in
      ⊎_elim
      (λ (s : (k ≡ i) × (f ≡ e)).
      let here : target_of (relink t i e j b) k f ≡ j = rw (s.0, s.1) (relink_target t g.shape i e j b li le) in
      rw here (⊎_elim (λ z. absurd (holds_target _ k f h (here ∙ z.0))) (λ y. y.0) fit))
      (λ d.
      let other = relink_target_other t g.shape i e j b li le k f l d in
      rw other (lead_used (formed_wired g) k f l (target_holds t k f (λ z. holds_target _ k f h (other ∙ z)))))
      (at_exit i e k f)

  pub formed_relink : Formed (relink t i e j b)
  unfolding relink with_links in_use kind_of content_of own_bit cabin_of
  formed_relink =
      let li = formed_place g i u in
      let w = formed_wired g in
      let old : target_of t i e < places =
      ⊎_elim (λ h. formed_place g (target_of t i e) (g.targets i e u le h)) (λ h. omega (arith, empty_target t i e h)) (test (holds t i e)) in
      let exact = relink_exact t g.shape i e j b li le (formed_below g i u) old (g.bits i e u le) fit_below (fit_bit t j b fit) (formed_counts g) in
      record {
        shape = relink_shape t g.shape i e j b li le;
        least = g.least;
        most = g.most;
        last = g.last;
        above = g.above;
        alarm = g.alarm;
        kinds = g.kinds;
        own = g.own;
        bits =
            λ k f v l.
            ⊎_elim
            (λ (s : (k ≡ i) × (f ≡ e)). rw (s.0, s.1, relink_bit t g.shape i e j b li le) (fit_bit t j b fit))
            (λ d. rw (relink_bit_other t g.shape i e j b li le k f l d) (g.bits k f v l))
            (at_exit i e k f);
        targets = λ k f v l h. lead k f l h;
        empty =
            λ k f v l h.
            ⊎_elim
            (λ (s : (k ≡ i) × (f ≡ e)).
            let here : target_of (relink t i e j b) k f ≡ j = rw (s.0, s.1) (relink_target t g.shape i e j b li le) in
            let bit : link_bit (relink t i e j b) k f ≡ b = rw (s.0, s.1) (relink_bit t g.shape i e j b li le) in
            bit ∙ ⊎_elim (λ z. z.1) (λ y. absurd (y.1 (sym here ∙ empty_target _ k f h))) fit)
            (λ d.
            relink_bit_other t g.shape i e j b li le k f l d
            ∙ g.empty k f v l (target_empty t k f (sym (relink_target_other t g.shape i e j b li le k f l d) ∙ empty_target _ k f h)))
            (at_exit i e k f);
        free =
            λ k l f.
            let blank = g.free k l f in
            let apart : (e' : ℕ) → (k ≡ i) × (e' ≡ e) → ⊥ = λ e' s. clash u (rw s.0 at f) in
            record {
              used = blank.used;
              kind = blank.kind;
              content = blank.content;
              own = blank.own;
              targets = λ e' x. relink_target_other t g.shape i e j b li le k e' x (apart e') ∙ blank.targets e' x;
              bits = λ e' x. relink_bit_other t g.shape i e j b li le k e' x (apart e') ∙ blank.bits e' x;
              counts = λ c x. exact k c l x ∙ no_links (relink t i e j b) lead k c f;
              cabin = blank.cabin;
            };
        counts = λ k c v l. exact k c (formed_place g k v) l;
        cabins = g.cabins;
        alarm_cabin = g.alarm_cabin;
      }

-- the step's own bit changes no link and no counter
pub formed_flipped : (t : Table) → Formed t → (k : ℕ) → in_use t k ≡ true → Formed (flipped t k)
unfolding flipped with_steps in_use kind_of content_of own_bit cabin_of target_of link_bit holds counter_of links_to counts_at
formed_flipped t g k u =
    let lk : k < length t.own = rw g.shape.own (formed_place g k u) in
    record {
      shape =
          record {
            used = g.shape.used;
            kinds = g.shape.kinds;
            contents = g.shape.contents;
            own = length-set t.own _ _ ∙ g.shape.own;
            targets = g.shape.targets;
            bits = g.shape.bits;
            counts = g.shape.counts;
            cabins = g.shape.cabins;
            quotas = g.shape.quotas;
          };
      least = g.least;
      most = g.most;
      last = g.last;
      above = g.above;
      alarm = g.alarm;
      kinds = g.kinds;
      own =
          λ i v.
          ⊎_elim
          (λ (s : i ≡ k). rw (s, get_or-set_same t.own k (1 - get_or t.own k 0) 0 lk) (omega arith))
          (λ d. rw (get_or-set_other t.own k i (1 - get_or t.own k 0) 0 d) (g.own i v))
          (eq_or_ne i k);
      bits = g.bits;
      targets = g.targets;
      empty = g.empty;
      free =
          λ i l f.
          let blank = g.free i l f in
          record {
            used = blank.used;
            kind = blank.kind;
            content = blank.content;
            own = get_or-set_other t.own k i (1 - get_or t.own k 0) 0 (λ s. clash u (rw s at f)) ∙ blank.own;
            targets = blank.targets;
            bits = blank.bits;
            counts = blank.counts;
            cabin = blank.cabin;
          };
      counts = g.counts;
      cabins = g.cabins;
      alarm_cabin = g.alarm_cabin;
    }
