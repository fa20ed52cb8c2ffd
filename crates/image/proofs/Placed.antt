-- Step records put into a table, one after the other: what they leave, and the plan that they draw. Assumes nothing.
--   SameStep w x j     the tables w and x have the same fields at step j; its counters aside
--   record_there record_other   a record that was put in, at its step and at any other
--   record_plan        the plan follows
--   blank_record       the record of a free step
--   fields_same        a step whose record is the same is the same
--   gathered_equal     tables that are the same at every step are one table, once their counters are worked out
use mathlib.Core.Path.{◌≡◌, refl, sym, ◌∙◌, ap}
use mathlib.Core.Bool.{true, ◌&&◌, cond}
use mathlib.Core.Logic.{⊎_elim}
use mathlib.Core.List.{List, [], ◌∷◌}
use mathlib.Core.Option.{Option, some}
use Prim.Native.Nat.{ℕ, zero, suc, ◌/◌, ◌%◌, ◌^◌, ◌≤◌, ◌<◌}
use native.Mathlib.Omega.{arith}
use lib.ListN.{length, get_or, set, replicate, length-set}
use lib.Seq.{length-sets, ext_get_or, get_or-set_same, get_or-set_other, set_out}
use lib.Dec.{eqb}
use borrow.Author.Tests.{eq-eqb, ne_eqb, lt-ltb}
use Rattle.finite.specs.Below.{tabulate, tabulate_from}
use Rattle.finite.proofs.Bools.{clash, test}
use Rattle.finite.proofs.Below.{le_or_lt, length_tabulate, tabulate_ext, tabulate_set}
use Rattle.finite.proofs.Stores.{sets_outside, sets_inside, four_at}
use Rattle.table.specs.Table.{Table, places, exits, exit_place, exits_of, exit_places, holder_at, exit_at, in_use, kind_of, content_of, own_bit, cabin_of, target_of, link_bit, with_links, with_steps}
use Rattle.table.specs.Sound.{Shape, Blank, Sound, content_fits, kind_fits}
use Rattle.table.specs.Plan.{PlanStep, plan_step, plan_of, replan}
use Rattle.table.proofs.Places.{place_own, exit_place_apart, exit_at_below, exit_place_split}
use Rattle.image.specs.Image.{edition2, step_kind_of, words, record_size, record_bytes, bits_of, step_adds, step_fields_of, with_record, counted}
use Rattle.image.specs.Slip.{record_in, plan_record}
use Rattle.image.proofs.Exits.{exits_four, exit_four}
use Rattle.image.proofs.Bits.{bits_read, bit_at}
use Rattle.image.proofs.RoundTrip.{bit_small, bit_blank, used_one, counts_entries}

pub record SameStep (w x : Table) (j : ℕ) : Type 0 where
  pub used : get_or w.used j 0 ≡ get_or x.used j 0
  pub kind : kind_of w j ≡ kind_of x j
  pub content : content_of w j ≡ content_of x j
  pub own : own_bit w j ≡ own_bit x j
  pub cabin : cabin_of w j ≡ cabin_of x j
  pub target : (e : ℕ) → e < exits_of j → target_of w j e ≡ target_of x j e
  pub bit : (e : ℕ) → e < exits_of j → link_bit w j e ≡ link_bit x j e

pub step_refl : (w : Table) (j : ℕ) → SameStep w w j
step_refl w j = record { used = refl; kind = refl; content = refl; own = refl; cabin = refl; target = λ e l. refl; bit = λ e l. refl }

pub step_trans : {w x y : Table} {j : ℕ} → SameStep w x j → SameStep x y j → SameStep w y j
step_trans a b =
    record {
      used = a.used ∙ b.used;
      kind = a.kind ∙ b.kind;
      content = a.content ∙ b.content;
      own = a.own ∙ b.own;
      cabin = a.cabin ∙ b.cabin;
      target = λ e l. a.target e l ∙ b.target e l;
      bit = λ e l. a.bit e l ∙ b.bit e l;
    }

-- free steps are all the same
pub blank_same : {w x : Table} {j : ℕ} → Blank w j → Blank x j → SameStep w x j
blank_same a b =
    record {
      used = a.used ∙ sym b.used;
      kind = a.kind ∙ sym b.kind;
      content = a.content ∙ sym b.content;
      own = a.own ∙ sym b.own;
      cabin = a.cabin ∙ sym b.cabin;
      target = λ e l. a.targets e l ∙ sym (b.targets e l);
      bit = λ e l. a.bits e l ∙ sym (b.bits e l);
    }

-- the same step has the same record
pub step_fields : {w x : Table} {j : ℕ} → SameStep w x j → step_fields_of edition2 w j ≡ step_fields_of edition2 x j
unfolding step_fields_of step_adds bits_of
step_fields {w} {x} {j} a =
    rw (a.kind, a.content, a.own, a.cabin)
    (rw (a.target 0 (omega arith), a.target 1 (omega arith), a.target 2 (omega arith), a.target 3 (omega arith)) (rw (a.bit 0 (omega arith), a.bit 1 (omega arith), a.bit 2 (omega arith), a.bit 3 (omega arith))))

-- "A free step's record has length 22, kind 4, its number and zeros"
blank_fields : {t : Table} {k : ℕ} → Blank t k → step_fields_of edition2 t k ≡ k ∷ replicate 8 0
unfolding step_fields_of step_adds bits_of
blank_fields {t} {k} b =
    rw (b.kind, b.content, b.own, b.cabin)
    (rw (b.targets 0 (omega arith), b.targets 1 (omega arith), b.targets 2 (omega arith), b.targets 3 (omega arith)) (rw (b.bits 0 (omega arith), b.bits 1 (omega arith), b.bits 2 (omega arith), b.bits 3 (omega arith))))

pub blank_record : {t : Table} {k : ℕ} → Blank t k → record_in t k ≡ words (22 ∷ 4 ∷ k ∷ replicate 8 0)
unfolding record_in record_bytes record_size
blank_record b = ap (record_bytes (step_kind_of edition2)) (blank_fields b)

-- The record of one step put into a table.
module _ (w : Table) (fields : List ℕ) where
  abbrev i : ℕ
  i = get_or fields 0 0

  abbrev sum : ℕ
  sum = get_or fields 3 0

  abbrev heads : List ℕ
  heads = get_or fields 4 0 ∷ get_or fields 5 0 ∷ get_or fields 6 0 ∷ get_or fields 7 0 ∷ []

  abbrev bits_out : List ℕ
  bits_out = sum % 2 ∷ sum / 2 % 2 ∷ sum / 4 % 2 ∷ sum / 8 % 2 ∷ []

  pub record_shape : Shape w → Shape (with_record w fields)
  unfolding with_record with_links with_steps
  record_shape s =
      record {
        used = length-set w.used i 1 ∙ s.used;
        kinds = length-set w.kinds i (get_or fields 1 0) ∙ s.kinds;
        contents = length-set w.contents i (get_or fields 2 0) ∙ s.contents;
        own = length-set w.own i (sum / 16 % 2) ∙ s.own;
        targets = length-sets w.targets (exit_places i) heads ∙ s.targets;
        bits = length-sets w.bits (exit_places i) bits_out ∙ s.bits;
        counts = s.counts;
        cabins = length-set w.cabins i (get_or fields 8 0) ∙ s.cabins;
        quotas = s.quotas;
      }

  pub record_other : (j : ℕ) → (j ≡ i → ⊥) → SameStep (with_record w fields) w j
  unfolding with_record with_links with_steps kind_of content_of own_bit cabin_of target_of link_bit
  record_other j d =
      record {
        used = get_or-set_other w.used i j 1 0 d;
        kind = get_or-set_other w.kinds i j (get_or fields 1 0) 0 d;
        content = get_or-set_other w.contents i j (get_or fields 2 0) 0 d;
        own = get_or-set_other w.own i j (sum / 16 % 2) 0 d;
        cabin = get_or-set_other w.cabins i j (get_or fields 8 0) 0 d;
        target = λ e l. sets_outside heads w.targets (exit_places i) (exit_place j e) (exit_place_apart i j e d l);
        bit = λ e l. sets_outside bits_out w.bits (exit_places i) (exit_place j e) (exit_place_apart i j e d l);
      }

  -- what the step itself has
  module _ (s : Shape w) (l : i < places) where
    pub there_used : get_or (with_record w fields).used i 0 ≡ 1
    unfolding with_record with_links with_steps
    there_used = get_or-set_same w.used i 1 0 (rw s.used l)

    pub there_kind : kind_of (with_record w fields) i ≡ get_or fields 1 0
    unfolding with_record with_links with_steps kind_of
    there_kind = get_or-set_same w.kinds i (get_or fields 1 0) 0 (rw s.kinds l)

    pub there_content : content_of (with_record w fields) i ≡ get_or fields 2 0
    unfolding with_record with_links with_steps content_of
    there_content = get_or-set_same w.contents i (get_or fields 2 0) 0 (rw s.contents l)

    pub there_own : own_bit (with_record w fields) i ≡ sum / 16 % 2
    unfolding with_record with_links with_steps own_bit
    there_own = get_or-set_same w.own i (sum / 16 % 2) 0 (rw s.own l)

    pub there_cabin : cabin_of (with_record w fields) i ≡ get_or fields 8 0
    unfolding with_record with_links with_steps cabin_of
    there_cabin = get_or-set_same w.cabins i (get_or fields 8 0) 0 (rw s.cabins l)

    pub there_target : (e : ℕ) → e < exits → target_of (with_record w fields) i e ≡ get_or heads e 0
    unfolding with_record with_links with_steps target_of
    there_target e h = rw (place_own i e h) (sets_inside heads w.targets (exit_places i) e h (let z = s.targets in omega arith))

    pub there_bit : (e : ℕ) → e < exits → link_bit (with_record w fields) i e ≡ get_or bits_out e 0
    unfolding with_record with_links with_steps link_bit
    there_bit e h = rw (place_own i e h) (sets_inside bits_out w.bits (exit_places i) e h (let z = s.bits in omega arith))

    there_targets : tabulate exits (target_of (with_record w fields) i) ≡ heads
    unfolding tabulate tabulate_from
    there_targets = rw (there_target 0 (omega arith), there_target 1 (omega arith), there_target 2 (omega arith), there_target 3 (omega arith))

    there_step : plan_step (with_record w fields) i ≡
        some (record { kind = get_or fields 1 0; content = get_or fields 2 0; targets = heads; cabin = get_or fields 8 0 })
    unfolding plan_step in_use
    there_step =
        rw (eq-eqb (get_or (with_record w fields).used i 0) 1 there_used, there_kind, there_content, there_cabin, exits_four i, there_targets)

-- what a plan has of a record
abbrev drawn : List ℕ → Option PlanStep
drawn fields =
    some
    (record {
      kind = get_or fields 1 0;
      content = get_or fields 2 0;
      targets = get_or fields 4 0 ∷ get_or fields 5 0 ∷ get_or fields 6 0 ∷ get_or fields 7 0 ∷ [];
      cabin = get_or fields 8 0;
    })

-- the plan's entry goes by the step
step_plan : {w x : Table} {j : ℕ} → SameStep w x j → plan_step w j ≡ plan_step x j
unfolding plan_step in_use
step_plan {w} {x} {j} a = rw (a.used, a.kind, a.content, a.cabin, tabulate_ext (exits_of j) (target_of w j) (target_of x j) a.target)

-- "puts the .. records, without bits, into the plain plan"
pub record_plan : (w : Table) (fields : List ℕ) → Shape w → w.capacity ≤ places → plan_of (with_record w fields) ≡ plan_record (plan_of w) fields
unfolding plan_of plan_record replan
record_plan w fields s m =
    let numbers = record_numbers w fields in
    λ k.
    record { capacity = numbers.0 k; last = numbers.1 k; steps = (ap (λ (n : ℕ). tabulate n (plan_step (with_record w fields))) numbers.0 ∙ steps) k; quotas = numbers.2 k }
  where
    record_numbers : (w : Table) (fields : List ℕ) →
        ((with_record w fields).capacity ≡ w.capacity) × ((with_record w fields).last ≡ w.last) × ((with_record w fields).quotas ≡ w.quotas)
    record_numbers w fields = unfold with_record with_links with_steps in (refl, refl, refl)

    steps : tabulate w.capacity (plan_step (with_record w fields)) ≡ set (tabulate w.capacity (plan_step w)) (get_or fields 0 0) (drawn fields)
    steps =
        let step = drawn fields in
        ⊎_elim
        (λ (h : w.capacity ≤ get_or fields 0 0).
        tabulate_ext w.capacity (plan_step (with_record w fields)) (plan_step w)
        (λ j l. step_plan (record_other w fields j (λ q. omega arith)))
        ∙ sym (set_out (tabulate w.capacity (plan_step w)) (get_or fields 0 0) step (rw (length_tabulate w.capacity (plan_step w)) h)))
        (λ (h : get_or fields 0 0 < w.capacity).
        tabulate_set w.capacity (get_or fields 0 0) (plan_step (with_record w fields)) (plan_step w) step h
        (there_step w fields s (omega arith))
        (λ j l d. step_plan (record_other w fields j d)))
        (le_or_lt w.capacity (get_or fields 0 0))

-- Of sound tables.
module _ (t : Table) (s : Sound t) where
  bits_low : (j : ℕ) → j < places → (e : ℕ) → e < 5 → bit_at t j e < 2
  bits_low j l e h =
      ⊎_elim (λ u. bit_small edition2 t s j u e h) (λ u. let z = bit_blank edition2 t s j (s.formed.free j l u) e in omega arith) (test (in_use t j))

  -- each bit is read back from the sum
  bits_back : (j : ℕ) → j < places → (e : ℕ) → e < 5 → bits_of t j / 2 ^ e % 2 ≡ bit_at t j e
  unfolding bits_of
  bits_back j l = bits_read (bit_at t j) (bits_low j l)

  -- a step in use but 0 has a kind
  pub used_kind : (j : ℕ) → in_use t j ≡ true → (j ≡ 0 → ⊥) → kind_of t j ≡ 0 → ⊥
  unfolding kind_fits content_fits
  used_kind j u d z =
      let k : cond (eqb j 0) (eqb (kind_of t j) 0 && eqb (content_of t j) 0) (content_fits (kind_of t j) (content_of t j)) ≡ true = s.formed.kinds j u in
      clash k (rw (ne_eqb j 0 d, z) refl)

  -- the record of a step in use, put into a table, gives that step
  pub record_there : (w : Table) → Shape w → (j : ℕ) → in_use t j ≡ true → j < places → SameStep (with_record w (step_fields_of edition2 t j)) t j
  unfolding step_fields_of step_adds cabin_of
  record_there w h j u l =
      record {
        used = there_used w (step_fields_of edition2 t j) h l ∙ sym (used_one edition2 t s j u);
        kind = there_kind w (step_fields_of edition2 t j) h l;
        content = there_content w (step_fields_of edition2 t j) h l;
        own = there_own w (step_fields_of edition2 t j) h l ∙ bits_back j l 4 (omega arith);
        cabin = there_cabin w (step_fields_of edition2 t j) h l;
        target = λ e x. let y = exit_four j e x in there_target w (step_fields_of edition2 t j) h l e y ∙ four_at (target_of t j) e y;
        bit = λ e x. let y = exit_four j e x in there_bit w (step_fields_of edition2 t j) h l e y ∙ bits j l e y;
      }
    where
      bits : (j : ℕ) → j < places → (e : ℕ) → e < exits →
          get_or (bits_of t j % 2 ∷ bits_of t j / 2 % 2 ∷ bits_of t j / 4 % 2 ∷ bits_of t j / 8 % 2 ∷ []) e 0 ≡ link_bit t j e
      bits j l zero h = let z = bits_back j l 0 (omega arith) in omega arith
      bits j l (suc zero) h = bits_back j l 1 (omega arith)
      bits j l (suc (suc zero)) h = bits_back j l 2 (omega arith)
      bits j l (suc (suc (suc zero))) h = bits_back j l 3 (omega arith)
      bits j l (suc (suc (suc (suc e)))) h = absurd (omega arith)

-- Two sound tables.
module _ (t u : Table) (s : Sound t) (r : Sound u) where
  -- what is in use goes by the kind
  pub kind_used : (j : ℕ) → j < places → kind_of t j ≡ kind_of u j → get_or t.used j 0 ≡ get_or u.used j 0
  kind_used j l q =
      ⊎_elim
      (λ x.
      ⊎_elim (λ y. used_one edition2 t s j x ∙ sym (used_one edition2 u r j y))
      (λ y. absurd (used_kind t s j x (λ z. clash r.formed.alarm (ap (in_use u) (sym z) ∙ y)) (q ∙ (r.formed.free j l y).kind)))
      (test (in_use u j)))
      (λ x.
      ⊎_elim
      (λ y. absurd (used_kind u r j y (λ z. clash s.formed.alarm (ap (in_use t) (sym z) ∙ x)) (sym q ∙ (s.formed.free j l x).kind)))
      (λ y. (s.formed.free j l x).used ∙ sym (r.formed.free j l y).used)
      (test (in_use u j)))
      (test (in_use t j))

  -- and all else by the record
  pub fields_same : (j : ℕ) → j < places → step_fields_of edition2 t j ≡ step_fields_of edition2 u j → SameStep t u j
  unfolding step_fields_of step_adds
  fields_same j l q =
      let at : (f : ℕ) → get_or (step_fields_of edition2 t j) f 0 ≡ get_or (step_fields_of edition2 u j) f 0 = λ f. ap (λ (fs : List ℕ). get_or fs f 0) q in
      let bits : (e : ℕ) → e < 5 → bit_at t j e ≡ bit_at u j e =
      λ e h. sym (bits_back t s j l e h) ∙ ap (λ (n : ℕ). n / 2 ^ e % 2) (at 3) ∙ bits_back u r j l e h in
      record {
        used = kind_used j l (at 1);
        kind = at 1;
        content = at 2;
        own = bits 4 (omega arith);
        cabin = at 8;
        target =
            λ e x.
            let h = exit_four j e x in
            sym (four_at (target_of t j) e h) ∙
            ap (λ (fs : List ℕ). get_or (get_or fs 4 0 ∷ get_or fs 5 0 ∷ get_or fs 6 0 ∷ get_or fs 7 0 ∷ []) e 0) q ∙ four_at (target_of u j) e h;
        bit = λ e y. let h = exit_four j e y in let x = lt-ltb e exits h in sym (rw x) ∙ bits e (omega arith) ∙ rw x;
      }

-- a table that is the same as a sound one at every step is that table, once its counters are worked out
pub record Gathered (w t : Table) : Type 0 where
  pub shape : Shape w
  pub capacity : w.capacity ≡ t.capacity
  pub last : w.last ≡ t.last
  pub quotas : w.quotas ≡ t.quotas
  pub steps : (j : ℕ) → j < places → SameStep w t j

pub gathered_equal : (w t : Table) → Sound t → Gathered w t → counted w ≡ t
unfolding counted with_links
gathered_equal w t s g =
    let h = g.shape in
    let z = s.formed.shape in
    let places_of : (a b : List ℕ) → length a ≡ places → length b ≡ places → ((j : ℕ) → j < places → get_or a j 0 ≡ get_or b j 0) → a ≡ b =
    λ a b x y f. ext_get_or 0 a b (x ∙ sym y) (λ j l. f j (omega arith)) in
    let exits_alike : (a b : List ℕ) → length a ≡ exit_places places → length b ≡ exit_places places →
    ((j e : ℕ) → j < places → e < exits_of j → get_or a (exit_place j e) 0 ≡ get_or b (exit_place j e) 0) → a ≡ b =
    λ a b x y f.
    ext_get_or 0 a b (x ∙ sym y)
    (λ p l.
    ap (λ (q : ℕ). get_or a q 0) (sym (exit_place_split p)) ∙ f (holder_at p) (exit_at p) (omega arith) (exit_at_below p) ∙ ap (λ (q : ℕ). get_or b q 0) (exit_place_split p)) in
    let targets = exits_alike w.targets t.targets h.targets z.targets (λ j e l x. unfold target_of in (g.steps j l).target e x) in
    let bits = exits_alike w.bits t.bits h.bits z.bits (λ j e l x. unfold link_bit in (g.steps j l).bit e x) in
    let used = places_of w.used t.used h.used z.used (λ j l. (g.steps j l).used) in
    let kinds = places_of w.kinds t.kinds h.kinds z.kinds (λ j l. unfold kind_of in (g.steps j l).kind) in
    let contents = places_of w.contents t.contents h.contents z.contents (λ j l. unfold content_of in (g.steps j l).content) in
    let own = places_of w.own t.own h.own z.own (λ j l. unfold own_bit in (g.steps j l).own) in
    let cabins = places_of w.cabins t.cabins h.cabins z.cabins (λ j l. unfold cabin_of in (g.steps j l).cabin) in
    let counts = counts_entries edition2 t s w g.capacity targets bits in
    λ k.
    record {
      capacity = g.capacity k;
      last = g.last k;
      used = used k;
      kinds = kinds k;
      contents = contents k;
      own = own k;
      targets = targets k;
      bits = bits k;
      counts = counts k;
      cabins = cabins k;
      quotas = g.quotas k;
    }
