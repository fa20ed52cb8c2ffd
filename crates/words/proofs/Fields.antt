-- A table by its steps: what a step's record is after one is written, and that tables with the same records are the same. Assumes nothing.
--   step_at t k        the record of step k: whether it is in use, and its fields
--   Sized f           fields that have a place for each exit and counter
--   with_fields_here with_fields_other with_fields_shape   a table with another record of one step
--   with_numbers_shape with_numbers_step   a table with other numbers
--   table_ext         tables with the same numbers, the same exits of entries and the same records are the same
use mathlib.Core.Path.{◌≡◌, refl, sym, ◌∙◌, ap}
use mathlib.Core.Logic.{◌⊎◌, inl, inr, ⊎_elim}
use mathlib.Core.List.{List, [], ◌∷◌}
use Prim.Native.Nat.{ℕ, zero, suc, ◌+◌, ◌*◌, ◌/◌, ◌%◌, ◌≤◌, ◌<◌}
use native.Mathlib.Omega.{arith}
use lib.ListN.{length, get_or, set, length-set}
use lib.Seq.{sets, length-sets, ext_get_or, get_or-set_same, get_or-set_other}
use Rattle.finite.specs.Below.{tabulate}
use Rattle.finite.proofs.Below.{le_or_lt, get_or_tabulate, tabulate_ext}
use Rattle.finite.proofs.Select.{tabulate_entries}
use Rattle.table.specs.declared.Fields.{Fields}
use Rattle.table.specs.Table.{Table, places, exits, entries, exit_places, holder_at, exit_at, counters, quota_numbers, exit_place, counter_place, kind_of, content_of, own_bit, cabin_of, target_of, link_bit, counter_of, with_links, with_steps, with_numbers}
use Rattle.table.specs.Sound.{Shape}
use Rattle.table.specs.Calls.{fields_of}
use Rattle.table.proofs.Places.{own_split, place_own}
use Rattle.words.specs.Words.{with_fields}
use Rattle.words.proofs.Laws.{same_fields_lem}

unfoldable pub step_at : Table → ℕ → ℕ × Fields
step_at t k = (get_or t.used k 0, fields_of t k)

pub record Sized (f : Fields) : Type 0 where
  pub targets : length f.targets ≡ exits
  pub bits : length f.bits ≡ exits
  pub counts : length f.counts ≡ counters

-- what a run of stores leaves: elsewhere, and in the run
sets_other : (vs l : List ℕ) (p q : ℕ) → ((e : ℕ) → e < length vs → q ≡ p + e → ⊥) → get_or (sets l p vs) q 0 ≡ get_or l q 0
sets_other [] l p q d = refl
sets_other (v ∷ vs) l p q d =
    sets_other vs (set l p v) (suc p) q (λ e h s. d (suc e) (omega arith) (omega arith)) ∙
    get_or-set_other l p q v 0 (λ s. d 0 (omega arith) (omega arith))

sets_here : (vs l : List ℕ) (p e : ℕ) → e < length vs → p + length vs ≤ length l → get_or (sets l p vs) (p + e) 0 ≡ get_or vs e 0
sets_here [] l p e h r = absurd (omega arith)
sets_here (v ∷ vs) l p zero h r =
    let z : p + 0 ≡ p = omega arith in
    rw z (sets_other vs (set l p v) (suc p) p (λ e h s. omega arith) ∙ get_or-set_same l p v 0 (omega arith))
sets_here (v ∷ vs) l p (suc e) h r =
    let z : p + suc e ≡ suc p + e = omega arith in
    rw z (sets_here vs (set l p v) (suc p) e (omega arith) (omega (arith, length-set l p v)))

-- the w entries of l that belong to step k, from a place on
abbrev row : (ℕ → ℕ) → ℕ → List ℕ → ℕ → List ℕ
row from w l k = tabulate w (λ e. get_or l (from k + e) 0)

-- where the counters of a step begin; its four exits begin at `exit_places`
abbrev counter_places : ℕ → ℕ
counter_places k = k * counters

row_here : (from : ℕ → ℕ) (w k : ℕ) (l f : List ℕ) → length f ≡ w → from k + w ≤ length l → row from w (sets l (from k) f) k ≡ f
row_here from w k l f n r = tabulate_entries w _ f 0 n (λ e h. sets_here f l (from k) e (omega arith) (omega arith))

row_other : (from : ℕ → ℕ) (w j k : ℕ) (l f : List ℕ) → length f ≡ w → ((e d : ℕ) → e < w → d < w → from j + e ≡ from k + d → ⊥) →
    row from w (sets l (from k) f) j ≡ row from w l j
row_other from w j k l f n apart =
    tabulate_ext w _ _ (λ e h. sets_other f l (from k) (from j + e) (λ d g s. apart e d h (omega arith) s))

pub list_ext : (n : ℕ) (l m : List ℕ) → length l ≡ n → length m ≡ n → ((k : ℕ) → k < n → get_or l k 0 ≡ get_or m k 0) → l ≡ m
list_ext n l m a b same = ext_get_or 0 l m (a ∙ sym b) (λ k h. same k (omega arith))

-- lists whose entries are the same or stand in a row, and whose rows are the same
row_ext : (from : ℕ → ℕ) (w n : ℕ) (l m : List ℕ) → length l ≡ n → length m ≡ n →
    ((p : ℕ) → p < n → (get_or l p 0 ≡ get_or m p 0) ⊎ ((k : ℕ) × (e : ℕ) × (k < places) × (e < w) × (from k + e ≡ p))) →
    ((k : ℕ) → k < places → row from w l k ≡ row from w m k) → l ≡ m
row_ext from w n l m a b split same =
    list_ext n l m a b
    (λ p h.
    ⊎_elim (λ z. z)
    (λ (s : (k : ℕ) × (e : ℕ) × (k < places) × (e < w) × (from k + e ≡ p)).
    let e = s.1 in
    let here = ap (λ (xs : List ℕ). get_or xs e 0) (same s.0 s.2) in
    let both : get_or l (from s.0 + e) 0 ≡ get_or m (from s.0 + e) 0 =
    sym (get_or_tabulate w (λ e. get_or l (from s.0 + e) 0) 0 e s.3) ∙ here ∙ get_or_tabulate w (λ e. get_or m (from s.0 + e) 0) 0 e s.3 in
    rw s.4 at both)
    (split p h))

-- the four exits of a step stand in a row
exits_row : (l : List ℕ) (k : ℕ) → tabulate exits (λ e. get_or l (exit_place k e) 0) ≡ row exit_places exits l k
exits_row l k = tabulate_ext exits _ _ (λ e h. ap (λ (p : ℕ). get_or l p 0) (place_own k e h))

exits_here : (k : ℕ) (l f : List ℕ) → length f ≡ exits → exit_places k + exits ≤ length l →
    tabulate exits (λ e. get_or (sets l (exit_places k) f) (exit_place k e) 0) ≡ f
exits_here k l f n r = exits_row (sets l (exit_places k) f) k ∙ row_here exit_places exits k l f n r

exits_other : (j k : ℕ) (l f : List ℕ) → length f ≡ exits → (j ≡ k → ⊥) →
    tabulate exits (λ e. get_or (sets l (exit_places k) f) (exit_place j e) 0) ≡ tabulate exits (λ e. get_or l (exit_place j e) 0)
exits_other j k l f n d =
    exits_row (sets l (exit_places k) f) j ∙ row_other exit_places exits j k l f n (λ a b g h q. d (omega arith)) ∙ sym (exits_row l j)

exits_ext : (l m : List ℕ) → length l ≡ exit_places places → length m ≡ exit_places places →
    ((p : ℕ) → p < entries → get_or l p 0 ≡ get_or m p 0) →
    ((k : ℕ) → k < places → tabulate exits (λ e. get_or l (exit_place k e) 0) ≡ tabulate exits (λ e. get_or m (exit_place k e) 0)) → l ≡ m
exits_ext l m a b front same =
    row_ext exit_places exits _ l m a b
    (λ p h.
    ⊎_elim (λ g. let s = own_split places p g h in inr (holder_at p, exit_at p, s.0, s.1, s.2)) (λ g. inl (front p g)) (le_or_lt entries p))
    (λ k h. sym (exits_row l k) ∙ same k h ∙ exits_row m k)

module _ (t : Table) (s : Shape t) (k used : ℕ) (f : Fields) (z : Sized f) where
  pub with_fields_shape : Shape (with_fields t k used f)
  unfolding with_fields with_links with_steps
  with_fields_shape =
      record {
        used = length-set t.used k used ∙ s.used;
        kinds = length-set t.kinds k _ ∙ s.kinds;
        contents = length-set t.contents k _ ∙ s.contents;
        own = length-set t.own k _ ∙ s.own;
        targets = length-sets t.targets _ f.targets ∙ s.targets;
        bits = length-sets t.bits _ f.bits ∙ s.bits;
        counts = length-sets t.counts _ f.counts ∙ s.counts;
        cabins = length-set t.cabins k _ ∙ s.cabins;
        quotas = s.quotas;
      }

  pub with_fields_here : k < places → step_at (with_fields t k used f) k ≡ (used, f)
  unfolding step_at fields_of kind_of content_of own_bit cabin_of target_of link_bit counter_of counter_place with_fields with_links with_steps
  with_fields_here l n = (
    get_or-set_same t.used k used 0 (omega (arith, s.used)) n,
    record {
      kind = get_or-set_same t.kinds k f.kind 0 (omega (arith, s.kinds)) n;
      content = get_or-set_same t.contents k f.content 0 (omega (arith, s.contents)) n;
      own = get_or-set_same t.own k f.own 0 (omega (arith, s.own)) n;
      targets = exits_here k t.targets f.targets z.targets (omega (arith, s.targets)) n;
      bits = exits_here k t.bits f.bits z.bits (omega (arith, s.bits)) n;
      counts = row_here counter_places counters k t.counts f.counts z.counts (omega (arith, s.counts)) n;
      cabin = get_or-set_same t.cabins k f.cabin 0 (omega (arith, s.cabins)) n;
    },
  )

  pub with_fields_other : (j : ℕ) → (j ≡ k → ⊥) → step_at (with_fields t k used f) j ≡ step_at t j
  unfolding step_at fields_of kind_of content_of own_bit cabin_of target_of link_bit counter_of counter_place with_fields with_links with_steps
  with_fields_other j d n = (
    get_or-set_other t.used k j used 0 d n,
    record {
      kind = get_or-set_other t.kinds k j f.kind 0 d n;
      content = get_or-set_other t.contents k j f.content 0 d n;
      own = get_or-set_other t.own k j f.own 0 d n;
      targets = exits_other j k t.targets f.targets z.targets d n;
      bits = exits_other j k t.bits f.bits z.bits d n;
      counts = row_other counter_places counters j k t.counts f.counts z.counts (λ a b g h q. d (omega arith)) n;
      cabin = get_or-set_other t.cabins k j f.cabin 0 d n;
    },
  )

-- another capacity, last number given and list of quotas are no matter to the records
pub with_numbers_shape : {t : Table} → Shape t → (capacity last : ℕ) (quotas : List ℕ) → length quotas ≡ quota_numbers → Shape (with_numbers t capacity last quotas)
unfolding with_numbers
with_numbers_shape s capacity last quotas size =
    record {
      used = s.used;
      kinds = s.kinds;
      contents = s.contents;
      own = s.own;
      targets = s.targets;
      bits = s.bits;
      counts = s.counts;
      cabins = s.cabins;
      quotas = size;
    }

pub with_numbers_step : (t : Table) (capacity last : ℕ) (quotas : List ℕ) (k : ℕ) → step_at (with_numbers t capacity last quotas) k ≡ step_at t k
unfolding step_at fields_of kind_of content_of own_bit cabin_of target_of link_bit counter_of with_numbers
with_numbers_step t capacity last quotas k = refl

pub table_ext : (t u : Table) → Shape t → Shape u → t.capacity ≡ u.capacity → t.last ≡ u.last → t.quotas ≡ u.quotas →
    ((p : ℕ) → p < entries → (get_or t.targets p 0 ≡ get_or u.targets p 0) × (get_or t.bits p 0 ≡ get_or u.bits p 0)) →
    ((k : ℕ) → k < places → step_at t k ≡ step_at u k) → t ≡ u
unfolding step_at fields_of kind_of content_of own_bit cabin_of target_of link_bit counter_of counter_place
table_ext t u s r c l q front same =
    same_fields_lem t u c l
    (list_ext places _ _ s.used r.used (λ k h. ap (λ (x : ℕ × Fields). x.0) (same k h)))
    (list_ext places _ _ s.kinds r.kinds (λ k h. ap (λ (x : ℕ × Fields). x.1.kind) (same k h)))
    (list_ext places _ _ s.contents r.contents (λ k h. ap (λ (x : ℕ × Fields). x.1.content) (same k h)))
    (list_ext places _ _ s.own r.own (λ k h. ap (λ (x : ℕ × Fields). x.1.own) (same k h)))
    (exits_ext _ _ s.targets r.targets (λ p h. (front p h).0) (λ k h. ap (λ (x : ℕ × Fields). x.1.targets) (same k h)))
    (exits_ext _ _ s.bits r.bits (λ p h. (front p h).1) (λ k h. ap (λ (x : ℕ × Fields). x.1.bits) (same k h)))
    (row_ext counter_places counters _ _ _ s.counts r.counts two (λ k h. ap (λ (x : ℕ × Fields). x.1.counts) (same k h)))
    (list_ext places _ _ s.cabins r.cabins (λ k h. ap (λ (x : ℕ × Fields). x.1.cabin) (same k h)))
    q
  where
    two : (p : ℕ) → p < places * counters → (get_or t.counts p 0 ≡ get_or u.counts p 0) ⊎
        ((k : ℕ) × (e : ℕ) × (k < places) × (e < counters) × (counter_places k + e ≡ p))
    two p h = inr (p / counters, p % counters, omega arith, omega arith, omega arith)
