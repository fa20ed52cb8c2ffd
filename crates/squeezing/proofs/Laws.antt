-- Steps moved one after the other, in ascending order, are those of the squeezed table (document 02, W2). Assumes nothing.
--   Staged t u i      u is t with the steps below i moved: they are at their new numbers, and the places that they left are empty
--   staged_none staged_used staged_free   before the first step, past a step in use, and past a free one
--   staged_in_use staged_movable staged_moved   the step at hand, moved by an array of new numbers
--   staged_done       past the last step
use mathlib.Core.Path.{◌≡◌, refl, sym, ◌∙◌, ap}
use mathlib.Core.Bool.{true, false}
use mathlib.Core.Logic.{⊎_elim}
use mathlib.Core.List.{List, [], ◌∷◌}
use Prim.Native.Nat.{ℕ, ◌+◌, ◌≤◌, ◌<◌}
use native.Mathlib.Omega.{arith}
use lib.ListN.{get_or}
use lib.Dec.{eqb}
use Rattle.finite.specs.Below.{tabulate, tabulate_from}
use Rattle.finite.proofs.Bools.{clash}
use Rattle.finite.proofs.Below.{le_or_lt, eq_or_ne, get_or_tabulate}
use Rattle.table.specs.declared.Fields.{Fields}
use Rattle.table.specs.Table.{Table, places, exits, entries, counters, in_use, kind_of, content_of, own_bit, cabin_of, target_of, link_bit, counter_of, steps_in_use, with_links, with_steps, with_numbers}
use Rattle.table.specs.Sound.{Shape, Blank, Formed}
use Rattle.table.specs.Calls.{fields_of, no_fields}
use Rattle.table.specs.Squeeze.{new_number, squeezed}
use Rattle.table.proofs.Places.{own_exit}
use Rattle.table.proofs.Links.{Wired, formed_wired, used_place, used_below}
use Rattle.table.proofs.Renumber.{new_used, new_free, new_most, new_rises, new_step, new_all, new_place_lem, moved_new, moved_none, squeezed_shape, squeezed_entry, squeezed_kind, squeezed_content, squeezed_own, squeezed_cabin, squeezed_target, squeezed_bit, squeezed_counter, squeezed_renumbered}
use Rattle.words.specs.Words.{with_fields}
use Rattle.words.proofs.Formed.{target_place}
use Rattle.words.proofs.Fields.{step_at, Sized, with_fields_here, with_fields_other, with_fields_shape, with_numbers_shape, with_numbers_step, table_ext}
use Rattle.squeezing.specs.Moves.{followed, moved_step, squeezed_steps, Movable}

-- a step in use under its new number, and a free one
unfoldable pub step_moved : Table → ℕ → ℕ × Fields
step_moved t i = (1, followed (new_number t) (fields_of t i))

unfoldable pub step_free : ℕ × Fields
step_free = (0, no_fields)

pub record Staged (t u : Table) (i : ℕ) : Type 0 where
  pub capacity : u.capacity ≡ t.capacity
  pub last : u.last ≡ t.last
  pub quotas : u.quotas ≡ t.quotas
  pub moved : (j : ℕ) → j < i → in_use t j ≡ true → step_at u (new_number t j) ≡ step_moved t j
  pub left : (k : ℕ) → new_number t i ≤ k → k < i → step_at u k ≡ step_free
  pub rest : (k : ℕ) → i ≤ k → k < places → step_at u k ≡ step_at t k

-- A record holds the four exits of its step. A table has no other as long as it has no entry (document 02, W12), so that all exits move with the
-- records.
no_entry : (p : ℕ) → p < entries → ⊥
no_entry p l = omega arith

-- the record of a free step
blank_free : {t : Table} {i : ℕ} → Blank t i → step_at t i ≡ step_free
unfolding step_at step_free fields_of no_fields tabulate tabulate_from
blank_free b n = (
  b.used n,
  record {
    kind = b.kind n;
    content = b.content n;
    own = b.own n;
    targets = b.targets 0 (omega arith) n ∷ b.targets 1 (omega arith) n ∷ b.targets 2 (omega arith) n ∷ b.targets 3 (omega arith) n ∷ [];
    bits = b.bits 0 (omega arith) n ∷ b.bits 1 (omega arith) n ∷ b.bits 2 (omega arith) n ∷ b.bits 3 (omega arith) n ∷ [];
    counts = b.counts 0 (omega arith) n ∷ b.counts 1 (omega arith) n ∷ [];
    cabin = b.cabin n;
  },
)

followed_sized : (new : ℕ → ℕ) (t : Table) (i : ℕ) → Sized (followed new (fields_of t i))
unfolding followed fields_of tabulate tabulate_from
followed_sized new t i = record { targets = refl; bits = refl; counts = refl }

free_sized : Sized no_fields
unfolding no_fields
free_sized = record { targets = refl; bits = refl; counts = refl }

followed_same : (old new : ℕ → ℕ) (t : Table) (i : ℕ) → ((j : ℕ) → j < places → old j ≡ new j) →
    ((e : ℕ) → e < exits → target_of t i e < places) → followed old (fields_of t i) ≡ followed new (fields_of t i)
unfolding followed fields_of tabulate tabulate_from
followed_same old new t i same place n =
    record {
      kind = kind_of t i;
      content = content_of t i;
      own = own_bit t i;
      targets =
          same _ (place 0 (omega arith)) n ∷ same _ (place 1 (omega arith)) n ∷ same _ (place 2 (omega arith)) n ∷
          same _ (place 3 (omega arith)) n ∷ [];
      bits = tabulate exits (link_bit t i);
      counts = tabulate counters (counter_of t i);
      cabin = cabin_of t i;
    }

pub staged_none : (t : Table) → Staged t t 0
staged_none t =
    record {
      capacity = refl;
      last = refl;
      quotas = refl;
      moved = λ j l u. absurd (omega arith);
      left = λ k g l. absurd (omega arith);
      rest = λ k g l. refl;
    }

module _ {t u : Table} {i : ℕ} (w : Wired t) (g : Staged t u i) where
  -- a free step is left as it is: its record is empty already
  pub staged_free : i < places → in_use t i ≡ false → Staged t u (i + 1)
  staged_free place f =
      record {
        capacity = g.capacity;
        last = g.last;
        quotas = g.quotas;
        moved = λ j l v. g.moved j (let d : j ≡ i → ⊥ = λ e. clash (rw e at v) f in omega arith) v;
        left =
            λ k a l.
            ⊎_elim (λ (e : k ≡ i). rw e (g.rest i (omega arith) place ∙ blank_free (w.free i place f)))
            (λ (d : k ≡ i → ⊥). g.left k (omega (arith, new_free t i f)) (omega arith))
            (eq_or_ne k i);
        rest = λ k a l. g.rest k (omega arith) l;
      }

  module _ (s : Shape u) (v : in_use t i ≡ true) where
    place : i < places
    place = used_place w.shape i v

    emptied : Table
    emptied = with_fields u i 0 no_fields

    after : Table
    after = moved_step (new_number t) i u

    emptied_shape : Shape emptied
    unfolding emptied
    emptied_shape = with_fields_shape u s i 0 no_fields free_sized

    at_number : step_at after (new_number t i) ≡ step_moved t i
    unfolding after moved_step step_moved emptied step_at
    at_number =
        with_fields_here emptied emptied_shape (new_number t i) 1 _ (followed_sized (new_number t) u i) (new_place_lem w i v) ∙
        ap (λ (x : ℕ × Fields). (1, followed (new_number t) x.1)) (g.rest i (omega arith) place)

    past_number : (k : ℕ) → (k ≡ new_number t i → ⊥) → step_at after k ≡ step_at emptied k
    unfolding after moved_step emptied
    past_number k d = with_fields_other emptied emptied_shape (new_number t i) 1 _ (followed_sized (new_number t) u i) k d

    elsewhere : (k : ℕ) → (k ≡ new_number t i → ⊥) → (k ≡ i → ⊥) → step_at after k ≡ step_at u k
    unfolding emptied
    elsewhere k d e = past_number k d ∙ with_fields_other u s i 0 no_fields free_sized k e

    at_place : (new_number t i ≡ i → ⊥) → step_at after i ≡ step_free
    unfolding emptied step_free
    at_place d = past_number i (λ e. d (sym e)) ∙ with_fields_here u s i 0 no_fields free_sized place

    after_capacity : (moved_step (new_number t) i u).capacity ≡ u.capacity
    unfolding moved_step with_fields with_links with_steps
    after_capacity = refl

    after_last : (moved_step (new_number t) i u).last ≡ u.last
    unfolding moved_step with_fields with_links with_steps
    after_last = refl

    after_quotas : (moved_step (new_number t) i u).quotas ≡ u.quotas
    unfolding moved_step with_fields with_links with_steps
    after_quotas = refl

    -- a step in use moves down or stays
    staged_used : Staged t (moved_step (new_number t) i u) (i + 1)
    unfolding after
    staged_used =
        let most = new_most t i in
        let next = new_used t i v in
        record {
          capacity = after_capacity ∙ g.capacity;
          last = after_last ∙ g.last;
          quotas = after_quotas ∙ g.quotas;
          moved =
              λ j l x.
              ⊎_elim (λ (e : j ≡ i). rw e at_number)
              (λ (d : j ≡ i → ⊥).
              let low : j < i = omega arith in
              let rise = new_rises t j i low x in
              let less = new_most t j in
              elsewhere (new_number t j) (λ e. omega arith) (λ e. omega arith) ∙ g.moved j low x)
              (eq_or_ne j i);
          left =
              λ k a l.
              ⊎_elim (λ (e : k ≡ i). rw e (at_place (λ q. omega arith)))
              (λ (d : k ≡ i → ⊥). elsewhere k (λ e. omega arith) d ∙ g.left k (omega arith) (omega arith))
              (eq_or_ne k i);
          rest = λ k a l. elsewhere k (λ e. omega arith) (λ e. omega arith) ∙ g.rest k (omega arith) l;
        }

-- a step that is still in its old place, and the array of new numbers
module _ {t u : Table} {i : ℕ} (f : Formed t) (g : Staged t u i) (place : i < places) where
  pub staged_in_use : in_use u i ≡ in_use t i
  unfolding in_use step_at
  staged_in_use = ap (λ (x : ℕ × Fields). eqb x.0 1) (g.rest i (omega arith) place)

  staged_target : (e : ℕ) → e < exits → target_of u i e < places
  unfolding step_at fields_of
  staged_target e l =
      let same = ap (λ (x : ℕ × Fields). get_or x.1.targets e 0) (g.rest i (omega arith) place) in
      let here : target_of u i e ≡ target_of t i e =
      sym (get_or_tabulate exits (target_of u i) 0 e l) ∙ same ∙ get_or_tabulate exits (target_of t i) 0 e l in
      rw here (target_place f i e (own_exit i e l))

  module _ (numbers : List ℕ) (q : numbers ≡ tabulate places (new_number t)) (v : in_use t i ≡ true) where
    number : (j : ℕ) → j < places → get_or numbers j 0 ≡ new_number t j
    number j l = rw q (get_or_tabulate places (new_number t) 0 j l)

    pub staged_movable : Movable numbers u i
    staged_movable =
        record { step = place; number = rw (number i place) (new_place_lem (formed_wired f) i v); targets = staged_target }

    pub staged_moved : Shape u → Staged t (moved_step (λ j. get_or numbers j 0) i u) (i + 1)
    unfolding moved_step
    staged_moved s =
        let same : moved_step (λ j. get_or numbers j 0) i u ≡ moved_step (new_number t) i u =
        λ n. with_fields (with_fields u i 0 no_fields) (number i place n) 1 (followed_same _ (new_number t) u i number staged_target n) in
        rw same (staged_used (formed_wired f) g s v)

-- the same records in the squeezed table
module _ {t : Table} (w : Wired t) (c : ℕ) (q : List ℕ) where
  squeezed_moved : (i : ℕ) → in_use t i ≡ true → step_at (squeezed t c q) (new_number t i) ≡ step_moved t i
  unfolding step_at step_moved followed fields_of tabulate tabulate_from
  squeezed_moved i v n =
      let r = squeezed_renumbered w c q in (
        (squeezed_entry t c q _ (new_place_lem w i v) ∙ moved_new w i (λ i. 1) v) n,
        record {
          kind = r.kind i v n;
          content = r.content i v n;
          own = r.own i v n;
          targets =
              r.target i 0 v (omega arith) n ∷ r.target i 1 v (omega arith) n ∷ r.target i 2 v (omega arith) n ∷
              r.target i 3 v (omega arith) n ∷ [];
          bits = r.bit i 0 v (omega arith) n ∷ r.bit i 1 v (omega arith) n ∷ r.bit i 2 v (omega arith) n ∷ r.bit i 3 v (omega arith) n ∷ [];
          counts = r.counter i 0 v (omega arith) n ∷ r.counter i 1 v (omega arith) n ∷ [];
          cabin = r.cabin i v n;
        },
      )

  squeezed_free : (k : ℕ) → k < places → steps_in_use t ≤ k → step_at (squeezed t c q) k ≡ step_free
  squeezed_free k l g =
      blank_free
      (record {
        used = squeezed_entry t c q k l ∙ moved_none t k _ g;
        kind = squeezed_kind t c q k l ∙ moved_none t k _ g;
        content = squeezed_content t c q k l ∙ moved_none t k _ g;
        own = squeezed_own t c q k l ∙ moved_none t k _ g;
        targets = λ e h. squeezed_target t c q k e l h ∙ moved_none t k _ g;
        bits = λ e h. squeezed_bit t c q k e l h ∙ moved_none t k _ g;
        counts = λ b h. squeezed_counter t c q k b l h ∙ moved_none t k _ g;
        cabin = squeezed_cabin t c q k l ∙ moved_none t k _ g;
      })

module _ {t u : Table} (w : Wired t) (g : Staged t u t.capacity) where
  all_moved : (k : ℕ) → k < places → step_at u k ≡ step_at (squeezed t t.capacity t.quotas) k
  all_moved k l =
      ⊎_elim
      (λ (a : steps_in_use t ≤ k).
      ⊎_elim (λ (b : t.capacity ≤ k). g.rest k b l ∙ blank_free (w.free k l (w.above k b l)))
      (λ (b : k < t.capacity). g.left k (rw (new_all t) a) b)
      (le_or_lt t.capacity k) ∙
      sym (squeezed_free w t.capacity t.quotas k l a))
      (λ (a : k < steps_in_use t).
      let x = new_step t k a in
      rw x.2 at (g.moved x.0 (used_below w x.0 x.1) x.1 ∙ sym (squeezed_moved w t.capacity t.quotas x.0 x.1)))
      (le_or_lt (steps_in_use t) k)

  pub staged_done : Shape u → u ≡ squeezed_steps t
  unfolding squeezed_steps with_numbers
  staged_done s =
      let size = w.shape.quotas in
      let shape = with_numbers_shape (squeezed_shape t t.capacity t.quotas size) t.capacity t.last t.quotas size in
      table_ext u (squeezed_steps t) s shape g.capacity g.last g.quotas (λ p l. absurd (no_entry p l))
      (λ k l. all_moved k l ∙ sym (with_numbers_step (squeezed t t.capacity t.quotas) t.capacity t.last t.quotas k))
