-- Steps under their new numbers, and the squeezed table read field by field (document 02, W2). Assumes nothing.
--   new_zero new_used new_free   the new number of step 0, and of the step after one in use or a free one
--   new_below new_once new_step  a new number is below the steps in use, is that of one step, and each is that of a step
--   old_new                      the step that gets a number is the one that has it as its new number
--   squeezed_*                   a field of the squeezed table
--   squeezed_renumbered          the squeezed table has the steps of the old one under their new numbers
use mathlib.Core.Path.{◌≡◌, refl, sym, ◌∙◌, ap}
use mathlib.Core.Bool.{Bool, true, false, ◌&&◌, cond}
use mathlib.Core.Logic.{⊎_elim}
use Prim.Native.Nat.{ℕ, ◌+◌, ◌*◌, ◌≤◌, ◌<◌}
use native.Mathlib.Omega.{arith}
use mathlib.Core.List.{List}
use lib.ListN.{length, get_or, get_or-eq_default}
use lib.Dec.{eqb, ltb}
use borrow.Author.Tests.{eqb-true, eq-eqb, lt-ltb, le-ltb}
use Rattle.finite.proofs.Bools.{and_intro, and_left, and_right}
use Rattle.finite.proofs.Below.{le_or_lt, eq_or_ne, count_le, length_tabulate, get_or_tabulate}
use Rattle.finite.proofs.Packed.{tabulate_blocks}
use Rattle.finite.proofs.Loops.{count_zero, count_hit, count_miss}
use Rattle.finite.proofs.Select.{select, count_rises, count_injective, lowest_only}
use Rattle.table.specs.Table.{Table, places, entries_of, exits_of, exit_places, counters, quota_numbers, counter_place, in_use, kind_of, content_of, own_bit, cabin_of, target_of, link_bit, counter_of, steps_in_use}
use Rattle.table.specs.Sound.{Shape}
use Rattle.table.specs.Squeeze.{new_number, old_number, moved, squeezed, Renumbered}
use Rattle.table.proofs.Places.{tabulate_exits, entries_none}
use Rattle.table.proofs.Links.{Wired, used_below}

module _ (t : Table) where
  pub new_zero : new_number t 0 ≡ 0
  unfolding new_number
  new_zero = count_zero (in_use t)

  -- step 0 stays step 0, so no step has fewer exits under its new number
  pub new_more : (i : ℕ) → exits_of i ≤ exits_of (new_number t i)
  new_more i =
      ⊎_elim (λ (z : i ≡ 0). let n = ap entries_of (ap (new_number t) z ∙ new_zero ∙ sym z) in omega arith)
      (λ d. let n = entries_none i d in omega arith)
      (eq_or_ne i 0)

  pub new_used : (i : ℕ) → in_use t i ≡ true → new_number t (i + 1) ≡ new_number t i + 1
  unfolding new_number
  new_used i u = count_hit i (in_use t) u

  pub new_free : (i : ℕ) → in_use t i ≡ false → new_number t (i + 1) ≡ new_number t i
  unfolding new_number
  new_free i f = count_miss i (in_use t) f

  -- a step moves down or stays
  pub new_most : (i : ℕ) → new_number t i ≤ i
  unfolding new_number
  new_most i = count_le i (in_use t)

  pub new_rises : (i j : ℕ) → i < j → in_use t i ≡ true → new_number t i < new_number t j
  unfolding new_number
  new_rises i j l u = count_rises (in_use t) i j l u

  pub new_once : (i j : ℕ) → in_use t i ≡ true → in_use t j ≡ true → new_number t i ≡ new_number t j → i ≡ j
  unfolding new_number
  new_once i j u v e = count_injective (in_use t) i j u v e

  -- each number below the steps in use is the new one of a step
  pub new_step : (k : ℕ) → k < steps_in_use t → (i : ℕ) × (in_use t i ≡ true) × (new_number t i ≡ k)
  unfolding new_number steps_in_use
  new_step k l = let s = select t.capacity (in_use t) k l in (s.number, s.passes, s.index)

  pub new_all : new_number t t.capacity ≡ steps_in_use t
  unfolding new_number steps_in_use
  new_all = refl

  pub used_most : steps_in_use t ≤ t.capacity
  unfolding steps_in_use
  used_most = count_le t.capacity (in_use t)

  -- a number that a step gets, and one that none gets
  pub moved_step_lem : (k : ℕ) (field : ℕ → ℕ) → k < steps_in_use t → moved t k field ≡ field (old_number t k)
  unfolding moved
  moved_step_lem k field l = rw (lt-ltb k (steps_in_use t) l)

  pub moved_none : (k : ℕ) (field : ℕ → ℕ) → steps_in_use t ≤ k → moved t k field ≡ 0
  unfolding moved
  moved_none k field l = rw (le-ltb k (steps_in_use t) l)

module _ {t : Table} (w : Wired t) where
  pub new_below : (i : ℕ) → in_use t i ≡ true → new_number t i < steps_in_use t
  new_below i u = rw (← new_all t) (new_rises t i t.capacity (used_below w i u) u)

  pub old_new : (i : ℕ) → in_use t i ≡ true → old_number t (new_number t i) ≡ i
  unfolding old_number
  old_new i u =
      lowest_only t.capacity (λ j. in_use t j && eqb (new_number t j) (new_number t i)) i (used_below w i u)
      (and_intro u (eq-eqb (new_number t i) (new_number t i) refl))
      (λ j l h. new_once t j i (and_left (in_use t j) _ h) u (eqb-true _ _ (and_right (in_use t j) _ h)))

  pub moved_new : (i : ℕ) (field : ℕ → ℕ) → in_use t i ≡ true → moved t (new_number t i) field ≡ field i
  moved_new i field u = moved_step_lem t (new_number t i) field (new_below i u) ∙ ap field (old_new i u)

  pub new_place_lem : (i : ℕ) → in_use t i ≡ true → new_number t i < places
  new_place_lem i u = let l = new_below i u in omega (arith, used_most t, w.most)

-- the fields of the squeezed table
module _ (t : Table) (c : ℕ) (q : List ℕ) where
  pub squeezed_shape : length q ≡ quota_numbers → Shape (squeezed t c q)
  unfolding squeezed
  squeezed_shape size =
      record {
        used = length_tabulate places _;
        kinds = length_tabulate places _;
        contents = length_tabulate places _;
        own = length_tabulate places _;
        targets = length_tabulate (exit_places places) _;
        bits = length_tabulate (exit_places places) _;
        counts = length_tabulate (places * counters) _;
        cabins = length_tabulate places _;
        quotas = size;
      }

  pub squeezed_kind : (k : ℕ) → k < places → kind_of (squeezed t c q) k ≡ moved t k (kind_of t)
  unfolding kind_of squeezed
  squeezed_kind k l = get_or_tabulate places _ 0 k l

  pub squeezed_content : (k : ℕ) → k < places → content_of (squeezed t c q) k ≡ moved t k (content_of t)
  unfolding content_of squeezed
  squeezed_content k l = get_or_tabulate places _ 0 k l

  pub squeezed_own : (k : ℕ) → k < places → own_bit (squeezed t c q) k ≡ moved t k (own_bit t)
  unfolding own_bit squeezed
  squeezed_own k l = get_or_tabulate places _ 0 k l

  pub squeezed_cabin : (k : ℕ) → k < places → cabin_of (squeezed t c q) k ≡ moved t k (cabin_of t)
  unfolding cabin_of squeezed
  squeezed_cabin k l = get_or_tabulate places _ 0 k l

  pub squeezed_target : (k e : ℕ) → k < places → e < exits_of k → target_of (squeezed t c q) k e ≡ moved t k (λ i. new_number t (target_of t i e))
  unfolding target_of squeezed
  squeezed_target k e l h = tabulate_exits places (λ k e. moved t k (λ i. new_number t (target_of t i e))) k e l h

  pub squeezed_bit : (k e : ℕ) → k < places → e < exits_of k → link_bit (squeezed t c q) k e ≡ moved t k (λ i. link_bit t i e)
  unfolding link_bit squeezed
  squeezed_bit k e l h = tabulate_exits places (λ k e. moved t k (λ i. link_bit t i e)) k e l h

  pub squeezed_counter : (k b : ℕ) → k < places → b < counters → counter_of (squeezed t c q) k b ≡ moved t k (λ i. counter_of t i b)
  unfolding counter_of counter_place squeezed
  squeezed_counter k b l h = tabulate_blocks places counters (λ k b. moved t k (λ i. counter_of t i b)) k b l h

  pub squeezed_entry : (k : ℕ) → k < places → get_or (squeezed t c q).used k 0 ≡ moved t k (λ i. 1)
  unfolding squeezed
  squeezed_entry k l = get_or_tabulate places _ 0 k l

  pub squeezed_used : steps_in_use t ≤ places → (k : ℕ) → in_use (squeezed t c q) k ≡ ltb k (steps_in_use t)
  unfolding in_use moved
  squeezed_used most k =
      ⊎_elim
      (λ (g : places ≤ k).
      let z : get_or (squeezed t c q).used k 0 ≡ 0 = get_or-eq_default (squeezed t c q).used 0 {n = k} (rw squeezed_length g) in
      rw (z, le-ltb k (steps_in_use t) (omega arith)))
      (λ (l : k < places). ap (λ (n : ℕ). eqb n 1) (squeezed_entry k l) ∙ one_or_none (ltb k (steps_in_use t)))
      (le_or_lt places k)
    where
      squeezed_length : length (squeezed t c q).used ≡ places
      squeezed_length = unfold squeezed in length_tabulate places _

      one_or_none : (b : Bool) → eqb (cond b 1 0) 1 ≡ b
      one_or_none true = refl
      one_or_none false = refl

pub squeezed_renumbered : {t : Table} → Wired t → (c : ℕ) (q : List ℕ) → Renumbered t (squeezed t c q)
squeezed_renumbered {t} w c q =
    let place = new_place_lem w in
    record {
      used = squeezed_used t c q (let m = used_most t in omega (arith, w.most));
      kind = λ i u. squeezed_kind t c q _ (place i u) ∙ moved_new w i _ u;
      content = λ i u. squeezed_content t c q _ (place i u) ∙ moved_new w i _ u;
      target = λ i e u l. squeezed_target t c q _ e (place i u) (omega (arith, new_more t i)) ∙ moved_new w i _ u;
      own = λ i u. squeezed_own t c q _ (place i u) ∙ moved_new w i _ u;
      bit = λ i e u l. squeezed_bit t c q _ e (place i u) (omega (arith, new_more t i)) ∙ moved_new w i _ u;
      counter = λ i b u l. squeezed_counter t c q _ b (place i u) l ∙ moved_new w i _ u;
      cabin = λ i u. squeezed_cabin t c q _ (place i u) ∙ moved_new w i _ u;
    }
