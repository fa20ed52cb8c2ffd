-- The examples of images and slips hold: each run is one test that computes. Assumes nothing.
--   samples_hold     every entry of the table passes
use mathlib.Core.Path.{◌≡◌, refl, sym, ◌∙◌, ap}
use mathlib.Core.Bool.{Bool, true}
use mathlib.Core.Logic.{⊎_elim}
use mathlib.Core.List.Memᴰ
use mathlib.Core.List.{List, [], ◌∷◌}
use native.Mathlib.Omega.{arith}
use Prim.Native.Nat.{ℕ}
use lib.ListN.{get_or}
use Rattle.finite.proofs.Bools.{and_intro}
use Rattle.table.specs.Sound.{Sound}
use Rattle.table.specs.Plan.{plan_step, plan_of}
use Rattle.table.specs.Answer.{refusal_of}
use Rattle.table.specs.Clear.{clear_refusal}
use Rattle.table.specs.Orders.{Exit, clear_all, freed_sum, SameExits, SameEnd, clear_second, SecondDemand}
use Rattle.table.proofs.Sound.{test_sound}
use Rattle.cases.specs.Cases.{table_left, walk, every_run, table_f4}
use Rattle.cases.proofs.Computes.{computes}
use Rattle.samples.specs.Samples.{image_f4, new_image_f4, p10, sorted, editions, image_twin, conversions, old_book, new_book, books, first_strong, second_strong, Twins, freed_slip, turned_slip, regrets, crossing, crossed, image_crossed, first_order, second_order, one_order, other_order, CrossedEnd, chaining, chained, holder_first, holder_last, HolderFreed, samples}

runs : Bool
unfolding computes freed_slip turned_slip regrets conversions old_book new_book books new_image_f4 editions sorted image_twin first_strong second_strong image_f4 p10 table_left crossing crossed image_crossed first_order second_order chaining chained holder_first holder_last
runs = true

-- one declaration for each run, since antt bounds the steps of one
p10_holds : walk table_f4 p10 ≡ true
unfolding runs
p10_holds = refl

sorted_holds : walk table_f4 sorted ≡ true
unfolding runs
sorted_holds = refl

editions_hold : walk table_f4 editions ≡ true
unfolding runs
editions_hold = refl

conversions_hold : walk table_f4 conversions ≡ true
unfolding runs
conversions_hold = refl

books_hold : walk table_f4 books ≡ true
unfolding runs
books_hold = refl

regrets_hold : walk table_f4 regrets ≡ true
unfolding runs
regrets_hold = refl

first_strong_holds : walk table_f4 first_strong ≡ true
unfolding runs
first_strong_holds = refl

second_strong_holds : walk table_f4 second_strong ≡ true
unfolding runs
second_strong_holds = refl

crossing_holds : walk table_f4 crossing ≡ true
unfolding runs
crossing_holds = refl

first_order_holds : walk crossed first_order ≡ true
unfolding runs
first_order_holds = refl

second_order_holds : walk crossed second_order ≡ true
unfolding runs
second_order_holds = refl

chaining_holds : walk table_f4 chaining ≡ true
unfolding runs
chaining_holds = refl

holder_first_holds : walk chained holder_first ≡ true
unfolding runs
holder_first_holds = refl

holder_last_holds : walk chained holder_last ≡ true
unfolding runs
holder_last_holds = refl

pub samples_hold : every_run samples ≡ true
unfolding every_run samples
samples_hold =
    and_intro p10_holds
    (and_intro sorted_holds
    (and_intro editions_hold
    (and_intro conversions_hold
    (and_intro books_hold
    (and_intro regrets_hold
    (and_intro first_strong_holds
    (and_intro second_strong_holds
    (and_intro crossing_holds
    (and_intro first_order_holds
    (and_intro second_order_holds
    (and_intro chaining_holds
    (and_intro holder_first_holds
    (and_intro holder_last_holds refl)))))))))))))

-- W1: one plan and other strengths, other images
pub twins : Twins (table_left table_f4 first_strong) (table_left table_f4 second_strong)
unfolding runs plan_step plan_of
twins = record { plan = refl; images = λ e. let x : ◌≡◌ {A = ℕ} 2 1 = ap (λ (bs : List ℕ). get_or bs 52 0) e in omega arith }

pub first_strong_sound : Sound (table_left table_f4 first_strong)
unfolding runs
first_strong_sound = test_sound (table_left table_f4 first_strong) refl

pub second_strong_sound : Sound (table_left table_f4 second_strong)
unfolding runs
second_strong_sound = test_sound (table_left table_f4 second_strong) refl

-- W14: the tables that are cleared are sound, and what is said of them
pub crossed_sound : Sound crossed
unfolding runs
crossed_sound = test_sound crossed refl

pub exits_differ : ◌≡◌ {A = Exit} (0, 1) (0, 2) → ⊥
exits_differ q = let x : ◌≡◌ {A = ℕ} 1 2 = ap (λ (e : Exit). e.1) q in omega arith

pub chained_sound : Sound chained
unfolding runs
chained_sound = test_sound chained refl

pub steps_differ : ◌≡◌ {A = Exit} (0, 0) (1, 0) → ⊥
steps_differ q = let x : ◌≡◌ {A = ℕ} 0 1 = ap (λ (e : Exit). e.0) q in omega arith

-- an exit twice in a list is there once
pub cleared_again_lem : SameExits one_order other_order
cleared_again_lem x = (
  (λ m. ⊎_elim (λ q. Memᴰ.tail (Memᴰ.head q)) (λ n. ⊎_elim Memᴰ.head (λ k. absurd (Memᴰ.not-nil k)) (Memᴰ.cases_cons n)) (Memᴰ.cases_cons m)),
  λ m. ⊎_elim (λ q. Memᴰ.tail (Memᴰ.head q)) (λ n. ⊎_elim Memᴰ.head (λ k. Memᴰ.tail k) (Memᴰ.cases_cons n)) (Memᴰ.cases_cons m),
)

pub orders : SameEnd crossed one_order other_order → Twins (table_left crossed first_order) (table_left crossed second_order)
unfolding runs clear_all
orders end = record { plan = end.plan; images = λ e. let x : ◌≡◌ {A = ℕ} 19 17 = ap (λ (bs : List ℕ). get_or bs 74 0) e in omega arith }

one_end : CrossedEnd (clear_all crossed one_order)
unfolding runs clear_all
one_end = record { used = refl; kind = refl; content = refl; cabin = refl; stays = refl; target = refl; rung = refl }

-- by each part of what both leave alike
pub other_end : SameEnd crossed one_order other_order → CrossedEnd (clear_all crossed other_order)
other_end end =
    let one = one_end in
    record {
      used = sym (end.used 3) ∙ one.used;
      kind = sym (end.kinds 3 one.used) ∙ one.kind;
      content = sym (end.contents 3 one.used) ∙ one.content;
      cabin = sym (end.cabins 3 one.used) ∙ one.cabin;
      stays = sym (end.used 2) ∙ one.stays;
      target = sym (end.targets 2 0 one.stays (omega arith)) ∙ one.target;
      rung = sym (end.trials 4 (1 ∷ 0 ∷ []) (7 ∷ 7 ∷ 7 ∷ 7 ∷ [])) ∙ one.rung;
    }

pub freed_first : freed_sum chained ((0, 0) ∷ (1, 0) ∷ []) ≡ 2
unfolding runs freed_sum
freed_first = refl

pub chained_clears : (clear_refusal chained 0 0 ≡ 0) × (clear_refusal chained 1 0 ≡ 0)
unfolding runs
chained_clears = (refl, refl)

-- in the one order the second is not accepted, so it gets 3, and is accepted in the other
pub holder_freed : SecondDemand chained (0, 0) (1, 0) → HolderFreed
holder_freed d = (⊎_elim (λ z. absurd (refused z)) (λ q. q) d.only, ⊎_elim (λ z. absurd (refused z)) (λ q. q) d.once)
  where
    gets_3 : refusal_of (clear_second chained (0, 0) (1, 0)).answer ≡ 3
    gets_3 = unfold runs in refl

    refused : refusal_of (clear_second chained (0, 0) (1, 0)).answer ≡ 0 → ⊥
    refused z = let x : ◌≡◌ {A = ℕ} 3 0 = sym gets_3 ∙ z in omega arith
