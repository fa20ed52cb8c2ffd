-- `slips::take_back` meets its contract: each return is one of the cases of the definition. Assumes nothing.
use mathlib.Core.Path.{◌≡◌, sym, ◌∙◌, ap, subst}
use mathlib.Core.Bool.{Bool, true}
use mathlib.Core.List.{List, [], ◌∷◌}
use Prim.Native.Nat.{ℕ, ◌+◌, ◌-◌, ◌*◌, ◌≤◌}
use native.Mathlib.Omega.{arith}
use lib.ListN.{length, take, drop, length-drop}
use lib.Seq.{take_all}
use Rattle.finite.specs.Below.{count, same}
use Rattle.finite.proofs.Bools.{clash}
use Rattle.finite.proofs.Select.{same_true, same_lists}
use Rattle.table.specs.declared.Refusal.TheVariants.{SlipNotAccepted}
use Rattle.table.specs.Said.{Answer, Given}
use Rattle.table.specs.Table.{Table, with_links}
use Rattle.table.specs.Sound.{Sound}
use Rattle.table.specs.Answer.{Outcome, slip_not_accepted, first, second_of}
use Rattle.table.specs.Calls.{table_tests}
use Rattle.table.specs.Clear.{cleared, clear_refusal}
use Rattle.table.proofs.Calls.{number_not_zero, none_found, one_found, clear_fits, clear_sound}
use Rattle.table.proofs.Sound.{sound_test}
use Rattle.image.specs.Image.{Bytes, record_size, words, word_at, counted}
use Rattle.image.specs.Slip.{changed, pairs_below, slip, slip_step, slip_exit, slip_count, rebuilt, take_back_refusal, take_back_call}
use Rattle.image.proofs.Slips.{slip_length_lem, slip_count_lem, slip_low, slip_pairs, pairs_slip, head_bytes, length_pairs}
use Rattle.image.proofs.TakenBack.{Taken, again_made, taken_accepted, not_taken}
use Rattle.words.specs.Words.{words as wordCount, table_of, words_of, Becomes}
use Rattle.words.proofs.Laws.{words_table}
use Rattle.words.proofs.Refusals.{table_passed, table_stopped, refused_answer, passed_answer, refused_words, given_answer, given_words}
use Rattle.slips.specs.Framed.{framed, Framed}
use Rattle.pairs.specs.SoundPair.{SoundPair}
use Rattle.slips.proofs.Back.{after_capacity, framed_test, test_framed}
use Rattle.slips.proofs.take_back.Goals as goal

-- "18 for a slip not accepted"
refused : (w bs : List ℕ) → length w ≡ wordCount → Sound (table_of w) → (Taken (table_of w) bs → ⊥) →
    record {
      answer : Answer.Refused slip_not_accepted ≡ (take_back_call (table_of w) bs).answer;
      table : w ≡ words_of (take_back_call (table_of w) bs).table;
    }
unfolding take_back_call
refused w bs l s d =
    let q = sym (not_taken (table_of w) bs s d) in
    record { answer = refused_answer SlipNotAccepted q _ _; table = refused_words SlipNotAccepted q _ w l }

-- an accepted slip has its form
taken_framed : (t : Table) (bs : List ℕ) → Taken t bs → Framed bs
unfolding record_size
taken_framed t bs x =
    let u = rebuilt t bs in
    let n = slip_count_lem (slip_step bs) (slip_exit bs) u t in
    let l = slip_length_lem (slip_step bs) (slip_exit bs) u t in
    subst Framed x.same
    (record {
      size = l ∙ ap (λ (k : ℕ). 6 + 44 * k) (sym n);
      numbers = λ k h. let a = slip_low (slip_step bs) (slip_exit bs) u t k h in let m = x.sound.formed.most in omega arith;
    })

-- what is known past the first two tests: the table is sound, and the bytes have the form of a slip
record Lent (w bs : List ℕ) : Type 0 where
  size : length w ≡ wordCount
  sound : Sound (table_of w)
  form : Framed bs

lent : {w bs : List ℕ} {b : Bool} → length w ≡ wordCount → 0 ≡ first (table_tests (table_of w)) → b ≡ framed bs → b ≡ true → Lent w bs
lent l e f h = record { size = l; sound = table_passed _ (sym e); form = test_framed _ (sym f ∙ h) }

least : {w bs : List ℕ} → Lent w bs → 6 ≤ length bs
unfolding record_size
least d = let n = d.form.size in omega arith

-- the table beside the lent one is the rebuilt one, and the two numbers are those that the slip names
record Built (w bs : List ℕ) (v : Table) (i e : ℕ) : Type 0 where
  table : v ≡ rebuilt (table_of w) bs
  step : i ≡ slip_step bs
  exit : e ≡ slip_exit bs

built : {w bs : List ℕ} {v : Table} {i e : ℕ} → v ≡ rebuilt (table_of w) bs → i ≡ word_at bs 0 → e ≡ word_at bs 2 → Built w bs v i e
unfolding slip_step slip_exit
built q i e = record { table = q; step = i; exit = e }

-- a table, a step and an exit for others that are the same
moved : (P : Table → ℕ → ℕ → Type 0) {v w : Table} {i j e f : ℕ} → v ≡ w → i ≡ j → e ≡ f → P v i e → P w j f
moved P {v} {w} {i} {j} {e} {f} q r z p = subst (P w j) z (subst (λ (k : ℕ). P w k e) r (subst (λ (x : Table). P x i e) q p))

rebuilt_capacity : (t : Table) → Sound t → (bs : List ℕ) → (rebuilt t bs).capacity ≡ t.capacity
unfolding rebuilt counted with_links
rebuilt_capacity t s bs = after_capacity t s bs (slip_count bs)

module _ {w bs : List ℕ} {v : Table} {i e : ℕ} (d : Lent w bs) (b : Built w bs v i e) where
  abbrev t : Table
  t = table_of w

  abbrev u : Table
  u = rebuilt t bs

  -- an accepted slip names an exit that can be cleared
  taken_fits : Taken t bs → clear_refusal v i e ≡ 0
  taken_fits x = moved (λ v i e. clear_refusal v i e ≡ 0) (sym b.table) (sym b.step) (sym b.exit) x.fits

  -- .. and says how many steps changed
  taken_count : {n m : ℕ} → n ≡ count v.capacity (changed v t) → m ≡ word_at bs 4 → Taken t bs → n ≡ m
  unfolding slip_count
  taken_count n m x =
      (rw b.table at n) ∙ sym (slip_count_lem (slip_step bs) (slip_exit bs) u t) ∙ ap slip_count x.same ∙ sym m

  -- the bytes behind the three numbers
  behind : take (length bs - 6) (drop 6 bs) ≡ drop 6 bs
  behind = take_all (length bs - 6) (drop 6 bs) (let l = length-drop 6 bs in omega arith)

  -- what is found there
  found : {r : Bool} → r ≡ same (pairs_below v t v.capacity) (take (length bs - 6) (drop 6 bs)) → r ≡ same (pairs_below u t u.capacity) (drop 6 bs)
  found h = (rw b.table at h) ∙ ap (same (pairs_below u t u.capacity)) behind

  taken_pairs : {r : Bool} → r ≡ same (pairs_below v t v.capacity) (take (length bs - 6) (drop 6 bs)) → Taken t bs → r ≡ true
  taken_pairs h x = found h ∙ same_lists (slip_pairs (slip_step bs) (slip_exit bs) u t bs x.same)

  -- where clearing there is not refused
  module _ (z : clear_refusal v i e ≡ 0) where
    fits : clear_refusal u (slip_step bs) (slip_exit bs) ≡ 0
    fits = moved (λ v i e. clear_refusal v i e ≡ 0) b.table b.step b.exit z

    pair : SoundPair v t
    pair =
        rw b.table (sound_test _ (clear_sound _ _ _ fits), sound_test _ d.sound, sym (rebuilt_capacity t d.sound bs))

    -- and where the number of changed steps is that of the slip
    module _ {n m : ℕ} (h : n ≡ count v.capacity (changed v t)) (k : m ≡ word_at bs 4) (q : n ≡ m) where
      number : slip_count bs ≡ count u.capacity (changed u t)
      unfolding slip_count
      number = sym k ∙ sym q ∙ (rw b.table at h)

      -- the bytes behind the three numbers are as long as the pairs
      pairs_long : length (take (length bs - 6) (drop 6 bs)) ≡ length (pairs_below v t v.capacity)
      unfolding record_size
      pairs_long =
          ap length behind ∙ length-drop 6 bs
          ∙ long (length bs) d.form.size
          ∙ sym (length_pairs u t u.capacity ∙ ap (λ (k : ℕ). 44 * k) (sym number))
          ∙ sym (ap (λ (x : Table). length (pairs_below x t x.capacity)) b.table)
        where
          long : (n : ℕ) → n ≡ 6 + 44 * slip_count bs → n - 6 ≡ 44 * slip_count bs
          long n e = omega arith

      -- the slip is that of the two tables
      this_slip : {r : Bool} → Bytes bs → r ≡ same (pairs_below v t v.capacity) (take (length bs - 6) (drop 6 bs)) → r ≡ true →
          slip (slip_step bs) (slip_exit bs) u t ≡ bs
      this_slip y f x =
          pairs_slip (slip_step bs) (slip_exit bs) u t bs
          (head_bytes bs y (least d) ∙ ap (λ (k : ℕ). words (slip_step bs ∷ slip_exit bs ∷ k ∷ [])) number)
          (same_true _ _ (sym (found f) ∙ x))

  -- the clearing there
  worked : {a : Answer} {x y : ℕ} {w₁ w₂ : List ℕ} → x ≡ i → y ≡ e → length w₁ ≡ length w → a ≡ (cleared v x y).answer → Becomes w₁ w₂ (cleared v x y).table →
      (a ≡ (cleared u (slip_step bs) (slip_exit bs)).answer) × (table_of w₂ ≡ (cleared u (slip_step bs) (slip_exit bs)).table) × (length w₂ ≡ wordCount)
  worked {a = a} {w₂ = w₂} x y l p q = (
    moved (λ v k f. a ≡ (cleared v k f).answer) b.table (x ∙ b.step) (y ∙ b.exit) p,
    moved (λ v k f. table_of w₂ ≡ (cleared v k f).table) b.table (x ∙ b.step) (y ∙ b.exit) q.table,
    q.size ∙ l ∙ d.size,
  )

pub returns-in_err-check_table : goal.returns-in_err-check_table
unfolding take_back_call take_back_refusal
returns-in_err-check_table c =
    let e = c.in_err-check_table.ensures in
    let q = e ∙ table_stopped _ _ (λ z. number_not_zero _ (e ∙ z)) in
    record {
      answer = passed_answer _ q _ c.from_residual.result c.from_residual.ensures.1 _;
      table = refused_words _ q _ _ c.told-t;
    }

pub returns-then-not-is_framed : goal.returns-then-not-is_framed
returns-then-not-is_framed c =
    refused c.args.t.now c.args.bytes.now c.told-t (table_passed _ (sym c.in_ok-check_table.ensures))
    (λ x. clash (c.is_framed.ensures.framed ∙ framed_test _ (taken_framed _ _ x)) c.if-not-is_framed.true)

pub word_at-step-requires : goal.word_at-step-requires
word_at-step-requires c =
    let d = lent c.told-t c.in_ok-check_table.ensures c.is_framed.ensures.framed c.if-not-is_framed.false in
    let l = least d in
    omega arith

pub word_at-exit-requires : goal.word_at-exit-requires
word_at-exit-requires c =
    let d = lent c.told-t c.in_ok-check_table.ensures c.is_framed.ensures.framed c.if-not-is_framed.false in
    let l = least d in
    omega arith

pub put_back-requires : goal.put_back-requires
put_back-requires c =
    let d = lent c.told-t c.in_ok-check_table.ensures c.is_framed.ensures.framed c.if-not-is_framed.false in
    (sound_test _ d.sound, d.form)

pub returns-then-is_err : goal.returns-then-is_err
returns-then-is_err c =
    let d = lent c.told-t c.in_ok-check_table.ensures c.is_framed.ensures.framed c.if-not-is_framed.false in
    let b = built c.put_back.ensures.table c.word_at-step.ensures c.word_at-exit.ensures in
    refused c.args.t.now c.args.bytes.now d.size d.sound (λ x. one_found _ (sym c.is_err.ensures.value ∙ c.if-is_err.true) (c.check_clear.ensures ∙ taken_fits d b x))

pub invariant_of-tables : goal.invariant_of-tables
invariant_of-tables c =
    let d = lent c.told-t c.in_ok-check_table.ensures c.is_framed.ensures.framed c.if-not-is_framed.false in
    let b = built c.put_back.ensures.table c.word_at-step.ensures c.word_at-exit.ensures in
    record { sound = pair d b (sym c.check_clear.ensures ∙ none_found _ (sym c.is_err.ensures.value ∙ c.if-is_err.false)) }

pub word_at-requires : goal.word_at-requires
word_at-requires c =
    let d = lent c.told-t c.in_ok-check_table.ensures c.is_framed.ensures.framed c.if-not-is_framed.false in
    let l = least d in
    omega arith

pub returns-then-count_changed-word_at : goal.returns-then-count_changed-word_at
returns-then-count_changed-word_at c =
    let d = lent c.told-t c.in_ok-check_table.ensures c.is_framed.ensures.framed c.if-not-is_framed.false in
    let b = built c.put_back.ensures.table c.word_at-step.ensures c.word_at-exit.ensures in
    refused c.args.t.now c.args.bytes.now d.size d.sound (λ x. c.if-count_changed-word_at.true (taken_count d b c.count_changed.ensures c.word_at.ensures x))

pub slice_bounds-has_pairs-count : goal.slice_bounds-has_pairs-count
slice_bounds-has_pairs-count c =
    let d = lent c.told-t c.in_ok-check_table.ensures c.is_framed.ensures.framed c.if-not-is_framed.false in
    let l = least d in
    omega arith

pub slice_bounds-has_pairs-start : goal.slice_bounds-has_pairs-start
slice_bounds-has_pairs-start c =
    let d = lent c.told-t c.in_ok-check_table.ensures c.is_framed.ensures.framed c.if-not-is_framed.false in
    let l = least d in
    omega arith

pub has_pairs-requires : goal.has_pairs-requires
has_pairs-requires c =
    let d = lent c.told-t c.in_ok-check_table.ensures c.is_framed.ensures.framed c.if-not-is_framed.false in
    let b = built c.put_back.ensures.table c.word_at-step.ensures c.word_at-exit.ensures in
    let z = sym c.check_clear.ensures ∙ none_found _ (sym c.is_err.ensures.value ∙ c.if-is_err.false) in
    pairs_long d b z c.count_changed.ensures c.word_at.ensures c.if-count_changed-word_at.false

pub returns-then-not-has_pairs : goal.returns-then-not-has_pairs
returns-then-not-has_pairs c =
    let d = lent c.told-t c.in_ok-check_table.ensures c.is_framed.ensures.framed c.if-not-is_framed.false in
    let b = built c.put_back.ensures.table c.word_at-step.ensures c.word_at-exit.ensures in
    refused c.args.t.now c.args.bytes.now d.size d.sound (λ x. clash (taken_pairs d b c.has_pairs.ensures x) c.if-not-has_pairs.true)

pub clear_exit-freed-requires : goal.clear_exit-freed-requires
clear_exit-freed-requires c =
    let z = sym c.check_clear.ensures ∙ none_found _ (sym c.is_err.ensures.value ∙ c.if-is_err.false) in
    rw (c.from.ensures, c.from-2.ensures) (clear_sound _ _ _ z, clear_fits _ _ _ z)

pub returns-then-not-same_words : goal.returns-then-not-same_words
returns-then-not-same_words c =
    let d = lent c.told-t c.in_ok-check_table.ensures c.is_framed.ensures.framed c.if-not-is_framed.false in
    let b = built c.put_back.ensures.table c.word_at-step.ensures c.word_at-exit.ensures in
    let w = worked d b c.from.ensures c.from-2.ensures c.put_back.ensures.size c.clear_exit-freed.ensures.answer c.clear_exit-freed.ensures.table in
    refused c.args.t.now c.args.bytes.now d.size d.sound
    (λ x. clash
    (c.same_words.ensures ∙ same_lists (sym (words_table _ w.2) ∙ ap words_of (w.1 ∙ x.table) ∙ words_table c.args.t.now d.size))
    c.if-not-same_words.true)

pub put_back-requires-2 : goal.put_back-requires-2
put_back-requires-2 c =
    let d = lent c.told-t c.in_ok-check_table.ensures c.is_framed.ensures.framed c.if-not-is_framed.false in
    (sound_test _ d.sound, d.form)

pub returns : goal.returns
unfolding take_back_call second_of
returns c =
    let t = table_of c.args.t.now in
    let bs = c.args.bytes.now in
    let d = lent c.told-t c.in_ok-check_table.ensures c.is_framed.ensures.framed c.if-not-is_framed.false in
    let b = built c.put_back.ensures.table c.word_at-step.ensures c.word_at-exit.ensures in
    let z = sym c.check_clear.ensures ∙ none_found _ (sym c.is_err.ensures.value ∙ c.if-is_err.false) in
    let w = worked d b c.from.ensures c.from-2.ensures c.put_back.ensures.size c.clear_exit-freed.ensures.answer c.clear_exit-freed.ensures.table in
    let x : Taken t bs = record {
      sound = clear_sound _ _ _ (fits d b z);
      fits = fits d b z;
      table = sym w.1 ∙ ap table_of (same_true _ _ (sym c.same_words.ensures ∙ c.if-not-same_words.false));
      same =
          this_slip d b z c.count_changed.ensures c.word_at.ensures c.if-count_changed-word_at.false c.is_framed.ensures.bytes c.has_pairs.ensures
          c.if-not-has_pairs.false;
    } in
    let q = sym (taken_accepted t bs d.sound x) in
    let a = ap (λ (r : Answer). Given (second_of r) 0) (w.0 ∙ sym (ap (λ (o : Outcome). o.answer) (again_made t bs x.fits))) in
    record {
      answer = given_answer q _ _ _ a;
      table = given_words q _ _ _ d.size c.put_back-2.ensures;
    }
