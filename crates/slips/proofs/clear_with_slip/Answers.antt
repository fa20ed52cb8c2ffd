-- `slips::clear_with_slip` meets its contract: the clearing's refusals, the room, then the slip. Assumes nothing.
use mathlib.Core.Path.{◌≡◌, sym, ◌∙◌, ap}
use mathlib.Core.List.{List, ◌++◌}
use Prim.Native.Nat.{ℕ}
use native.Mathlib.Omega.{arith}
use lib.ListN.{length, drop}
use Rattle.std.proofs.lemmas.Result.{err_from_is_err_and}
use Rattle.finite.specs.Below.{count}
use Rattle.table.specs.Said.{Refused}
use Rattle.table.specs.Table.{Table}
use Rattle.table.specs.Clear.{cleared, clear_refusal}
use Rattle.table.proofs.Calls.{number_not_zero, clear_fits, clear_sound}
use Rattle.table.proofs.Sound.{sound_test}
use Rattle.image.specs.Slip.{changed, slip, slip_size, slip_length, SlipOutcome, clear_slip_call}
use Rattle.image.proofs.TakenBack.{Led, cleared_led, slip_refused, slip_short, slip_fits, slip_made}
use Rattle.words.specs.Words.{words, table_of, words_of}
use Rattle.words.proofs.Laws.{words_table}
use Rattle.pairs.specs.SoundPair.{SoundPair}
use Rattle.slips.proofs.clear_with_slip.Goals as goal

-- a refusal leaves all as it was
unchanged : (w buffer : List ℕ) (i e : ℕ) {n : ℕ} → length w ≡ words →
    clear_slip_call (table_of w) i e buffer ≡ record { answer = Refused n; table = table_of w; buffer = buffer } →
    record {
      answer : Refused n ≡ (clear_slip_call (table_of w) i e buffer).answer;
      table : w ≡ words_of (clear_slip_call (table_of w) i e buffer).table;
      written : buffer ≡ (clear_slip_call (table_of w) i e buffer).buffer;
    }
unchanged w buffer i e l h =
    record {
      answer = sym (ap (λ (x : SlipOutcome). x.answer) h);
      table = sym (words_table w l) ∙ sym (ap (λ (x : SlipOutcome). words_of x.table) h);
      written = sym (ap (λ (x : SlipOutcome). x.buffer) h);
    }

pair : (t u : Table) → Led t u → SoundPair t u
pair t u d = (sound_test t d.from, sound_test u d.to, d.capacity)

-- past the clearing's refusals
module _ (t : Table) (i e : ℕ) (z : clear_refusal t i e ≡ 0) where
  led : {v : Table} → v ≡ (cleared t i e).table → SoundPair t v
  led q = rw q (pair t _ (cleared_led (clear_sound t i e z) i e z))

  -- the length of the slip
  long : {v : Table} {n k : ℕ} → v ≡ (cleared t i e).table → n ≡ count t.capacity (changed t v) → k ≡ slip_size n → k ≡ slip_length t i e
  unfolding slip_length
  long q m h = h ∙ ap slip_size (m ∙ ap (λ (u : Table). count t.capacity (changed t u)) q)

-- the slip of the clearing
written : (t v : Table) (i e n : ℕ) (buffer out : List ℕ) → v ≡ (cleared t i e).table → n ≡ count t.capacity (changed t v) →
    out ≡ slip i e t v ++ drop (slip_size n) buffer → out ≡ slip i e t (cleared t i e).table ++ drop (slip_length t i e) buffer
unfolding slip_length
written t v i e n buffer out q m h =
    h ∙ ap (λ (k : ℕ). slip i e t v ++ drop (slip_size k) buffer) m
    ∙ ap (λ (u : Table). slip i e t u ++ drop (slip_size (count t.capacity (changed t u))) buffer) q

pub returns-in_err-check_clear : goal.returns-in_err-check_clear
returns-in_err-check_clear c =
    let t = table_of c.args.t.now in
    let e = c.in_err-check_clear.ensures in
    let p = err_from_is_err_and c.from_residual.result c.from_residual.ensures.1 in
    rw (p.1, p.2)
    (unchanged c.args.t.now c.args.buffer.now c.args.step c.args.exit c.told-t
    (slip_refused t c.args.step c.args.exit c.args.buffer.now (λ z. number_not_zero _ (e ∙ z))
    ∙ ap (λ (n : ℕ). record { answer = Refused n; table = t; buffer = c.args.buffer.now }) (sym e)))

pub clear_exit-counts-requires : goal.clear_exit-counts-requires
clear_exit-counts-requires c =
    let t = table_of c.args.t.now in
    let z = sym c.in_ok-check_clear.ensures in
    (clear_sound t _ _ z, rw (c.from.ensures, c.from-2.ensures) (clear_fits t c.args.step c.args.exit z))

pub invariant_of-tables : goal.invariant_of-tables
invariant_of-tables c =
    let z = sym c.in_ok-check_clear.ensures in
    let b = c.clear_exit-counts.ensures.table.table in
    record { sound = led _ _ _ z (rw (c.from.ensures, c.from-2.ensures) at b) }

pub returns-then-buffer-slip_size : goal.returns-then-buffer-slip_size
returns-then-buffer-slip_size c =
    let t = table_of c.args.t.now in
    let z = sym c.in_ok-check_clear.ensures in
    let b = c.clear_exit-counts.ensures.table.table in
    let l = long _ _ _ z (rw (c.from.ensures, c.from-2.ensures) at b) c.count_changed-steps.ensures c.slip_size.ensures in
    unchanged c.args.t.now c.args.buffer.now c.args.step c.args.exit c.told-t
    (slip_short t c.args.step c.args.exit c.args.buffer.now z (omega (arith, c.if-buffer-slip_size.true, l)))

pub returns : goal.returns
returns c =
    let t = table_of c.args.t.now in
    let w = c.clear_exit-counts.new.t in
    let z = sym c.in_ok-check_clear.ensures in
    let a = c.clear_exit-counts.ensures.answer in
    let b = c.clear_exit-counts.ensures.table.table in
    let worked = rw (c.from.ensures, c.from-2.ensures) at b in
    let l = long _ _ _ z worked c.count_changed-steps.ensures c.slip_size.ensures in
    let made = slip_made t c.args.step c.args.exit c.args.buffer.now
    (slip_fits t c.args.step c.args.exit c.args.buffer.now z (omega (arith, c.if-buffer-slip_size.false, l))) in
    record {
      answer = (rw (c.from.ensures, c.from-2.ensures) at a) ∙ sym (ap (λ (o : SlipOutcome). o.answer) made);
      table =
          sym (words_table w (c.clear_exit-counts.ensures.table.size ∙ c.told-t))
          ∙ ap words_of worked ∙ sym (ap (λ (o : SlipOutcome). words_of o.table) made);
      written =
          written t (table_of w) _ _ _ _ _ worked c.count_changed-steps.ensures c.put_slip.ensures
          ∙ sym (ap (λ (o : SlipOutcome). o.buffer) made);
    }
