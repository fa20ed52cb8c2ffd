-- Who can be rung, on a sound table; when the call is refused; what it says after a squeeze (document 02, W2), and what the
-- demand on it comes to. Assumes nothing.
use mathlib.Core.Path.{◌≡◌, refl, sym, ◌∙◌, ap, ap₂, subst}
use mathlib.Core.Bool.{true}
use mathlib.Core.Logic.{◌↔◌}
use mathlib.Core.List.{List, [], ◌∷◌}
use Prim.Native.Nat.{ℕ, ◌<◌, ◌≤◌}
use native.Mathlib.Omega.{arith}
use lib.ListN.{length, get_or, replicate, length-replicate, get_or-append}
use borrow.Author.Tests.{lt-ltb, le-ltb}
use Rattle.finite.specs.Below.{count}
use Rattle.finite.proofs.Below.{count_ext}
use Rattle.finite.proofs.Reach.{reach_below}
use Rattle.table.specs.Table.{Table}
use Rattle.table.specs.Sound.{Sound}
use Rattle.table.specs.Said.{Answer, Refused, Given}
use Rattle.table.specs.Answer.{WriteOutcome, first, refusal_of, first_of}
use Rattle.table.specs.Trial.{is_contact}
use Rattle.table.specs.Rung.{goes_on, rung_refusal, rung_call, Entering, SomeTrial, FewestResults, list_under}
use Rattle.table.specs.Squeeze.{new_number, squeeze_refusal, squeeze_call}
use Rattle.table.specs.Plan.{Plan, plan_of, plan_rung_refusal, plan_rung_call}
use Rattle.table.proofs.Squeeze.{squeeze_made, squeeze_fits}
use Rattle.table.proofs.Squeezed.{squeeze_rung}
use Rattle.table.proofs.Rung.{entered, numbers, entered_reached, entering_listed, listed_fewest, rung_made, rung_refusal_given, rung_accepted, rung_unsound as unsound-given, rung_fits, rung_refusal_lem, plan_rung}
use Rattle.history.specs.History.{rung, listed, said_by, Done, row, run, table_after}
use Rattle.history.specs.Acts.{Act, call, act_row, done_by, refused_by}
use Rattle.history.specs.Demands.{Demand1, Among, RungDemand, RungRefusalDemand}
use Rattle.history.proofs.Listing.{listed_among, listed as list-demand, listed_length, listed_only}

-- what is listed, some trial enters, and the other way round
entered_tried : {t : Table} → Sound t → (k : ℕ) → (entered t k ≡ true) ↔ SomeTrial t k
entered_tried {t} s k = (
  (λ y.
      let x = listed_fewest s k y in
      record { limit = x.limit; results = x.results; trace = replicate x.limit 0; enters = x.enters (replicate x.limit 0) (long_enough x.limit) }),
  λ x. entering_listed s x.enters,
)
  where
    long_enough : (n : ℕ) → n ≤ length {A = ℕ} (replicate n 0)
    long_enough n = let l : length {A = ℕ} (replicate n 0) ≡ n = length-replicate n 0 in omega arith

pub rung_demand : (t : Table) (buffer : List ℕ) → rung_refusal t (length buffer) ≡ 0 → RungDemand t buffer (rung_call t buffer)
unfolding table_after run row
rung_demand t buffer z =
    let x = rung_accepted t buffer z in
    let s = x.0 in
    let low : (k : ℕ) → entered t k ≡ true → k < t.capacity = λ k h. reach_below (goes_on t) t.capacity 0 k (entered_reached s k h) in
    let among = listed_among t.capacity (entered t) buffer low in
    rw (rung_made t buffer z)
    (record {
      untouched = refl;
      steps = length (numbers t buffer);
      contacts = _;
      answer = refl;
      just = λ k. ((λ y. (entered_tried s k).0 ((among k).0 y)), λ y. (among k).1 ((entered_tried s k).1 y));
      kinds = count_ext (length (numbers t buffer)) _ _ (λ m l. ap (is_contact t) (sym (get_or-append (numbers t buffer) _ 0 m l)));
      list = list-demand t.capacity (entered t) buffer s.formed.most (omega (arith, rung_fits t s, x.1));
    })

pub rung_refusals : (t : Table) (buffer : List ℕ) → RungRefusalDemand t buffer (rung_call t buffer)
unfolding plan_rung_refusal first
rung_refusals t buffer =
    let given = rung_refusal_given t buffer in
    record {
      unsound = λ d. given ∙ unsound-given t buffer d;
      short = λ s l. given ∙ rung_refusal_lem s buffer ∙ rw (lt-ltb (length buffer) 127 l);
      room = λ s l. given ∙ rung_refusal_lem s buffer ∙ rw (le-ltb (length buffer) 127 l);
    }

-- what is asked of an accepted call settles its answer and every byte
pub rung_only : {t : Table} {buffer : List ℕ} {o p : WriteOutcome} → RungDemand t buffer o → RungDemand t buffer p → o ≡ p
rung_only {t} {buffer} {o} {p} x y =
    let same : (k : ℕ) → Among x.steps o.buffer k ↔ Among y.steps p.buffer k =
    λ k. ((λ z. (y.just k).1 ((x.just k).0 z)), λ z. (x.just k).1 ((y.just k).0 z)) in
    let steps = listed_length x.list y.list same in
    let bytes = listed_only x.list y.list same in
    let contacts : x.contacts ≡ y.contacts =
    x.kinds ∙ ap₂ (λ (n : ℕ) (l : List ℕ). count n (λ m. is_contact t (get_or l m 0))) steps bytes ∙ sym y.kinds in
    let answers = x.answer ∙ ap₂ Given steps contacts ∙ sym y.answer in
    λ d. record { answer = answers d; buffer = bytes d }

pub fewest_results : (t : Table) → Sound t → (k : ℕ) → SomeTrial t k → FewestResults t k
fewest_results t s k x = listed_fewest s k ((entered_tried s k).1 x)

-- what is heard of an accepted call
pub rung_heard : (t : Table) (buffer : List ℕ) (steps contacts : ℕ) (bytes : List ℕ) → rung_call t buffer ≡ record { answer = Given steps contacts; buffer = bytes } →
    (run t (rung buffer)).heard ≡ record { refusal = 0; said = listed steps contacts bytes }
unfolding run row said_by refusal_of
rung_heard t buffer steps contacts bytes made = rw made

refused_answer : (a : Answer) (n : ℕ) → refusal_of a ≡ n → (n ≡ 0 → ⊥) → a ≡ Refused n
unfolding refusal_of
refused_answer (Refused m) n q d = ap Refused q
refused_answer (Given a b) n q d = absurd (d (sym q))

-- What the claims come to, each in its full width.
module _ (claimed : (t : Table) (buffer : List ℕ) → rung_refusal t (length buffer) ≡ 0 → RungDemand t buffer (rung_call t buffer))
    (refusals : (t : Table) (buffer : List ℕ) → RungRefusalDemand t buffer (rung_call t buffer)) where
  -- a sound table and 127 bytes are all that is asked
  pub rung_room : (t : Table) (buffer : List ℕ) → Sound t → 127 ≤ length buffer → RungDemand t buffer (rung_call t buffer)
  rung_room t buffer s l = claimed t buffer (sym (rung_refusal_given t buffer) ∙ (refusals t buffer).room s l)

  -- else nothing is written
  module _ (kept : (t : Table) (a : Act) → Demand1 t a) (t : Table) (buffer : List ℕ) where
    refused : (n : ℕ) → refusal_of (rung_call t buffer).answer ≡ n → (n ≡ 0 → ⊥) → rung_call t buffer ≡ record { answer = Refused n; buffer = buffer }
    unfolding done_by refused_by act_row row
    refused n q d =
        let same = (kept t (call (rung buffer))).refused (λ z. d (sym q ∙ z)) in
        let bytes : (rung_call t buffer).buffer ≡ buffer = ap (λ (x : Done). x.lent) same in
        let answer = refused_answer (rung_call t buffer).answer n q d in
        λ i. record { answer = answer i; buffer = bytes i }

    pub rung_unsound : (Sound t → ⊥) → rung_call t buffer ≡ record { answer = Refused 1; buffer = buffer }
    rung_unsound d = refused 1 ((refusals t buffer).unsound d) (λ z. omega arith)

    pub rung_short : Sound t → length buffer < 127 → rung_call t buffer ≡ record { answer = Refused 11; buffer = buffer }
    rung_short s l = refused 11 ((refusals t buffer).short s l) (λ z. omega arith)

  module _ (t : Table) (buffer : List ℕ) (s : Sound t) (l : 127 ≤ length buffer) where
    abbrev after : Table
    after = table_after t (rung buffer ∷ [])

    abbrev Listed : ℕ → Type 0
    Listed k = Among (first_of (rung_call t buffer).answer) (rung_call t buffer).buffer k

    demanded : RungDemand t buffer (rung_call t buffer)
    demanded = rung_room t buffer s l

    steps_listed : first_of (rung_call t buffer).answer ≡ demanded.steps
    steps_listed = ap first_of demanded.answer ∙ (unfold first_of in refl)

    listed_tried : (k : ℕ) → Listed k ↔ SomeTrial after k
    listed_tried k =
        let n = steps_listed in
        let same = demanded.untouched in (
          (λ x. subst (λ (u : Table). SomeTrial u k) (sym same) ((demanded.just k).0 (subst (λ (m : ℕ). Among m (rung_call t buffer).buffer k) n x))),
          λ x. subst (λ (m : ℕ). Among m (rung_call t buffer).buffer k) (sym n) ((demanded.just k).1 (subst (λ (u : Table). SomeTrial u k) same x)),
        )

    -- a step that is not listed is entered by no trial made next
    pub rung_silent : (k : ℕ) → (Listed k → ⊥) → (limit : ℕ) (results trace : List ℕ) → Entering after limit results trace k → ⊥
    rung_silent k d limit results trace x = d ((listed_tried k).1 (record { limit = limit; results = results; trace = trace; enters = x }))

    -- one that is listed is entered by some trial made next, whatever its trace held, and by none with fewer results
    pub rung_next : ((t : Table) → Sound t → (k : ℕ) → SomeTrial t k → FewestResults t k) → (k : ℕ) → Listed k →
        (limit : ℕ) × (results : List ℕ) × (limit < 65536) × (length results < 128) ×
        ((trace : List ℕ) → limit ≤ length trace → Entering after limit results trace k) ×
        ((other : ℕ) (more trace : List ℕ) → Entering after other more trace k → length results ≤ length more)
    rung_next fewest k x =
        let sound : Sound after = subst Sound (sym demanded.untouched) s in
        let f = fewest after sound k ((listed_tried k).0 x) in
        (f.limit, f.results, f.most, omega (arith, f.few, sound.formed.most), f.enters, f.fewest)

pub rung_by_plan : (t u : Table) → Sound t → Sound u → plan_of t ≡ plan_of u → (buffer : List ℕ) → rung_call t buffer ≡ rung_call u buffer
rung_by_plan t u s v p buffer = sym (plan_rung s buffer) ∙ ap (λ (q : Plan). plan_rung_call q buffer) p ∙ plan_rung v buffer

pub squeezed_rung : (t : Table) → Sound t → (c : ℕ) (q : List ℕ) → squeeze_refusal t c q ≡ 0 → (buffer : List ℕ) →
    rung_call (squeeze_call t c q).table buffer ≡ list_under (new_number t) (rung_call t buffer)
squeezed_rung t s c q z buffer = rw (squeeze_made t c q z) (squeeze_rung s c q (squeeze_fits s c q z) buffer)
