-- The plain plan of a table, read and redrawn: what a table says of its steps its plan says too, and each edit of a table is the plan's edit.
-- Assumes nothing.
--   plan_used plan_kind plan_target_lem plan_holds_lem plan_linked_lem plan_contact_lem plan_goes_on_lem plan_count_lem plan_charge_lem   the plan says what the table says
--   plan_fresh plan_relink plan_with_step plan_cleared        the plan after an edit
use mathlib.Core.Path.{◌≡◌, refl, sym, ◌∙◌, ap, ap₂, fun_ext}
use mathlib.Core.Bool.{Bool, true, false, ◌&&◌, ◌||◌, not, cond}
use mathlib.Core.Logic.{⊎_elim}
use mathlib.Core.List.{List}
use mathlib.Core.Option.{Option, none, some}
use Prim.Native.Nat.{ℕ, ◌≤◌, ◌<◌}
use native.Mathlib.Omega.{arith}
use lib.ListN.{set, replicate, length-replicate, get_or-eq_default}
use lib.Seq.{ext_get_or}
use lib.Dec.{eqb}
use borrow.Author.Tests.{eqb-true, eq-eqb}
use Rattle.finite.specs.Below.{tabulate}
use Rattle.finite.specs.Reach.{marked, reach, reaches}
use Rattle.finite.proofs.Bools.{clash, refute, test, same_test}
use Rattle.finite.proofs.Below.{le_or_lt, eq_or_ne, any_ext, count_ext, length_tabulate, get_or_tabulate, tabulate_ext, tabulate_set}
use Rattle.table.specs.Table.{Table, places, exits, exits_of, cabin_count, in_use, kind_of, content_of, cabin_of, target_of, holds, leads, linked, steps_in_use, with_links, with_steps}
use Rattle.table.specs.Cabins.{charged, charge}
use Rattle.table.specs.Sound.{Formed, content_fits}
use Rattle.table.specs.Calls.{fresh_table, relink, with_step}
use Rattle.table.specs.Trial.{answered, is_contact}
use Rattle.table.specs.Rung.{goes_by, goes_on}
use Rattle.table.specs.Plan.{Plan, PlanStep, plan_step, plan_of, step_of, is_step, step_kind, step_target, step_of_cabin, plan_in_use, plan_target, plan_holds, plan_linked, plan_contact, plan_goes_on, plan_count, plan_charge, fresh_plan, retargeted, replan, with_target, pruned}
use Rattle.table.proofs.Places.{own_exit}
use Rattle.table.proofs.Links.{Wired, formed_wired, used_below, holder_used, target_holds}
use Rattle.table.proofs.Relink.{relink_used, relink_kind, relink_content, relink_cabin, relink_target, relink_target_other}
use Rattle.table.proofs.Formed.{formed_place, formed_below}
use Rattle.table.proofs.Edits.{get_or_zeros, fresh_used, fresh_target, with_step_new, with_step_other, kind_new, kind_other, content_new, content_other, cabin_new, cabin_other}

-- what a plan keeps of a step, by its parts
abbrev entry : ℕ → Bool → ℕ → ℕ → (ℕ → ℕ) → ℕ → Option PlanStep
entry n u k c target cabin = cond u (some (record { kind = k; content = c; targets = tabulate n target; cabin = cabin })) none

plan_step_entry : (t : Table) (i : ℕ) → plan_step t i ≡ entry (exits_of i) (in_use t i) (kind_of t i) (content_of t i) (target_of t i) (cabin_of t i)
unfolding plan_step
plan_step_entry t i = refl

pub step_path : {k k' c c' b b' : ℕ} {l l' : List ℕ} → k ≡ k' → c ≡ c' → l ≡ l' → b ≡ b' →
    ◌≡◌ {A = PlanStep} (record { kind = k; content = c; targets = l; cabin = b }) (record { kind = k'; content = c'; targets = l'; cabin = b' })
step_path x y z w = λ i. record { kind = x i; content = y i; targets = z i; cabin = w i }

-- entries with the same parts are the same
entry_same : (n : ℕ) (u u' : Bool) (k k' c c' : ℕ) (f f' : ℕ → ℕ) (b b' : ℕ) → u ≡ u' → (u ≡ true → k ≡ k') → (u ≡ true → c ≡ c') →
    (u ≡ true → (e : ℕ) → e < n → f e ≡ f' e) → (u ≡ true → b ≡ b') → entry n u k c f b ≡ entry n u' k' c' f' b'
entry_same n true u' k k' c c' f f' b b' q x y g z =
    rw (sym q) (ap some (step_path (x refl) (y refl) (tabulate_ext n f f' (g refl)) (z refl)))
entry_same n false u' k k' c c' f f' b b' q x y g z = rw (sym q)

is_entry : (n : ℕ) (u : Bool) (k c : ℕ) (f : ℕ → ℕ) (b : ℕ) → is_step (entry n u k c f b) ≡ u
is_entry n true k c f b = refl
is_entry n false k c f b = refl

entry_target : (n : ℕ) (u : Bool) (k c : ℕ) (f : ℕ → ℕ) (b e : ℕ) → e < n → (u ≡ false → f e ≡ 0) → step_target (entry n u k c f b) e ≡ f e
entry_target n true k c f b e l z = get_or_tabulate n f 0 e l
entry_target n false k c f b e l z = sym (z refl)

-- a step that is not in use has no kind
entry_kind : (n : ℕ) (u : Bool) (k c : ℕ) (f : ℕ → ℕ) (b : ℕ) → (u ≡ false → k ≡ 0) → step_kind (entry n u k c f b) ≡ k
entry_kind n true k c f b z = refl
entry_kind n false k c f b z = sym (z refl)

-- a step charged to a cabin: the same said of a plan's entry
entry_cabin : (n : ℕ) (u m : Bool) (k c : ℕ) (f : ℕ → ℕ) (b d : ℕ) → (m && step_of_cabin d (entry n u k c f b)) ≡ (u && m && eqb b d)
entry_cabin n true true k c f b d = refl
entry_cabin n true false k c f b d = refl
entry_cabin n false true k c f b d = refl
entry_cabin n false false k c f b d = refl

pub plan_capacity : (t : Table) → (plan_of t).capacity ≡ t.capacity
unfolding plan_of
plan_capacity t = refl

module _ {t : Table} (w : Wired t) where
  -- beyond the capacity no step is in use, and the plan has none
  pub plan_step_lem : (i : ℕ) → step_of (plan_of t) i ≡ plan_step t i
  unfolding plan_of plan_step
  plan_step_lem i =
      ⊎_elim
      (λ o.
      let f : in_use t i ≡ false = refute _ (λ u. let l = used_below w i u in omega arith) in
      get_or-eq_default (tabulate t.capacity (plan_step t)) none {n = i} (rw (length_tabulate t.capacity (plan_step t)) o) ∙ rw f)
      (λ l. get_or_tabulate t.capacity (plan_step t) none i l)
      (le_or_lt t.capacity i)

  pub plan_used : (i : ℕ) → plan_in_use (plan_of t) i ≡ in_use t i
  unfolding plan_in_use
  plan_used i = ap is_step (plan_step_lem i ∙ plan_step_entry t i) ∙ is_entry (exits_of i) (in_use t i) _ _ _ _

  pub plan_kind : (i : ℕ) → step_kind (step_of (plan_of t) i) ≡ kind_of t i
  plan_kind i =
      ap step_kind (plan_step_lem i ∙ plan_step_entry t i)
      ∙ entry_kind (exits_of i) (in_use t i) _ _ _ _
      (λ f.
      ⊎_elim
      (λ (o : places ≤ i). unfold kind_of in get_or-eq_default t.kinds 0 {n = i} (rw w.shape.kinds o))
      (λ l. (w.free i l f).kind)
      (le_or_lt places i))

  pub plan_target_lem : (i e : ℕ) → e < exits_of i → plan_target (plan_of t) i e ≡ target_of t i e
  unfolding plan_target
  plan_target_lem i e l =
      ap (λ (s : Option PlanStep). step_target s e) (plan_step_lem i ∙ plan_step_entry t i)
      ∙ entry_target (exits_of i) (in_use t i) _ _ (target_of t i) _ e l
      (λ f. ⊎_elim (λ z. z) (λ d. clash (holder_used w i e l (target_holds t i e d)) f) (eq_or_ne (target_of t i e) 0))

  pub plan_holds_lem : (i e : ℕ) → e < exits_of i → plan_holds (plan_of t) i e ≡ holds t i e
  unfolding plan_holds holds
  plan_holds_lem i e l = rw (plan_target_lem i e l)

  pub plan_linked_lem : (i j : ℕ) → plan_linked (plan_of t) i j ≡ linked t i j
  unfolding plan_linked linked leads
  plan_linked_lem i j =
      any_ext (exits_of i) _ _ (λ e l. ap₂ (λ (h : Bool) (x : ℕ). h && eqb x j) (plan_holds_lem i e l) (plan_target_lem i e l))

  pub plan_contact_lem : plan_contact (plan_of t) ≡ is_contact t
  unfolding plan_contact is_contact
  plan_contact_lem = fun_ext (λ i. rw (plan_kind i))

  pub plan_goes_on_lem : plan_goes_on (plan_of t) ≡ goes_on t
  unfolding plan_goes_on goes_on goes_by leads
  plan_goes_on_lem =
      fun_ext
      (λ i.
      fun_ext
      (λ j.
      any_ext exits _ _
      (λ e l.
      let x = own_exit i e l in
      λ d. (plan_contact_lem d i || eqb e answered) && (plan_holds_lem i e x d && eqb (plan_target_lem i e x d) j))))

  pub plan_count_lem : plan_count (plan_of t) ≡ steps_in_use t
  unfolding plan_count plan_of steps_in_use
  plan_count_lem = count_ext t.capacity _ _ (λ i l. plan_used i)

  -- the charges that a plan says are the table's
  pub plan_charge_lem : plan_charge (plan_of t) ≡ charge t
  unfolding plan_charge charge charged plan_of
  plan_charge_lem =
      fun_ext
      (λ c.
      count_ext t.capacity _ _
      (λ i l.
      ap (λ (s : Option PlanStep). not (eqb i 0) && step_of_cabin c s) (plan_step_lem i ∙ plan_step_entry t i)
      ∙ entry_cabin (exits_of i) (in_use t i) (not (eqb i 0)) _ _ _ (cabin_of t i) c))

-- a plan is its four parts
pub plan_path : {p q : Plan} → p.capacity ≡ q.capacity → p.last ≡ q.last → p.steps ≡ q.steps → p.quotas ≡ q.quotas → p ≡ q
plan_path x y z w = λ i. record { capacity = x i; last = y i; steps = z i; quotas = w i }

zeros : (n : ℕ) → ◌≡◌ {A = List ℕ} (tabulate n (λ e. 0)) (replicate n 0)
zeros n =
    let none : ℕ → ℕ = λ e. 0 in
    ext_get_or 0 (tabulate n none) (replicate n 0) (length_tabulate n none ∙ sym (length-replicate n 0))
    (λ k l. get_or_tabulate n none 0 k (rw (length_tabulate n none) at l) ∙ sym (get_or_zeros n k))

fresh_steps : (c : ℕ) (q : List ℕ) (i : ℕ) →
    plan_step (fresh_table c q) i ≡ cond (eqb i 0) (some (record { kind = 0; content = 0; targets = replicate (exits_of i) 0; cabin = 0 })) none
fresh_steps c q i =
    plan_step_entry (fresh_table c q) i
    ∙ entry_same (exits_of i) (in_use (fresh_table c q) i) (eqb i 0) _ 0 _ 0 _ (λ e. 0) _ 0 used (λ u. zero_kind i (fresh_used c q i u)) (λ u. zero_content i (fresh_used c q i u))
    (λ u e l. fresh_target c q i e)
    (λ u. zero_cabin i (fresh_used c q i u))
    ∙ ap (λ (l : List ℕ). cond (eqb i 0) (some (record { kind = 0; content = 0; targets = l; cabin = 0 })) none) (zeros (exits_of i))
  where
    used : in_use (fresh_table c q) i ≡ eqb i 0
    used = same_test _ _ (λ u. eq-eqb i 0 (fresh_used c q i u)) (λ h. let z = eqb-true i 0 h in rw z (unfold fresh_table in_use in refl))

    zero_kind : (i : ℕ) → i ≡ 0 → kind_of (fresh_table c q) i ≡ 0
    zero_kind i z = rw z (unfold fresh_table kind_of in refl)

    zero_content : (i : ℕ) → i ≡ 0 → content_of (fresh_table c q) i ≡ 0
    zero_content i z = rw z (unfold fresh_table content_of in refl)

    zero_cabin : (i : ℕ) → i ≡ 0 → cabin_of (fresh_table c q) i ≡ 0
    zero_cabin i z = rw z (unfold fresh_table cabin_of in refl)

pub plan_fresh : (c : ℕ) (q : List ℕ) → plan_of (fresh_table c q) ≡ fresh_plan c q
unfolding plan_of fresh_plan
plan_fresh c q =
    plan_path (unfold fresh_table in refl) (unfold fresh_table in refl) (unfold fresh_table in tabulate_ext c _ _ (λ i l. fresh_steps c q i))
    (unfold fresh_table in refl)

-- one exit of a table is one target of its plan
module _ (t : Table) (g : Formed t) (i e j b : ℕ) (u : in_use t i ≡ true) (le : e < exits_of i) where
  relinked_step : (k : ℕ) → (k ≡ i → ⊥) → plan_step (relink t i e j b) k ≡ plan_step t k
  relinked_step k d =
      plan_step_entry (relink t i e j b) k
      ∙ entry_same (exits_of k) _ (in_use t k) _ (kind_of t k) _ (content_of t k) _ (target_of t k) _ (cabin_of t k) (relink_used t i e j b k)
      (λ x. relink_kind t i e j b k)
      (λ x. relink_content t i e j b k)
      (λ x f l. relink_target_other t g.shape i e j b (formed_place g i u) le k f l (λ q. d q.0))
      (λ x. relink_cabin t i e j b k)
      ∙ sym (plan_step_entry t k)

  relinked_here : plan_step (relink t i e j b) i ≡ retargeted e j (plan_step t i)
  relinked_here =
      plan_step_entry (relink t i e j b) i
      ∙ here (in_use (relink t i e j b) i) (relink_used t i e j b i ∙ u)
      ∙ sym (ap (retargeted e j) (plan_step_entry t i ∙ there (in_use t i) u))
    where
      there : (v : Bool) → v ≡ true →
          entry (exits_of i) v (kind_of t i) (content_of t i) (target_of t i) (cabin_of t i) ≡
          some (record { kind = kind_of t i; content = content_of t i; targets = tabulate (exits_of i) (target_of t i); cabin = cabin_of t i })
      there v q = rw q

      here : (v : Bool) → v ≡ true → entry (exits_of i) v (kind_of (relink t i e j b) i) (content_of (relink t i e j b) i) (target_of (relink t i e j b) i) (cabin_of (relink t i e j b) i) ≡
          some (record { kind = kind_of t i; content = content_of t i; targets = set (tabulate (exits_of i) (target_of t i)) e j; cabin = cabin_of t i })
      here v q =
          rw q
          (ap some
          (step_path (relink_kind t i e j b i) (relink_content t i e j b i)
          (tabulate_set (exits_of i) e (target_of (relink t i e j b) i) (target_of t i) j le
          (relink_target t g.shape i e j b (formed_place g i u) le)
          (λ f l d. relink_target_other t g.shape i e j b (formed_place g i u) le i f l (λ q. d q.1)))
          (relink_cabin t i e j b i)))

  pub plan_relink : plan_of (relink t i e j b) ≡ with_target (plan_of t) i e j
  unfolding with_target replan plan_of relink with_links
  plan_relink =
      plan_path refl refl (steps (formed_below g i u)) refl
    where
      steps : i < t.capacity → (plan_of (relink t i e j b)).steps ≡ set (plan_of t).steps i (retargeted e j (step_of (plan_of t) i))
      steps l =
          tabulate_set t.capacity i (plan_step (relink t i e j b)) (plan_step t) (retargeted e j (step_of (plan_of t) i)) l
          (relinked_here ∙ sym (ap (retargeted e j) (plan_step_lem (formed_wired g) i)))
          (λ k x d. relinked_step k d)

-- a free step taken into use is a step put into the plan
module _ (t : Table) (g : Formed t) (n kind content cabin : ℕ) (low : n < t.capacity) (nonzero : n ≡ 0 → ⊥)
    (free : in_use t n ≡ false) (fits : content_fits kind content ≡ true) (shared : cabin < cabin_count) where
  stepped_other : (k : ℕ) → (k ≡ n → ⊥) → plan_step (with_step t n kind content cabin) k ≡ plan_step t k
  stepped_other k d =
      plan_step_entry (with_step t n kind content cabin) k
      ∙ entry_same (exits_of k) _ (in_use t k) _ (kind_of t k) _ (content_of t k) _ (target_of t k) _ (cabin_of t k)
      (with_step_other t g n kind content cabin low nonzero free fits shared k d)
      (λ x. kind_other t g n kind content cabin low nonzero free fits shared k d)
      (λ x. content_other t g n kind content cabin low nonzero free fits shared k d)
      (λ x e l. target_same k e)
      (λ x. cabin_other t g n kind content cabin low nonzero free fits shared k d)
      ∙ sym (plan_step_entry t k)
    where
      target_same : (k e : ℕ) → target_of (with_step t n kind content cabin) k e ≡ target_of t k e
      target_same k e = unfold with_step with_steps target_of in refl

  stepped_here : plan_step (with_step t n kind content cabin) n ≡ some (record { kind = kind; content = content; targets = replicate (exits_of n) 0; cabin = cabin })
  stepped_here =
      plan_step_entry (with_step t n kind content cabin) n
      ∙ entry_same (exits_of n) _ true _ kind _ content _ (λ e. 0) _ cabin
      (with_step_new t g n kind content cabin low nonzero free fits shared)
      (λ x. kind_new t g n kind content cabin low nonzero free fits shared)
      (λ x. content_new t g n kind content cabin low nonzero free fits shared)
      (λ x e l. target_zero e l)
      (λ x. cabin_new t g n kind content cabin low nonzero free fits shared)
      ∙ ap (λ (l : List ℕ). some (record { kind = kind; content = content; targets = l; cabin = cabin })) (zeros (exits_of n))
    where
      target_zero : (e : ℕ) → e < exits_of n → target_of (with_step t n kind content cabin) n e ≡ 0
      target_zero e l = unfold with_step with_steps target_of in (g.free n (omega (arith, g.most)) free).targets e l

  pub plan_with_step : plan_of (with_step t n kind content cabin) ≡
      replan (plan_of t) n (set (plan_of t).steps n (some (record { kind = kind; content = content; targets = replicate (exits_of n) 0; cabin = cabin })))
  unfolding replan plan_of with_step with_steps
  plan_with_step =
      plan_path refl refl
      (tabulate_set t.capacity n (plan_step (with_step t n kind content cabin)) (plan_step t) _ low stepped_here (λ k x d. stepped_other k d))
      refl

-- v holds just the steps of u that links reach, as they were: its plan is u's plan pruned
pub plan_pruned : (u v : Table) → Wired u → v.capacity ≡ u.capacity → v.last ≡ u.last →
    ((k : ℕ) → in_use v k ≡ reaches (linked u) u.capacity 0 k) → ((k : ℕ) → in_use v k ≡ true → in_use u k ≡ true) →
    ((k : ℕ) → in_use v k ≡ true → kind_of v k ≡ kind_of u k) → ((k : ℕ) → in_use v k ≡ true → content_of v k ≡ content_of u k) →
    ((k e : ℕ) → e < exits_of k → in_use v k ≡ true → target_of v k e ≡ target_of u k e) → ((k : ℕ) → in_use v k ≡ true → cabin_of v k ≡ cabin_of u k) →
    v.quotas ≡ u.quotas → plan_of v ≡ pruned (plan_of u)
unfolding pruned replan plan_of reaches
plan_pruned u v w size last used still kind content target cabin quotas =
    plan_path size last
    (ap (λ (n : ℕ). tabulate n (plan_step v)) size
    ∙ tabulate_ext u.capacity _ _
    (λ k l.
    let m : marked (reach (plan_linked (plan_of u)) u.capacity 0) k ≡ in_use v k =
    ap (λ (E : ℕ → ℕ → Bool). marked (reach E u.capacity 0) k) (fun_ext (λ a. fun_ext (λ b. plan_linked_lem w a b))) ∙ sym (used k) in
    plan_step_entry v k
    ∙ ⊎_elim
    (λ (y : in_use v k ≡ true).
    rw (m, y)
    (sym
    (plan_step_lem w k
    ∙ plan_step_entry u k
    ∙ entry_same (exits_of k) (in_use u k) true (kind_of u k) (kind_of v k) (content_of u k) (content_of v k) (target_of u k) (target_of v k) (cabin_of u k) (cabin_of v k) (still k y)
    (λ x. sym (kind k y))
    (λ x. sym (content k y))
    (λ x e b. sym (target k e b y))
    (λ x. sym (cabin k y)))))
    (λ (y : in_use v k ≡ false). rw (m, y))
    (test (in_use v k))))
    quotas

-- tables that agree in what a plan keeps have one plan
pub plan_same : (u v : Table) → u.capacity ≡ v.capacity → u.last ≡ v.last → u.quotas ≡ v.quotas → ((i : ℕ) → in_use u i ≡ in_use v i) →
    ((i : ℕ) → in_use u i ≡ true → kind_of u i ≡ kind_of v i) → ((i : ℕ) → in_use u i ≡ true → content_of u i ≡ content_of v i) →
    ((i e : ℕ) → in_use u i ≡ true → e < exits_of i → target_of u i e ≡ target_of v i e) → ((i : ℕ) → in_use u i ≡ true → cabin_of u i ≡ cabin_of v i) →
    plan_of u ≡ plan_of v
unfolding plan_of
plan_same u v size last quotas used kind content target cabin =
    plan_path size last
    (ap (λ (n : ℕ). tabulate n (plan_step u)) size
    ∙ tabulate_ext v.capacity _ _
    (λ i l.
    plan_step_entry u i
    ∙ entry_same (exits_of i) _ _ _ _ _ _ _ _ _ _ (used i) (kind i) (content i) (λ y e b. target i e y b) (cabin i)
    ∙ sym (plan_step_entry v i)))
    quotas
