-- What the table comes to as the outcome of the call: rules 2 to 4 from what each function says, rule 1, and the refusals; and what a
-- preview finds. Assumes nothing.
use mathlib.Core.Path.{◌≡◌, refl, sym, ◌∙◌, ap, ap₂, subst}
use mathlib.Core.Bool.{Bool, true, false, ◌&&◌, not, cond}
use mathlib.Core.Logic.{⊎_elim}
use mathlib.Core.List.{List, ◌++◌}
use Prim.Native.Nat.{ℕ, ◌-◌, ◌≤◌, ◌<◌}
use native.Mathlib.Omega.{arith}
use lib.ListN.{length, get_or, drop, get_or-eq_default}
use lib.Seq.{get_or-set_same}
use lib.Dec.{eqb, ltb}
use borrow.Author.Tests.{eq-eqb, ne_eqb, lt-ltb, le-ltb}
use Rattle.finite.specs.Below.{one, count, tabulate, those}
use Rattle.finite.specs.Reach.{marked, reach}
use Rattle.finite.proofs.Bools.{and_left, clash, refute, not_true_false, not_false_true}
use Rattle.finite.proofs.Below.{le_or_lt, length_tabulate, get_or_tabulate, count_pos, rounds_keep}
use Rattle.finite.proofs.Select.{tabulate_entries}
use Rattle.finite.proofs.Those.{length_those, those_ext}
use Rattle.table.specs.Said.{Answer, Refused, Given}
use Rattle.table.specs.Table.{Table, places, counter_place, in_use, own_bit, target_of, link_bit, counter_of, strong, linked, strongly_linked, with_links}
use Rattle.table.specs.Sound.{Formed, Sound}
use Rattle.table.specs.Answer.{WriteOutcome, too_short, steps_room}
use Rattle.table.specs.Calls.{HoldFits, lowered, raised, relink}
use Rattle.table.specs.Clear.{Repair, emptied, held_strongly, stops, doubtful, repair, repair_of, unlinked, blanked, each_doubtful, release, size, repaired, cleared, clear_refusal}
use Rattle.table.specs.Clear
use Rattle.table.specs.Preview.{is_freed, would_go, preview_refusal, preview_call}
use Rattle.table.proofs.Links.{holds_target, bit_strong}
use Rattle.table.proofs.Relink.{counter_place_below}
use Rattle.table.proofs.Edits.{weak_bit_lem}
use Rattle.table.proofs.Preview.{preview_order, preview_made, preview_refused_as, go_length, go_fits, go_none, go_marked, doubtful_links}
use Rattle.words.specs.Words.{Becomes}
use Rattle.words.specs.Marks.{is_marked}
use Rattle.words.proofs.Formed.{target_place}
use Rattle.withdraw.specs.Withdraw.{Losing, candidate}
use Rattle.withdraw.proofs.Doubtful.{losing_formed}
use Rattle.repairing.specs.Repairing.{under_repair, as_marks, Repairable, Candidates, Settling}
use Rattle.repairing.proofs.Laws.{marks_at, size_marks}
use Rattle.repairing.proofs.Repairs.{wanted_in_lem, candidates_begin}
use Rattle.clearing.specs.Clearing.{Searched}

-- The marks that the search hands back are the definition's.
module _ (u : Table) where
  doubtful_used : (i : ℕ) → marked (doubtful u) i ≡ true → in_use u i ≡ true
  unfolding doubtful
  doubtful_used i h =
      let f : ℕ → Bool = λ i. in_use u i && not (marked (reach (strongly_linked u) u.capacity 0) i) in
      ⊎_elim
      (λ o. clash h (get_or-eq_default (tabulate u.capacity f) false {n = i} (rw (length_tabulate u.capacity f) o)))
      (λ l. and_left (in_use u i) _ (sym (get_or_tabulate u.capacity f false i l) ∙ h))
      (le_or_lt u.capacity i)

  abbrev found : List ℕ
  found = tabulate places (λ i. one (marked (doubtful u) i))

  found_at : (i : ℕ) → i < places → is_marked found i ≡ marked (doubtful u) i
  unfolding is_marked
  found_at i l =
      let z : get_or found i 0 ≡ one (marked (doubtful u) i) = get_or_tabulate places (λ i. one (marked (doubtful u) i)) 0 i l in
      rw z (back (marked (doubtful u) i))
    where
      back : (b : Bool) → eqb (one b) 1 ≡ b
      back true = refl
      back false = refl

  found_marks : u.capacity ≤ places → as_marks u.capacity found ≡ doubtful u
  unfolding as_marks
  found_marks m =
      tabulate_entries u.capacity (is_marked found) (doubtful u) false (unfold doubtful in length_tabulate u.capacity _)
      (λ i l. found_at i (omega arith))

  pub found_able : (n : ℕ) (doubt : List ℕ) → n ≡ u.capacity → doubt ≡ found → Formed u → Repairable u n doubt
  found_able n doubt q z f =
      let m = f.most in
      record {
        capacity = sym q;
        formed = f;
        doubted = λ i l h. doubtful_used i (sym (found_at i (omega arith)) ∙ subst (λ (d : List ℕ). is_marked d i ≡ true) z h);
      }

  -- and the first candidates too
  pub found_candidates : {doubt wanted : List ℕ} → Searched u doubt wanted → (n : ℕ) → n ≡ u.capacity → Candidates n (linked u) doubt wanted 0
  found_candidates {doubt} {wanted} x n q =
      let m = x.formed.most in
      candidates_begin n (linked u) doubt wanted (ap length x.first ∙ length_tabulate places _)
      (λ i l.
      ap (λ (w : List ℕ). get_or w i 0) x.first ∙ get_or_tabulate places (λ k. one (candidate u k)) 0 i (omega arith)
      ∙ ap (λ (d : List Bool). one (wanted' d i)) (sym (ap (as_marks u.capacity) x.doubts ∙ found_marks m))
      ∙ ap one (wanted_in_lem u doubt n (sym q) i l))
    where
      wanted' : List Bool → ℕ → Bool
      wanted' d i = Clear.wanted (record { table = u; doubt = d }) i

  pub found_marked : (doubt : List ℕ) → doubt ≡ found → (k : ℕ) → is_marked doubt k ≡ true → marked (doubtful u) k ≡ true
  unfolding is_marked
  found_marked doubt q k h =
      ⊎_elim
      (λ (l : places ≤ k).
      let none : get_or doubt k 0 ≡ 0 = get_or-eq_default doubt 0 {n = k} (rw (ap length q ∙ length_tabulate places (λ i. one (marked (doubtful u) i))) l) in
      clash h (rw none))
      (λ l. sym (found_at k l) ∙ subst (λ (d : List ℕ). is_marked d k ≡ true) q (unfold is_marked in h))
      (le_or_lt places k)

-- Where no step is marked, nothing is freed.
release_none : (v : Table) (d : List Bool) → size d v.capacity ≡ 0 → v ≡ release v d
unfolding release size
release_none v d z = sym (ap (each_doubtful d blanked) (each_none unlinked) ∙ each_none blanked)
  where
    unmarked : (k : ℕ) → k < v.capacity → marked d k ≡ false
    unmarked k l = refute (marked d k) (λ h. let p = count_pos v.capacity (marked d) k l h in omega arith)

    each_none : (f : Table → ℕ → Table) → each_doubtful d f v ≡ v
    each_none f =
        unfold each_doubtful in
        rounds_keep (λ (x : Table). x ≡ v) v.capacity (λ i x. cond (marked d i) (f x i) x) v (λ k l x p. rw (unmarked k l) p) refl

-- Rules 2 to 4, from what each function says: u is under repair and has become v, with the marks of `doubt` left.
pub record Mended (u v : Table) (n : ℕ) (doubt₀ wanted doubt : List ℕ) : Type 0 where
  pub searched : Searched u doubt₀ wanted
  pub size : n ≡ u.capacity
  pub same : under_repair v doubt ≡ repair n (under_repair u doubt₀)
  pub capacity : v.capacity ≡ n

module _ {u v : Table} {n : ℕ} {doubt₀ wanted doubt : List ℕ} (m : Mended u v n doubt₀ wanted doubt) where
  marks : as_marks u.capacity doubt₀ ≡ doubtful u
  marks = ap (as_marks u.capacity) m.searched.doubts ∙ found_marks u m.searched.formed.most

  over : under_repair v doubt ≡ repair_of u
  unfolding repair_of
  over = m.same ∙ ap₂ (λ (k : ℕ) (d : List Bool). repair k (record { table = u; doubt = d })) m.size marks

  left : as_marks n doubt ≡ (repair_of u).doubt
  left = ap (λ (k : ℕ). as_marks k doubt) (sym m.capacity) ∙ ap (λ (r : Repair). r.doubt) over

  pub repaired_answer : (doubts freed : ℕ) → doubts ≡ count n (is_marked doubt₀) → freed ≡ count n (is_marked doubt) →
      Given doubts freed ≡ (repaired u).answer
  unfolding repaired
  repaired_answer doubts freed x y =
      let z : doubts ≡ size (doubtful u) u.capacity =
      x ∙ sym (size_marks n doubt₀) ∙ ap (λ (k : ℕ). size (as_marks k doubt₀) k) m.size ∙ ap (λ (d : List Bool). size d u.capacity) marks in
      ap₂ Given z (y ∙ sym (size_marks n doubt) ∙ ap₂ size left m.size)

  pub repaired_table : release v (as_marks n doubt) ≡ (repaired u).table
  unfolding repaired
  repaired_table = ap₂ release (ap (λ (r : Repair). r.table) over) left

  -- where no mark is left, nothing is to be freed
  pub repaired_whole : count n (is_marked doubt) ≡ 0 → v ≡ (repaired u).table
  repaired_whole z = release_none v (as_marks n doubt) (ap (size (as_marks n doubt)) m.capacity ∙ size_marks n doubt ∙ z) ∙ repaired_table

same_size : (t : Table) (i e : ℕ) {n : ℕ} → n ≡ t.capacity → n ≡ (emptied t i e).capacity
same_size t i e q = q ∙ (unfold emptied relink with_links in refl)

-- Rule 1, on the table as it is: the exit is the last strong link to its target where the counter says less than 2.
module _ (t : Table) (s : Sound t) (i e : ℕ) (g : HoldFits t i e) where
  abbrev target : ℕ
  target = target_of t i e

  abbrev bit : ℕ
  bit = link_bit t i e

  lowered_counter : counter_of (emptied t i e) target bit ≡ counter_of t target bit - 1
  unfolding counter_of emptied relink with_links raised lowered
  lowered_counter =
      let f = s.formed in
      let low = counter_place_below target bit (f.bits i e g.used g.exit) (target_place f i e g.exit) in
      rw (ne_eqb target 0 (holds_target t i e g.filled)) (get_or-set_same t.counts (counter_place target bit) _ 0 (rw s.formed.shape.counts low))

  pub weak_stops : (bit ≡ own_bit t target → ⊥) → not (stops t i e) ≡ false
  unfolding stops
  weak_stops d = rw (weak_bit_lem t i e d)

  pub last_goes : bit ≡ own_bit t target → not (stops t i e) ≡ ltb (counter_of t target bit) 2
  unfolding stops held_strongly
  last_goes o =
      let x : strong t i e ≡ true = bit_strong t i e g.filled o in
      rw (x, own ∙ sym o, lowered_counter) (two (counter_of t target bit))
    where
      own : own_bit (emptied t i e) target ≡ own_bit t target
      own = unfold emptied relink with_links own_bit in refl

      two : (n : ℕ) → not (ltb 0 (n - 1)) ≡ ltb n 2
      two n =
          ⊎_elim
          (λ (l : 2 ≤ n). rw (lt-ltb 0 (n - 1) (omega arith), le-ltb n 2 l))
          (λ (l : n < 2). rw (le-ltb 0 (n - 1) (omega arith), lt-ltb n 2 l))
          (le_or_lt 2 n)

-- what its answer says
pub goes_losing : {t : Table} {i e : ℕ} {b : Bool} → Sound t → HoldFits t i e → b ≡ not (stops t i e) → b ≡ true → Losing t i e
goes_losing s g q h = record { sound = s; fits = g; goes = not_true_false _ (sym q ∙ h) }

pub goes_not : {answer stop : Bool} → answer ≡ not stop → answer ≡ false → stop ≡ true
goes_not q h = not_false_true _ (sym q ∙ h)

-- what a clearing comes to where rule 1 stops
pub stopped : {w v : List ℕ} (t : Table) (i e : ℕ) → stops t i e ≡ true → Becomes w v (relink t i e 0 0) →
    record { answer : Given 0 0 ≡ (cleared t i e).answer; table : Becomes w v (cleared t i e).table }
unfolding emptied
stopped t i e h b = record { answer = rw h refl; table = rw h b }

-- and where it goes on
pub went_on : {u : Table} (t : Table) (i e : ℕ) → u ≡ relink t i e 0 0 → stops t i e ≡ false → repaired u ≡ cleared t i e
unfolding emptied
went_on t i e q h = rw h (ap repaired q)

-- what is found before the exit is emptied
pub searched_before : {t : Table} {i e : ℕ} {doubt wanted : List ℕ} → Losing t i e → doubt ≡ found (emptied t i e) →
    wanted ≡ tabulate places (λ k. one (candidate (emptied t i e) k)) → Searched (emptied t i e) doubt wanted
searched_before {t} {i} {e} o d w = record { formed = losing_formed t i e o; doubts = d; first = w }

-- and u is the table then
pub searched : {u : Table} {t : Table} {i e : ℕ} {doubt wanted : List ℕ} → Losing t i e → u ≡ relink t i e 0 0 →
    doubt ≡ found (emptied t i e) → wanted ≡ tabulate places (λ k. one (candidate (emptied t i e) k)) → Searched u doubt wanted
unfolding emptied
searched {u} {t} {i} {e} {doubt} {wanted} o q d w =
    subst (λ (v : Table). Searched v doubt wanted) (sym q) (searched_before o d w)

-- A preview: the repair can be followed on the table as it is.
pub settles : {t : Table} {i e n : ℕ} {doubt wanted : List ℕ} → Losing t i e → Searched (emptied t i e) doubt wanted → n ≡ t.capacity →
    Settling t (emptied t i e) n doubt wanted
settles {t} {i} {e} {n} {doubt} {wanted} o x q =
    record {
      able = found_able (emptied t i e) n doubt (same_size t i e q) x.doubts x.formed;
      links = λ k j m. doubtful_links t o.sound i e o.fits o.goes k j (found_marked (emptied t i e) doubt x.doubts k m);
      candidates = found_candidates (emptied t i e) x n (same_size t i e q);
    }

-- The marks that are left are those of the repair, and the numbers of these steps are what would go.
pub record Foreseen (t : Table) (i e n : ℕ) (doubt wanted doubt' : List ℕ) : Type 0 where
  pub losing : Losing t i e
  pub searched : Searched (emptied t i e) doubt wanted
  pub size : n ≡ t.capacity
  pub left : as_marks n doubt' ≡ (repair n (under_repair (emptied t i e) doubt)).doubt

-- from what each function says
pub foreseen : {t : Table} {i e n : ℕ} {doubt wanted doubt' : List ℕ} → Losing t i e → Searched (emptied t i e) doubt wanted → n ≡ t.capacity →
    ((u : Table) → Settling t u n doubt wanted → as_marks n doubt' ≡ (repair n (under_repair u doubt)).doubt) → Foreseen t i e n doubt wanted doubt'
foreseen o x q kept = record { losing = o; searched = x; size = q; left = kept _ (settles o x q) }

module _ {t : Table} {i e n : ℕ} {doubt wanted doubt' : List ℕ} (f : Foreseen t i e n doubt wanted doubt') where
  abbrev after : Table
  after = emptied t i e

  s : Sound t
  s = f.losing.sound

  g : HoldFits t i e
  g = f.losing.fits

  size_after : n ≡ after.capacity
  size_after = same_size t i e f.size

  first_marks : as_marks after.capacity doubt ≡ doubtful after
  first_marks = ap (as_marks after.capacity) f.searched.doubts ∙ found_marks after f.searched.formed.most

  left_marks : as_marks n doubt' ≡ (repair_of after).doubt
  unfolding repair_of
  left_marks = f.left ∙ ap₂ (λ (m : ℕ) (d : List Bool). (repair m (record { table = after; doubt = d })).doubt) size_after first_marks

  numbers : those n (is_marked doubt') ≡ would_go t i e
  unfolding would_go
  numbers =
      those_ext n _ (is_freed t (cleared t i e).table)
      (λ j l. sym (marks_at n doubt' j l) ∙ ap (λ (d : List Bool). marked d j) left_marks ∙ sym (go_marked t i e s g f.losing.goes j))
      ∙ ap (λ (m : ℕ). those m (is_freed t (cleared t i e).table)) f.size

  pub listed_fits : count n (is_marked doubt') ≤ steps_room
  listed_fits =
      let l = sym (length_those n (is_marked doubt')) ∙ ap length numbers ∙ go_length t i e s g in
      let fits = go_fits t i e s g in
      omega arith

  pub foreseen_answer : (doubts freed : ℕ) → doubts ≡ count n (is_marked doubt) → freed ≡ count n (is_marked doubt') →
      Given doubts freed ≡ (cleared t i e).answer
  unfolding repaired
  foreseen_answer doubts freed a b =
      rw f.losing.goes
      (ap₂ Given (a ∙ sym (size_marks n doubt) ∙ ap₂ Clear.size (ap (λ (m : ℕ). as_marks m doubt) size_after ∙ first_marks) size_after) (b ∙ sym (size_marks n doubt') ∙ ap₂ Clear.size left_marks size_after))

  pub foreseen_written : (buffer : List ℕ) → those n (is_marked doubt') ++ drop (count n (is_marked doubt')) buffer ≡ would_go t i e ++ drop (length (would_go t i e)) buffer
  foreseen_written buffer =
      ap (λ (m : ℕ). those n (is_marked doubt') ++ drop m buffer) (sym (length_those n (is_marked doubt')))
      ∙ ap (λ (ms : List ℕ). ms ++ drop (length ms) buffer) numbers

-- where rule 1 stops, nothing would go
pub foreseen_none : (t : Table) (i e : ℕ) → Sound t → HoldFits t i e → stops t i e ≡ true → (buffer : List ℕ) →
    record { answer : Given 0 0 ≡ (cleared t i e).answer; written : buffer ≡ would_go t i e ++ drop (length (would_go t i e)) buffer }
foreseen_none t i e s g h buffer =
    record { answer = rw h refl; written = ap (λ (ms : List ℕ). ms ++ drop (length ms) buffer) (sym (go_none t i e s g h)) }

-- The call that previews: refused as the clearing is, refused for the room, or made.
module _ (t : Table) (i e : ℕ) (buffer : List ℕ) where
  abbrev Previewed : Answer → List ℕ → Type 0
  Previewed answer out = record { answer : answer ≡ (preview_call t i e buffer).answer; written : out ≡ (preview_call t i e buffer).buffer }

  refused : (n : ℕ) → (n ≡ 0 → ⊥) → preview_refusal t i e (length buffer) ≡ n →
      Previewed (Refused n) buffer
  refused n d q =
      let r = preview_refused_as t i e buffer (λ z. d (sym q ∙ z)) in
      record { answer = ap Refused (sym q) ∙ sym (ap (λ (o : WriteOutcome). o.answer) r); written = sym (ap (λ (o : WriteOutcome). o.buffer) r) }

  pub not_previewed : (n : ℕ) → n ≡ clear_refusal t i e → (n ≡ 0 → ⊥) → Previewed (Refused n) buffer
  not_previewed n q d = refused n d (preview_order t i e buffer ∙ rw (sym q, ne_eqb n 0 d))

  pub no_room : clear_refusal t i e ≡ 0 → length buffer < steps_room → Previewed (Refused too_short) buffer
  no_room z l = refused too_short (λ q. omega arith) (preview_order t i e buffer ∙ rw (eq-eqb (clear_refusal t i e) 0 z, lt-ltb (length buffer) steps_room l))

  pub previewed : clear_refusal t i e ≡ 0 → steps_room ≤ length buffer → {answer : Answer} {out : List ℕ} → answer ≡ (cleared t i e).answer →
      out ≡ would_go t i e ++ drop (length (would_go t i e)) buffer → Previewed answer out
  previewed z l a b =
      let m = preview_made t i e buffer (preview_order t i e buffer ∙ rw (eq-eqb (clear_refusal t i e) 0 z, le-ltb (length buffer) steps_room l)) in
      record { answer = a ∙ sym (ap (λ (o : WriteOutcome). o.answer) m); written = b ∙ sym (ap (λ (o : WriteOutcome). o.buffer) m) }
