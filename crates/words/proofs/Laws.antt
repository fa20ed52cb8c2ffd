-- Words and tables: each other's inverse, and what a store into a word does to the table. Assumes nothing.
--   words_table table_words   there and back
--   shape_table     the lengths of the parts
--   erased_table erased_size   the words of a blank table
--   part_read       a word of a part
--   sizes lists      the parts of a table in memory: how long each is, and the lists of the table
--   store_*         a word that is stored into changes its part alone
--   run_*           words that are stored one behind the other, which `put_mid_sets` says of a part of a slice; `sets_whole`, where they are a whole list
use mathlib.Core.Path.{◌≡◌, refl, sym, ◌∙◌, ap, ap₂}
use mathlib.Core.Bool.{true, false}
use mathlib.Core.Logic.{⊎_elim}
use mathlib.Core.List.{List, [], ◌∷◌, ◌++◌, append_assoc, append-nil, map}
use Prim.Native.Nat.{ℕ, suc, ◌+◌, ◌*◌, ◌-◌, ◌≤◌, ◌<◌}
use native.Mathlib.Omega.{arith}
use lib.ListN.{length, get_or, set, take, drop, length-drop, drop_of_length-le}
use borrow.Rule.Slice.PartMut.{put_mid}
use lib.Seq.{sets, sets-eq, drop-drop, set_out, get_or-set_same, get_or-set_other, get_or-take, get_or-drop, drop-set-lt, drop-set-add, length-take-le, drop-cons}
use lib.Dec.{eqb}
use borrow.Author.Tests.{eq-eqb, ne_eqb}
use Rattle.table.specs.Table.{Table, places, exit_places, counters, quota_numbers, counter_place, with_links, with_steps, with_numbers}
use Rattle.table.specs.Sound.{Shape}
use Rattle.table.specs.Calls.{raised, lowered}
use Rattle.finite.proofs.Bools.{test}
use Rattle.finite.proofs.Below.{eq_or_ne, le_or_lt}
use Rattle.words.proofs.Cut.{cut, before, cut_store, cut_part, glued, glued_cut, cut_glued}
use Rattle.words.specs.Words.{words, used_from, kinds_from, contents_from, own_from, targets_from, bits_from, counts_from, cabins_from, quotas_from, part, table_of, words_of, blank_table, Becomes}

pub part_read : (w : List ℕ) (from n k : ℕ) → k < n → get_or (part from n w) k 0 ≡ get_or w (from + k) 0
part_read w from n k l = get_or-take n (drop from w) k 0 l ∙ get_or-drop from w k 0

pub part_size : (w : List ℕ) (from n : ℕ) → from + n ≤ length w → length (part from n w) ≡ n
part_size w from n l = length-take-le n (drop from w) (let d = length-drop from w in omega arith)

-- tables with the same fields are the same
pub same_fields_lem : (t u : Table) → t.capacity ≡ u.capacity → t.last ≡ u.last → t.used ≡ u.used → t.kinds ≡ u.kinds → t.contents ≡ u.contents →
    t.own ≡ u.own → t.targets ≡ u.targets → t.bits ≡ u.bits → t.counts ≡ u.counts → t.cabins ≡ u.cabins → t.quotas ≡ u.quotas → t ≡ u
same_fields_lem t u a b c d e f g h i j k =
    λ x.
    record {
      capacity = a x;
      last = b x;
      used = c x;
      kinds = d x;
      contents = e x;
      own = f x;
      targets = g x;
      bits = h x;
      counts = i x;
      cabins = j x;
      quotas = k x;
    }

-- The parts of a table in memory, behind its two numbers.
abbrev sizes : List ℕ
sizes = places ∷ places ∷ places ∷ places ∷ exit_places places ∷ exit_places places ∷ places * counters ∷ places ∷ quota_numbers ∷ []

abbrev by_parts : ℕ → ℕ → List (List ℕ) → Table
by_parts capacity last ps =
    record {
      capacity = capacity;
      last = last;
      used = get_or ps 0 [];
      kinds = get_or ps 1 [];
      contents = get_or ps 2 [];
      own = get_or ps 3 [];
      targets = get_or ps 4 [];
      bits = get_or ps 5 [];
      counts = get_or ps 6 [];
      cabins = get_or ps 7 [];
      quotas = get_or ps 8 [];
    }

abbrev lists : Table → List (List ℕ)
lists t = t.used ∷ t.kinds ∷ t.contents ∷ t.own ∷ t.targets ∷ t.bits ∷ t.counts ∷ t.cabins ∷ t.quotas ∷ []

cut_lists : (w : List ℕ) → cut sizes (drop 2 w) ≡ lists (table_of w)
unfolding table_of
cut_lists w =
    let at = cut_part sizes w 2 in
    ap₂ ◌∷◌ (at 0)
    (ap₂ ◌∷◌ (at 1)
    (ap₂ ◌∷◌ (at 2)
    (ap₂ ◌∷◌ (at 3) (ap₂ ◌∷◌ (at 4) (ap₂ ◌∷◌ (at 5) (ap₂ ◌∷◌ (at 6) (ap₂ ◌∷◌ (at 7) (ap₂ ◌∷◌ (at 8) refl))))))))

-- A store into one word changes the part that it belongs to.
module _ (w : List ℕ) where
  store : (f k x : ℕ) → k < get_or sizes f 0 →
      table_of (set w (2 + (before sizes f + k)) x) ≡
      by_parts (get_or w 0 0) (get_or w 1 0) (set (lists (table_of w)) f (set (get_or (lists (table_of w)) f []) k x))
  unfolding table_of
  store f k x l =
      let q = 2 + (before sizes f + k) in
      let stored : lists (table_of (set w q x)) ≡ set (lists (table_of w)) f (set (get_or (lists (table_of w)) f []) k x) =
      sym (cut_lists (set w q x)) ∙ ap (cut sizes) (drop-set-add 2 w (before sizes f + k) x) ∙ cut_store sizes (drop 2 w) f k x l ∙
      ap (λ (ps : List (List ℕ)). set ps f (set (get_or ps f []) k x)) (cut_lists w) in
      ap (by_parts (get_or (set w q x) 0 0) (get_or (set w q x) 1 0)) stored ∙
      rw (get_or-set_other w q 0 x 0 (omega arith), get_or-set_other w q 1 x 0 (omega arith))

  -- the two words before the parts
  store_number : (q x : ℕ) → q < used_from → table_of (set w q x) ≡ by_parts (get_or (set w q x) 0 0) (get_or (set w q x) 1 0) (lists (table_of w))
  unfolding table_of
  store_number q x l =
      ap (by_parts (get_or (set w q x) 0 0) (get_or (set w q x) 1 0))
      (sym (cut_lists (set w q x)) ∙ ap (cut sizes) (drop-set-lt 2 w q x l) ∙ cut_lists w)

  pub store_capacity : (x : ℕ) → 0 < length w → table_of (set w 0 x) ≡ with_numbers (table_of w) x (table_of w).last (table_of w).quotas
  unfolding table_of with_numbers
  store_capacity x l = store_number 0 x (omega arith) ∙ rw (get_or-set_same w 0 x 0 l, get_or-set_other w 0 1 x 0 (omega arith))

  pub store_last : (x : ℕ) → 1 < length w →
      table_of (set w 1 x) ≡
      with_steps (table_of w) x (table_of w).used (table_of w).kinds (table_of w).contents (table_of w).own (table_of w).cabins
  unfolding table_of with_steps
  store_last x l = store_number 1 x (omega arith) ∙ rw (get_or-set_same w 1 x 0 l, get_or-set_other w 1 0 x 0 (omega arith))

  pub store_used : (k x : ℕ) → k < places →
      table_of (set w (used_from + k) x) ≡
      with_steps (table_of w) (table_of w).last (set (table_of w).used k x) (table_of w).kinds (table_of w).contents (table_of w).own (table_of w).cabins
  unfolding table_of with_steps
  store_used k x l =
      let q : used_from + k ≡ 2 + (before sizes 0 + k) = omega arith in
      ap (λ (q : ℕ). table_of (set w q x)) q ∙ store 0 k x l

  pub store_kinds : (k x : ℕ) → k < places →
      table_of (set w (kinds_from + k) x) ≡
      with_steps (table_of w) (table_of w).last (table_of w).used (set (table_of w).kinds k x) (table_of w).contents (table_of w).own (table_of w).cabins
  unfolding table_of with_steps
  store_kinds k x l =
      let q : kinds_from + k ≡ 2 + (before sizes 1 + k) = omega arith in
      ap (λ (q : ℕ). table_of (set w q x)) q ∙ store 1 k x l

  pub store_contents : (k x : ℕ) → k < places →
      table_of (set w (contents_from + k) x) ≡
      with_steps (table_of w) (table_of w).last (table_of w).used (table_of w).kinds (set (table_of w).contents k x) (table_of w).own (table_of w).cabins
  unfolding table_of with_steps
  store_contents k x l =
      let q : contents_from + k ≡ 2 + (before sizes 2 + k) = omega arith in
      ap (λ (q : ℕ). table_of (set w q x)) q ∙ store 2 k x l

  pub store_own : (k x : ℕ) → k < places →
      table_of (set w (own_from + k) x) ≡
      with_steps (table_of w) (table_of w).last (table_of w).used (table_of w).kinds (table_of w).contents (set (table_of w).own k x) (table_of w).cabins
  unfolding table_of with_steps
  store_own k x l =
      let q : own_from + k ≡ 2 + (before sizes 3 + k) = omega arith in
      ap (λ (q : ℕ). table_of (set w q x)) q ∙ store 3 k x l

  pub store_targets : (k x : ℕ) → k < exit_places places →
      table_of (set w (targets_from + k) x) ≡
      with_links (table_of w) (set (table_of w).targets k x) (table_of w).bits (table_of w).counts
  unfolding table_of with_links
  store_targets k x l =
      let q : targets_from + k ≡ 2 + (before sizes 4 + k) = omega arith in
      ap (λ (q : ℕ). table_of (set w q x)) q ∙ store 4 k x l

  pub store_bits : (k x : ℕ) → k < exit_places places →
      table_of (set w (bits_from + k) x) ≡
      with_links (table_of w) (table_of w).targets (set (table_of w).bits k x) (table_of w).counts
  unfolding table_of with_links
  store_bits k x l =
      let q : bits_from + k ≡ 2 + (before sizes 5 + k) = omega arith in
      ap (λ (q : ℕ). table_of (set w q x)) q ∙ store 5 k x l

  pub store_counts : (k x : ℕ) → k < places * counters →
      table_of (set w (counts_from + k) x) ≡
      with_links (table_of w) (table_of w).targets (table_of w).bits (set (table_of w).counts k x)
  unfolding table_of with_links
  store_counts k x l =
      let q : counts_from + k ≡ 2 + (before sizes 6 + k) = omega arith in
      ap (λ (q : ℕ). table_of (set w q x)) q ∙ store 6 k x l

  pub store_cabins : (k x : ℕ) → k < places →
      table_of (set w (cabins_from + k) x) ≡
      with_steps (table_of w) (table_of w).last (table_of w).used (table_of w).kinds (table_of w).contents (table_of w).own (set (table_of w).cabins k x)
  unfolding table_of with_steps
  store_cabins k x l =
      let q : cabins_from + k ≡ 2 + (before sizes 7 + k) = omega arith in
      ap (λ (q : ℕ). table_of (set w q x)) q ∙ store 7 k x l

  pub store_quotas : (k x : ℕ) → k < quota_numbers →
      table_of (set w (quotas_from + k) x) ≡
      with_numbers (table_of w) (table_of w).capacity (table_of w).last (set (table_of w).quotas k x)
  unfolding table_of with_numbers
  store_quotas k x l =
      let q : quotas_from + k ≡ 2 + (before sizes 8 + k) = omega arith in
      ap (λ (q : ℕ). table_of (set w q x)) q ∙ store 8 k x l

-- Numbers that are stored one behind the other change their part alone, as their stores one by one.
module _ (from n : ℕ) (get : Table → List ℕ) (put : Table → List ℕ → Table)
    (store : (w : List ℕ) (k x : ℕ) → k < n → table_of (set w (from + k) x) ≡ put (table_of w) (set (get (table_of w)) k x))
    (put_got : (t : Table) → t ≡ put t (get t)) (put_put : (t : Table) (l m : List ℕ) → put (put t l) m ≡ put t m)
    (get_put : (t : Table) (l : List ℕ) → get (put t l) ≡ l) where
  store_run : (ys w : List ℕ) (k : ℕ) → k + length ys ≤ n → table_of (sets w (from + k) ys) ≡ put (table_of w) (sets (get (table_of w)) k ys)
  store_run [] w k l = put_got (table_of w)
  store_run (y ∷ ys) w k l =
      let t = table_of w in
      let q : suc (from + k) ≡ from + suc k = omega arith in
      ap (λ (q : ℕ). table_of (sets (set w (from + k) y) q ys)) q ∙ store_run ys (set w (from + k) y) (suc k) (omega arith) ∙
      ap (λ (u : Table). put u (sets (get u) (suc k) ys)) (store w k y (omega arith)) ∙
      put_put t (set (get t) k y) _ ∙
      ap (λ (l : List ℕ). put t (sets l (suc k) ys)) (get_put t (set (get t) k y))

pub run_targets : (ys w : List ℕ) (k : ℕ) → k + length ys ≤ exit_places places →
    table_of (sets w (targets_from + k) ys) ≡ with_links (table_of w) (sets (table_of w).targets k ys) (table_of w).bits (table_of w).counts
unfolding with_links
run_targets =
    store_run targets_from (exit_places places) (λ t. t.targets) (λ t l. with_links t l t.bits t.counts) store_targets (λ t. refl) (λ t l m. refl)
    (λ t l. refl)

pub run_bits : (ys w : List ℕ) (k : ℕ) → k + length ys ≤ exit_places places →
    table_of (sets w (bits_from + k) ys) ≡ with_links (table_of w) (table_of w).targets (sets (table_of w).bits k ys) (table_of w).counts
unfolding with_links
run_bits =
    store_run bits_from (exit_places places) (λ t. t.bits) (λ t l. with_links t t.targets l t.counts) store_bits (λ t. refl) (λ t l m. refl) (λ t l. refl)

pub run_counts : (ys w : List ℕ) (k : ℕ) → k + length ys ≤ places * counters →
    table_of (sets w (counts_from + k) ys) ≡ with_links (table_of w) (table_of w).targets (table_of w).bits (sets (table_of w).counts k ys)
unfolding with_links
run_counts =
    store_run counts_from (places * counters) (λ t. t.counts) (λ t l. with_links t t.targets t.bits l) store_counts (λ t. refl) (λ t l m. refl)
    (λ t l. refl)

pub run_quotas : (ys w : List ℕ) (k : ℕ) → k + length ys ≤ quota_numbers →
    table_of (sets w (quotas_from + k) ys) ≡
    with_numbers (table_of w) (table_of w).capacity (table_of w).last (sets (table_of w).quotas k ys)
unfolding with_numbers
run_quotas =
    store_run quotas_from quota_numbers (λ t. t.quotas) (λ t l. with_numbers t t.capacity t.last l) store_quotas (λ t. refl) (λ t l m. refl) (λ t l. refl)

-- a part of a list that another takes the place of
pub put_mid_sets : (w ys zs : List ℕ) (a k : ℕ) → ys ≡ zs → k ≡ length zs → a + length zs ≤ length w → put_mid a k w ys ≡ sets w a zs
put_mid_sets w ys zs a k e n l =
    ap₂ (λ (m : ℕ) (v : List ℕ). put_mid a m w v) n e ∙ ap (λ (r : List ℕ). take a w ++ (zs ++ r)) (drop-drop (length zs) a w) ∙
    sym (sets-eq zs w a l ∙ append_assoc (take a w) zs _)

-- a run over a whole list
pub sets_whole : (l ys : List ℕ) → length l ≡ length ys → sets l 0 ys ≡ ys
sets_whole l ys e = sets-eq ys l 0 (omega arith) ∙ ap (λ (r : List ℕ). ys ++ r) (drop_of_length-le l (omega arith)) ∙ append-nil ys

pub shape_table : (w : List ℕ) → length w ≡ words → Shape (table_of w)
unfolding table_of
shape_table w l =
    record {
      used = part_size w used_from places (omega arith);
      kinds = part_size w kinds_from places (omega arith);
      contents = part_size w contents_from places (omega arith);
      own = part_size w own_from places (omega arith);
      targets = part_size w targets_from (exit_places places) (omega arith);
      bits = part_size w bits_from (exit_places places) (omega arith);
      counts = part_size w counts_from (places * counters) (omega arith);
      cabins = part_size w cabins_from places (omega arith);
      quotas = part_size w quotas_from quota_numbers (omega arith);
    }

pub words_table : (w : List ℕ) → length w ≡ words → words_of (table_of w) ≡ w
unfolding table_of words_of
words_table w l =
    ap (λ (ps : List (List ℕ)). get_or w 0 0 ∷ get_or w 1 0 ∷ glued ps) (sym (cut_lists w)) ∙
    ap (λ (x : List ℕ). get_or w 0 0 ∷ get_or w 1 0 ∷ x) (glued_cut sizes (drop 2 w) (let d = length-drop 2 w in omega arith)) ∙
    sym (drop-cons w 0 0 (omega arith) ∙ ap (λ (x : List ℕ). get_or w 0 0 ∷ x) (drop-cons w 1 0 (omega arith)))

-- the lengths of the parts of a table that has its shape
shape_sizes : (t : Table) → Shape t → sizes ≡ map length (lists t)
shape_sizes t s =
    sym
    (ap₂ ◌∷◌ s.used
    (ap₂ ◌∷◌ s.kinds
    (ap₂ ◌∷◌ s.contents
    (ap₂ ◌∷◌ s.own
    (ap₂ ◌∷◌ s.targets (ap₂ ◌∷◌ s.bits (ap₂ ◌∷◌ s.counts (ap₂ ◌∷◌ s.cabins (ap₂ ◌∷◌ s.quotas refl)))))))))

pub table_words : (t : Table) → Shape t → table_of (words_of t) ≡ t
unfolding table_of words_of
table_words t s =
    ap (by_parts t.capacity t.last)
    (sym (cut_lists (words_of t)) ∙
    ap (λ (ns : List ℕ). cut ns (drop 2 (words_of t))) (shape_sizes t s) ∙
    cut_glued (lists t))

-- the words of a table that has its lengths
pub became : (w v : List ℕ) (t : Table) → Becomes w v t → length w ≡ words → v ≡ words_of t
became w v t b l = sym (words_table v (b.size ∙ l)) ∙ ap words_of b.table

-- the words that are erased are those of a blank table
blank_shape : (capacity last : ℕ) → Shape (blank_table capacity last)
unfolding blank_table
blank_shape capacity last = record { used = refl; kinds = refl; contents = refl; own = refl; targets = refl; bits = refl; counts = refl; cabins = refl; quotas = refl }

pub erased_table : (w : List ℕ) (capacity last : ℕ) → w ≡ words_of (blank_table capacity last) → table_of w ≡ blank_table capacity last
erased_table w capacity last e = ap table_of e ∙ table_words (blank_table capacity last) (blank_shape capacity last)

pub erased_size : (w : List ℕ) (capacity last : ℕ) → w ≡ words_of (blank_table capacity last) → length w ≡ words
unfolding words_of blank_table
erased_size w capacity last e = ap length e

-- a counter that rises, or falls, by a store into its word
module _ (w : List ℕ) (j b q n : ℕ) (d : j ≡ 0 → ⊥) (e : q ≡ counter_place j b) (l : q < places * counters)
    (m : n ≡ get_or (table_of w).counts q 0) where
  pub store-raised :
      table_of (set w (counts_from + q) (n + 1)) ≡ with_links (table_of w) (table_of w).targets (table_of w).bits (raised j b (table_of w).counts)
  unfolding raised
  store-raised = store_counts w q (n + 1) l ∙ rw (ne_eqb j 0 d, m, e)

  pub store-lowered :
      table_of (set w (counts_from + q) (n - 1)) ≡ with_links (table_of w) (table_of w).targets (table_of w).bits (lowered j b (table_of w).counts)
  unfolding lowered
  store-lowered = store_counts w q (n - 1) l ∙ rw (ne_eqb j 0 d, m, e)

-- step 0 stands for no step
pub raised_none : (w : List ℕ) (j b : ℕ) → j ≡ 0 →
    table_of w ≡ with_links (table_of w) (table_of w).targets (table_of w).bits (raised j b (table_of w).counts)
unfolding raised with_links
raised_none w j b z = rw (eq-eqb j 0 z)

pub lowered_none : (w : List ℕ) (j b : ℕ) → j ≡ 0 →
    table_of w ≡ with_links (table_of w) (table_of w).targets (table_of w).bits (lowered j b (table_of w).counts)
unfolding lowered with_links
lowered_none w j b z = rw (eq-eqb j 0 z)

-- a counter that is lowered, or another, is no higher than before
pub lowered_below : (j b m : ℕ) (cs : List ℕ) → ((q : ℕ) → get_or cs q 0 < m) → (q : ℕ) → get_or (lowered j b cs) q 0 < m
unfolding lowered
lowered_below j b m cs h q =
    ⊎_elim (λ (z : eqb j 0 ≡ true). rw z (h q))
    (λ (z : eqb j 0 ≡ false). rw z (set_below (counter_place j b)))
    (test (eqb j 0))
  where
    set_below : (p : ℕ) → get_or (set cs p (get_or cs p 0 - 1)) q 0 < m
    set_below p =
        ⊎_elim
        (λ (s : q ≡ p).
        ⊎_elim
        (λ (o : length cs ≤ p). rw (set_out cs p (get_or cs p 0 - 1) o) (h q))
        (λ (i : p < length cs). rw (s, get_or-set_same cs p (get_or cs p 0 - 1) 0 i) (let r = h p in omega arith))
        (le_or_lt (length cs) p))
        (λ (n : q ≡ p → ⊥). rw (get_or-set_other cs p q (get_or cs p 0 - 1) 0 n) (h q))
        (eq_or_ne q p)
