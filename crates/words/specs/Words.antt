-- The table as it stands in memory: 1,938 words of 16 bits, and which word is which field (document 01, "The table"; document 02, W5). Assumes
-- nothing.
--   words           how many words a table has
--   part from n w   the n words from a place on
--   table_of w       the table that the words w stand for
--   words_of t       the words of the table t; `words_table` and `table_words` of the laws say that they are each other's inverse
--   blank_table c l  the table with no step in use, all fields zero or empty, and nothing in its quotas
--   with_fields t i used f   the table with another record of step i
--   Becomes w v t   the words w have become v: those of the table t, as many as before
--   Linked t i e    exit e of step i has a place, and the link in it is in range and counted
--   Relinkable t i e j b   a link to j with bit b can take the place of what exit e of step i holds
use Rattle.std.specs.Prelude.{◌≡◌, List, ◌∷◌, ◌++◌, ℕ, ◌*◌, ◌<◌, length, get_or, set, take, drop, replicate}
use Rattle.std.proofs.lemmas.List.Edits.{sets}
use Rattle.table.specs.declared.Fields.{Fields}
use Rattle.table.specs.Table.{Table, places, exit_places, exits_of, counters, quota_numbers, target_of, link_bit, counter_of, with_links, with_steps}

abbrev pub words : ℕ
words = 1938

-- where the fields begin: the capacity is word 0 and the last number given word 1
abbrev pub used_from : ℕ
used_from = 2

abbrev pub kinds_from : ℕ
kinds_from = 130

abbrev pub contents_from : ℕ
contents_from = 258

abbrev pub own_from : ℕ
own_from = 386

abbrev pub targets_from : ℕ
targets_from = 514

abbrev pub bits_from : ℕ
bits_from = 1026

abbrev pub counts_from : ℕ
counts_from = 1538

abbrev pub cabins_from : ℕ
cabins_from = 1794

abbrev pub quotas_from : ℕ
quotas_from = 1922

abbrev pub part : ℕ → ℕ → List ℕ → List ℕ
part from n w = take n (drop from w)

unfoldable pub table_of : List ℕ → Table
table_of w =
    record {
      capacity = get_or w 0 0;
      last = get_or w 1 0;
      used = part used_from places w;
      kinds = part kinds_from places w;
      contents = part contents_from places w;
      own = part own_from places w;
      targets = part targets_from (exit_places places) w;
      bits = part bits_from (exit_places places) w;
      counts = part counts_from (places * counters) w;
      cabins = part cabins_from places w;
      quotas = part quotas_from quota_numbers w;
    }

unfoldable pub words_of : Table → List ℕ
words_of t =
    t.capacity ∷ t.last ∷
    (t.used ++ (t.kinds ++ (t.contents ++ (t.own ++ (t.targets ++ (t.bits ++ (t.counts ++ (t.cabins ++ t.quotas))))))))

-- a table with no step in use and all fields zero or empty
unfoldable pub blank_table : ℕ → ℕ → Table
blank_table capacity last =
    record {
      capacity = capacity;
      last = last;
      used = replicate places 0;
      kinds = replicate places 0;
      contents = replicate places 0;
      own = replicate places 0;
      targets = replicate (exit_places places) 0;
      bits = replicate (exit_places places) 0;
      counts = replicate (places * counters) 0;
      cabins = replicate places 0;
      quotas = replicate quota_numbers 0;
    }

-- the table with another record of step i: whether it is in use, and its fields
unfoldable pub with_fields : Table → ℕ → ℕ → Fields → Table
with_fields t i used f =
    with_links
    (with_steps t t.last (set t.used i used) (set t.kinds i f.kind) (set t.contents i f.content) (set t.own i f.own)
    (set t.cabins i f.cabin))
    (sets t.targets (exit_places i) f.targets)
    (sets t.bits (exit_places i) f.bits)
    (sets t.counts (i * counters) f.counts)

pub record Becomes (before after : List ℕ) (t : Table) : Type 0 where
  pub table : table_of after ≡ t
  pub size : length after ≡ length before

pub record Linked (t : Table) (i e : ℕ) : Type 0 where
  pub step : i < places
  pub exit : e < exits_of i
  pub target : target_of t i e < places
  pub bit : link_bit t i e < counters
  pub counted : (target_of t i e ≡ 0 → ⊥) → 0 < counter_of t (target_of t i e) (link_bit t i e)

-- the new link is in range, and no counter stands at its top
pub record Relinkable (t : Table) (i e j b : ℕ) : Type 0 where
  pub old : Linked t i e
  pub target : j < places
  pub bit : b < counters
  pub room : (q : ℕ) → get_or t.counts q 0 < 65535
