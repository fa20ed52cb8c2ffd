-- The table: its steps (nodes), exits (edge slots), links (edges) and counters (document 01, "The table"), and the cabins that share it (document
-- 02, W5). Assumes nothing.
--   Table               all fields of all steps
--   exits_of i           the number of exits of step i: four, and at step 0 one for each of the entries, of which there are none yet
--   exit_place i e       where exit e of step i stands; exit_places n: how many places the exits of the steps below n have
--   holder_at p, exit_at p   the step that has the exit at place p, and the number of that exit
--   in_use t i           step i is in use
--   kind_of content_of own_bit cabin_of   its kind, its content, the bit of its own, the cabin that added it
--   target_of t i e, link_bit t i e   what exit e of step i holds: the target, 0 where it is empty, and the link's bit
--   counter_of t i b     counter b of step i
--   holds t i e         exit e of step i holds a link (an edge); else it is empty
--   strong t i e        that link is strong: its bit equals its target's bit; a link that is not strong is weak
--   linked t i j, strongly_linked t i j   some exit of i holds a link, or a strong link, to j
--   leads t i e j       exit e of step i holds a link to j; counts_at t j b p says the same of the exit at place p, with bit b
--   links_to t j b       the number of links with bit b to j
--   steps_in_use t        the number of steps in use
--   StrongChain t a b n   a strong chain (path) of n links from a to b
--   same_table t u       two tables are the same in all fields
--   with_numbers with_links with_steps   a table with another capacity, last number and quotas, with other links and counters, or with another last
--                       number and other steps
use Rattle.std.specs.Prelude.{◌≡◌, Bool, true, ◌&&◌, not, cond, List, [], ◌∷◌, ℕ, ◌+◌, ◌*◌, ◌-◌, ◌/◌, ◌%◌, get_or, eqb, ltb}
use Rattle.finite.specs.Below.{any, count, passes, same}
use Rattle.finite.specs.Reach.{Chain}

-- a table has places for 128 steps; a step has four exits and two counters
abbrev pub places : ℕ
places = 128

abbrev pub exits : ℕ
exits = 4

abbrev pub counters : ℕ
counters = 2

-- W5. "Eight cabins", numbered from 0, and two numbers for each in a list of quotas: its guarantee and its limit
abbrev pub cabin_count : ℕ
cabin_count = 8

abbrev pub quota_numbers : ℕ
quota_numbers = cabin_count * 2

-- "A table has a capacity of 1 to 128 and steps numbered from 0. .. The table remembers the number last given." Every field is a number or a list of
-- numbers, one for each step, exit or counter, so that any words in memory are a table, sound or not.
pub record Table : Type 0 where
  pub capacity : ℕ
  pub last : ℕ
  -- 1 for a step in use, 0 for a free one; its kind; its content; the bit of its own
  pub used : List ℕ
  pub kinds : List ℕ
  pub contents : List ℕ
  pub own : List ℕ
  -- the target that each exit holds, 0 for an empty one, and the bit of the link
  pub targets : List ℕ
  pub bits : List ℕ
  -- two counters for each step
  pub counts : List ℕ
  -- W5: the cabin that added each step; for each cabin its guarantee and its limit
  pub cabins : List ℕ
  pub quotas : List ℕ

-- Exits by step. "A step has .. four exits", numbered from 0. W12: an entry has "a link, counted like an exit of its step 0", so step 0 has one exit
-- more for each entry, numbered from 4; before W12 a table has no entry. The exits of the entries stand first, then four for each step: so the first
-- `exit_places n` are those of the steps below n, and the four of step n begin there. What is known of places is in proofs/Places; nothing else divides
-- by the number of exits or multiplies by it.
abbrev pub entries : ℕ
entries = 0

unfoldable pub entries_of : ℕ → ℕ
entries_of i = cond (eqb i 0) entries 0

abbrev pub exits_of : ℕ → ℕ
exits_of i = exits + entries_of i

abbrev pub exit_places : ℕ → ℕ
exit_places n = entries + n * exits

-- where exit e of step i stands
unfoldable pub exit_place : ℕ → ℕ → ℕ
exit_place i e = cond (ltb e exits) (exit_places i + e) (e - exits)

-- the step that has the exit at place p, and the number of that exit
abbrev pub holder_at : ℕ → ℕ
holder_at p = (p - entries) / exits

unfoldable pub exit_at : ℕ → ℕ
exit_at p = cond (ltb p entries) (exits + p) ((p - entries) % exits)

-- where counter b of step i stands
unfoldable pub counter_place : ℕ → ℕ → ℕ
counter_place i b = i * counters + b

unfoldable pub in_use : Table → ℕ → Bool
in_use t i = eqb (get_or t.used i 0) 1

unfoldable pub kind_of : Table → ℕ → ℕ
kind_of t i = get_or t.kinds i 0

unfoldable pub content_of : Table → ℕ → ℕ
content_of t i = get_or t.contents i 0

unfoldable pub own_bit : Table → ℕ → ℕ
own_bit t i = get_or t.own i 0

-- "Each step records the cabin, 0 to 7, that added it"
unfoldable pub cabin_of : Table → ℕ → ℕ
cabin_of t i = get_or t.cabins i 0

unfoldable pub target_of : Table → ℕ → ℕ → ℕ
target_of t i e = get_or t.targets (exit_place i e) 0

unfoldable pub link_bit : Table → ℕ → ℕ → ℕ
link_bit t i e = get_or t.bits (exit_place i e) 0

unfoldable pub counter_of : Table → ℕ → ℕ → ℕ
counter_of t i b = get_or t.counts (counter_place i b) 0

-- "An exit is empty or holds a link: a target and a bit." No link leads to step 0, so the target 0 says that it is empty.
unfoldable pub holds : Table → ℕ → ℕ → Bool
holds t i e = not (eqb (target_of t i e) 0)

-- "a link is strong if its bit equals its target's bit, else weak"
unfoldable pub strong : Table → ℕ → ℕ → Bool
strong t i e = holds t i e && eqb (link_bit t i e) (own_bit t (target_of t i e))

-- exit e of step i holds a link to j
unfoldable pub leads : Table → ℕ → ℕ → ℕ → Bool
leads t i e j = holds t i e && eqb (target_of t i e) j

unfoldable pub linked : Table → ℕ → ℕ → Bool
linked t i j = any (exits_of i) (λ e. leads t i e j)

unfoldable pub strongly_linked : Table → ℕ → ℕ → Bool
strongly_linked t i j = any (exits_of i) (λ e. leads t i e j && strong t i e)

-- the exit that stands at place p of the arrays holds a link with bit b to j
unfoldable pub counts_at : Table → ℕ → ℕ → ℕ → Bool
counts_at t j b p = not (eqb j 0) && eqb (get_or t.targets p 0) j && eqb (get_or t.bits p 0) b

-- "Counter 0 of a step counts the links with bit 0 to it, counter 1 those with bit 1": over the exits of all steps below the capacity
unfoldable pub links_to : Table → ℕ → ℕ → ℕ
links_to t j b = count (exit_places t.capacity) (counts_at t j b)

unfoldable pub steps_in_use : Table → ℕ
steps_in_use t = count t.capacity (in_use t)

-- "A chain begins at a step in use and is a row of links .. It is strong if all its links are." n is the number of its links.
pub record StrongChain (t : Table) (a b n : ℕ) : Type 0 where
  pub begins : in_use t a ≡ true
  pub row : Chain (strongly_linked t) a b n

unfoldable pub same_fields : Table → Table → List Bool
same_fields t u =
    eqb t.capacity u.capacity ∷
    eqb t.last u.last ∷
    same t.used u.used ∷
    same t.kinds u.kinds ∷
    same t.contents u.contents ∷
    same t.own u.own ∷
    same t.targets u.targets ∷
    same t.bits u.bits ∷
    same t.counts u.counts ∷
    same t.cabins u.cabins ∷
    same t.quotas u.quotas ∷
    []

unfoldable pub same_table : Table → Table → Bool
same_table t u = passes (same_fields t u)

-- Three ways to write a table; what is not named is as it was.
unfoldable pub with_numbers : Table → ℕ → ℕ → List ℕ → Table
with_numbers t capacity last quotas =
    record {
      capacity = capacity;
      last = last;
      used = t.used;
      kinds = t.kinds;
      contents = t.contents;
      own = t.own;
      targets = t.targets;
      bits = t.bits;
      counts = t.counts;
      cabins = t.cabins;
      quotas = quotas;
    }

unfoldable pub with_links : Table → List ℕ → List ℕ → List ℕ → Table
with_links t targets bits counts =
    record {
      capacity = t.capacity;
      last = t.last;
      used = t.used;
      kinds = t.kinds;
      contents = t.contents;
      own = t.own;
      targets = targets;
      bits = bits;
      counts = counts;
      cabins = t.cabins;
      quotas = t.quotas;
    }

unfoldable pub with_steps : Table → ℕ → List ℕ → List ℕ → List ℕ → List ℕ → List ℕ → Table
with_steps t last used kinds contents own cabins =
    record {
      capacity = t.capacity;
      last = last;
      used = used;
      kinds = kinds;
      contents = contents;
      own = own;
      targets = t.targets;
      bits = t.bits;
      counts = t.counts;
      cabins = cabins;
      quotas = t.quotas;
    }
