-- Cabins that share a plan: what each is guaranteed, what it may have at most, and what it is charged (document 02, W5). The rules are stated of a
-- list of quotas and of charges, so that a table and a plain plan are asked by one definition. Assumes nothing.
--   guarantee_of limit_of   the guarantee and the limit of a cabin in a list of quotas
--   quotas_fit k q         the list suits a capacity: guarantees at most limits, and together at most the capacity less 1
--   list_fits k q          the same of a list given with a call, which must have a pair for each cabin
--   sole_quotas k          the list that gives all of a capacity to cabin 0
--   unmet q charge c      what cabin c may still add of its guarantee; reserved q charge c, the same of all other cabins together
--   at_limit, none_to_spare  the conditions of refusals 14 and 15
--   within_limits          no cabin is above its limit; charges_fit, and the free steps are enough for the unmet guarantees
--   charged t c i         step i is charged to cabin c; charge t c, how many are; free_steps t, the free steps
use Rattle.std.specs.Prelude.{Bool, ◌&&◌, not, cond, List, ◌∷◌, ℕ, ◌+◌, ◌*◌, ◌-◌, length, get_or, replicate, eqb, leb}
use Rattle.finite.specs.Below.{all, count, total}
use Rattle.table.specs.Table.{Table, cabin_count, quota_numbers, in_use, cabin_of, steps_in_use}

-- "eight pairs of guarantee and limit"
unfoldable pub guarantee_of : List ℕ → ℕ → ℕ
guarantee_of quotas c = get_or quotas (c * 2) 0

unfoldable pub limit_of : List ℕ → ℕ → ℕ
limit_of quotas c = get_or quotas (c * 2 + 1) 0

-- "guarantee at most limit, guarantees together at most capacity less 1": a sum of any size
unfoldable pub quotas_fit : ℕ → List ℕ → Bool
quotas_fit capacity quotas =
    all cabin_count (λ c. leb (guarantee_of quotas c) (limit_of quotas c)) && leb (total cabin_count (guarantee_of quotas)) (capacity - 1)

unfoldable pub list_fits : ℕ → List ℕ → Bool
list_fits capacity quotas = eqb (length quotas) quota_numbers && quotas_fit capacity quotas

-- "cabin 0, which has guarantee and limit capacity less 1, others zero"
unfoldable pub sole_quotas : ℕ → List ℕ
sole_quotas capacity = (capacity - 1) ∷ (capacity - 1) ∷ replicate (quota_numbers - 2) 0

unfoldable pub unmet : List ℕ → (ℕ → ℕ) → ℕ → ℕ
unmet quotas charge c = guarantee_of quotas c - charge c

-- "what the other cabins' unmet guarantees need"
unfoldable pub reserved : List ℕ → (ℕ → ℕ) → ℕ → ℕ
reserved quotas charge c = total cabin_count (λ d. cond (eqb d c) 0 (unmet quotas charge d))

-- "at the cabin's limit"
unfoldable pub at_limit : List ℕ → (ℕ → ℕ) → ℕ → Bool
at_limit quotas charge c = eqb (charge c) (limit_of quotas c)

-- "An add beyond a cabin's guarantee is refused unless a free step remains over what the other cabins' unmet guarantees need."
unfoldable pub none_to_spare : List ℕ → (ℕ → ℕ) → ℕ → ℕ → Bool
none_to_spare quotas charge free c = leb (guarantee_of quotas c) (charge c) && leb free (reserved quotas charge c)

-- "charges within limits"
unfoldable pub within_limits : List ℕ → (ℕ → ℕ) → Bool
within_limits quotas charge = all cabin_count (λ c. leb (charge c) (limit_of quotas c))

-- "charges within limits, free steps not fewer than the unmet guarantees together"
unfoldable pub charges_fit : List ℕ → (ℕ → ℕ) → ℕ → Bool
charges_fit quotas charge free = within_limits quotas charge && leb (total cabin_count (unmet quotas charge)) free

-- "step 0 has none": it is charged to no cabin
unfoldable pub charged : Table → ℕ → ℕ → Bool
charged t c i = in_use t i && not (eqb i 0) && eqb (cabin_of t i) c

unfoldable pub charge : Table → ℕ → ℕ
charge t c = count t.capacity (charged t c)

unfoldable pub free_steps : Table → ℕ
free_steps t = t.capacity - steps_in_use t
