-- The row of the steps met so far, and how it grows. Assumes nothing.
--   Row met            the first `end` entries of the row are the marked steps, and there are as many as marks
--   rung_of t buffer    what the call does where it is not refused
--   Grown p ..         the steps that pass p have joined: they are marked, and those before stand where they stood
use Rattle.std.specs.Prelude.{◌≡◌, Bool, true, ◌||◌, List, ℕ, ◌<◌, ◌≤◌, length, get_or}
use Rattle.finite.specs.Below.{count}
use Rattle.table.specs.Table.{Table, places}
use Rattle.table.specs.Answer.{WriteOutcome}
use Rattle.table.specs.Trial.{is_contact}
use Rattle.table.specs.Rung.{goes_on, rung_by}
use Rattle.words.specs.Marks.{is_marked}
use Rattle.ringing.specs.declared.Met.{Met}

pub record Row (met : Met) : Type 0 where
  pub size : length met.seen ≡ places
  pub room : length met.row ≡ places
  pub counted : met.end ≡ count places (is_marked met.seen)
  pub entries : (m : ℕ) → m < met.end → is_marked met.seen (get_or met.row m 0) ≡ true
  pub found : (k : ℕ) → is_marked met.seen k ≡ true → (m : ℕ) × (m < met.end) × (get_or met.row m 0 ≡ k)

pub record Grown (p : ℕ → Bool) (before after : Met) : Type 0 where
  pub marks : (k : ℕ) → is_marked after.seen k ≡ (is_marked before.seen k || p k)
  pub kept : (m : ℕ) → m < before.end → get_or after.row m 0 ≡ get_or before.row m 0
  pub more : before.end ≤ after.end
  pub joined : Row after

abbrev pub rung_of : Table → List ℕ → WriteOutcome
rung_of t buffer = rung_by 0 t.capacity (goes_on t) (is_contact t) buffer
