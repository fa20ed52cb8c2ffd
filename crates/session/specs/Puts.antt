-- What the functions that write the output of `keys` give back. Assumes nothing.
--   Puts a b run     a run of bytes is put at the place of the writer a, which is b then: its place is behind the run, and its bytes are those lent
use Rattle.std.specs.Prelude.{◌≡◌, List, ℕ, ◌+◌, length}
use Rattle.std.proofs.lemmas.List.Edits.{sets}
use Rattle.session.specs.declared.Writer.{Writer}

pub record Puts (a b : Writer) (run : List ℕ) : Type 0 where
  pub place : b.at ≡ a.at + length run
  pub text : b.bytes.now ≡ sets a.bytes.now a.at run
  pub size : length b.bytes.now ≡ length a.bytes.now
  pub lent : b.bytes.ghost_name ≡ a.bytes.ghost_name
