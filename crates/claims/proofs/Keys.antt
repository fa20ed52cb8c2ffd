-- What `keys` prints is what the plan draws, line by line. Assumes nothing.
use mathlib.Core.Path.{◌≡◌, refl, sym, ◌∙◌, ap, ap₂}
use mathlib.Core.Bool.{Bool, true, false}
use mathlib.Core.Logic.{⊎_elim}
use mathlib.Core.List.{List, [], ◌∷◌, ◌++◌, map}
use Prim.Native.Nat.{ℕ, suc}
use lib.ListN.{length}
use Rattle.std.specs.Prelude.{Option, Some, None}
use Rattle.finite.proofs.Below.{eq_or_ne}
use Rattle.table.specs.Said.{Answer, Refused, Given}
use Rattle.table.specs.Table.{Table, places}
use Rattle.table.specs.Answer.{Outcome, first, unless, refusal_of, first_of, second_of}
use Rattle.finite.specs.Below.{all, total}
use Rattle.table.specs.Cabins.{guarantee_of, limit_of, quotas_fit, list_fits, sole_quotas}
use Rattle.table.specs.Calls.{fresh_call, add_call, link_call, spoken_counts}
use Rattle.table.specs.Sound.{capacity_fits}
use Rattle.table.specs.Clear.{clear_call}
use Rattle.table.specs.Plan.{fresh_plan}
use Rattle.table.proofs.Calls.{unless_zero, unless_refused}
use Rattle.keyline.specs.declared.Command.{Command}
use Rattle.keyline.specs.declared.Command.TheVariants.{Add, Link, Clear, Count}
use Rattle.keyline.specs.Keys.{decode, perform, perform_line, key_call}
use Rattle.history.specs.History.{Call, Said, freed, Heard, fresh, key_line, said_by, command_says, line_says, row, run, is_told, with_told, heard_by, drawn_by, first_row, first_table, first_plan}
use Rattle.history.proofs.Demand3.{demand_3}
use Rattle.session.specs.Session.{keys_table, lines_of, three_numbers, printed, answers, keys_output}
use Rattle.claims.specs.Keys.{keyed, drawn_first, drawn_second, drawn_line, drawn_lines, KeysDemand}

-- the two numbers of an answer are drawn from what it says: d, which is the first number, serves a clearing only
record Drawn (says : ℕ → ℕ → Said) (a : Answer) : Type 0 where
  one : first_of a ≡ drawn_first (said_by says a) (first_of a)
  two : second_of a ≡ drawn_second (said_by says a)

drawn_refused : (says : ℕ → ℕ → Said) (n : ℕ) → Drawn says (Refused n)
unfolding said_by first_of second_of drawn_first drawn_second
drawn_refused says n = record { one = refl; two = refl }

-- a refusal, or the outcome
drawn_unless : (says : ℕ → ℕ → Said) (n : ℕ) (t : Table) (o : Outcome) → Drawn says o.answer → Drawn says (unless n t o).answer
drawn_unless says n t o h =
    ⊎_elim
    (λ (z : n ≡ 0). rw (unless_zero n t o z) h)
    (λ (d : n ≡ 0 → ⊥). rw (unless_refused n t o d) (drawn_refused says n))
    (eq_or_ne n 0)

drawn_line_lem : (t : Table) (d : Option Command) → Drawn (line_says d) (perform_line t d).answer
unfolding line_says command_says perform_line perform add_call link_call spoken_counts said_by first_of second_of drawn_first drawn_second
drawn_line_lem t None = drawn_refused _ _
drawn_line_lem t (Some (Add holder e kind content)) = drawn_unless _ _ t _ (record { one = refl; two = refl })
drawn_line_lem t (Some (Link source e second f)) = drawn_unless _ _ t _ (record { one = refl; two = refl })
drawn_line_lem t (Some (Clear i e)) = clear (clear_call t i e).answer
  where
    clear : (a : Answer) → Drawn (λ a b. freed b) a
    clear (Refused n) = drawn_refused _ n
    clear (Given a b) = record { one = refl; two = refl }
drawn_line_lem t (Some Count) = record { one = refl; two = refl }

-- the line printed is the line drawn of what is heard
line_drawn : (t : Table) (l : List ℕ) →
    printed (key_call t l).answer ≡ drawn_line (run t (key_line l)).heard (first_of (key_call t l).answer)
unfolding key_call printed drawn_line run row
line_drawn t l =
    let h = drawn_unless (line_says (decode l)) _ t (perform_line t (decode l)) (drawn_line_lem t (decode l)) in
    ap₂ (three_numbers (refusal_of (key_call t l).answer)) h.one h.two

firsts : Table → List (List ℕ) → List ℕ
firsts t [] = []
firsts t (l ∷ ls) = first_of (key_call t l).answer ∷ firsts (key_call t l).table ls

firsts_size : (t : Table) (ls : List (List ℕ)) → length (firsts t ls) ≡ length ls
unfolding firsts
firsts_size t [] = refl
firsts_size t (l ∷ ls) = ap suc (firsts_size (key_call t l).table ls)

answers_drawn : (t : Table) (ls : List (List ℕ)) → answers t ls ≡ drawn_lines (heard_by t (map key_line ls)) (firsts t ls)
unfolding answers drawn_lines firsts heard_by run row
answers_drawn t [] = refl
answers_drawn t (l ∷ ls) = ap₂ ◌++◌ (line_drawn t l) (answers_drawn (key_call t l).table ls)

-- the plan is told nothing of key lines
nothing_told : (t : Table) (ls : List (List ℕ)) → with_told t (map key_line ls) ≡ map keyed ls
unfolding with_told is_told row keyed
nothing_told t [] = refl
nothing_told t (l ∷ ls) = ap (λ (cs : List (Bool × Call)). (false, key_line l) ∷ cs) (nothing_told (run t (key_line l)).table ls)

-- the list of quotas that `keys` begins with is a good one
lists : Bool
unfolding list_fits quotas_fit guarantee_of limit_of sole_quotas all total
lists = true

pub keys_demand : (bs : List ℕ) → KeysDemand bs
unfolding keys_output
keys_demand bs =
    let list = sole_quotas places in
    let d = demand_3 (fresh places list) (map key_line (lines_of bs)) in
    let t : first_table (fresh places list) ≡ keys_table = (unfold first_table first_row fresh_call unless first capacity_fits keys_table lists in refl) in
    let p : first_plan (fresh places list) ≡ fresh_plan places list = (unfold first_plan capacity_fits lists in refl) in
    record {
      doubts = firsts keys_table (lines_of bs);
      lines = firsts_size keys_table (lines_of bs);
      printed =
          answers_drawn keys_table (lines_of bs) ∙
          ap (λ (hs : List Heard). drawn_lines hs (firsts keys_table (lines_of bs)))
          (ap (λ (u : Table). heard_by u (map key_line (lines_of bs))) (sym t) ∙ d.heard
          ∙ ap₂ drawn_by p (nothing_told (first_table (fresh places list)) (lines_of bs)));
    }
