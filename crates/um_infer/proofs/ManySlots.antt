-- A function is judged to have too many slots exactly where it has more than 2,000.
use Rattle.std.proofs.Common.{◌≡◌, ◌<◌, ℕ, cond, leb, List, Option, Some, None, ap, subst, arith}
use Rattle.std.proofs.lemmas.Bool.Decides.{nat_tests}
use Rattle.um_units.specs.PowerMap.{nth}
use Rattle.um_tree.specs.ProgramTree.{RecordTree, FunctionTree, Signature, SchemeTree}
use Rattle.um_tree.specs.Typing.{put_signature}
use Rattle.um_elim.proofs.Cases.{on_test}
use Rattle.um_elim.specs.Solution.{own_variables, rigid_units}
use Rattle.um_equal_types.specs.declared.row.Row.{Row}
use Rattle.um_equal_types.specs.Steps.{first_past, rows_of}
use Rattle.um_slots.specs.Slots.{slot_count}
use Rattle.um_rows.specs.Equations.{slot_equations}
use Rattle.um_rows.specs.Solutions.{slot_signature}
use Rattle.um_rows.specs.FirstUnsolvable.{Solving, solved, unsolved, out_of_range, solve, rows_up_to}
use Rattle.um_rows.specs.Generalised.{generalised}
use Rattle.um_rows.specs.Judgement.{Judgement, has_scheme, too_many_slots, passes_range, signature_fits, numbered_scheme, by_slots, by_solution, by_solving, by_rows, by_range}
use Rattle.um_infer.specs.Laws.{ManySlotsAreCounted}

slots_have_slots : (k at : ℕ) (r : Solving) → by_slots k at r ≡ too_many_slots → ⊥
slots_have_slots k at (solved us) h = absurd (cc h)
slots_have_slots k at (unsolved j row) h = absurd (cc h)
slots_have_slots k at (out_of_range row) h = absurd (cc h)

module _ (bases parameters slots at : ℕ) where
  solution_has_slots : (g : Signature) → by_solution bases parameters slots at g ≡ too_many_slots → ⊥
  solution_has_slots g =
      let scheme = numbered_scheme (generalised bases parameters slots g) in
      on_test (signature_fits g)
      (λ e h. absurd (cc (subst (λ b. cond b (has_scheme scheme) (passes_range at) ≡ too_many_slots) e h)))
      (λ e h. absurd (cc (subst (λ b. cond b (has_scheme scheme) (passes_range at) ≡ too_many_slots) e h)))

  solving_has_slots : (g : Signature) (rows : List Row) (r : Solving) → by_solving bases parameters slots at g rows r ≡ too_many_slots → ⊥
  solving_has_slots g rows (solved units) h = solution_has_slots (put_signature (nth units) g) h
  solving_has_slots g rows (unsolved k row) h = slots_have_slots k row (solve 0 (rows_up_to k rows) (own_variables slots)) h
  solving_has_slots g rows (out_of_range row) h = absurd (cc h)

  range_has_slots : (o : Option ℕ) (g : Signature) (rows : List Row) → by_range o (by_rows bases parameters slots at g rows) ≡ too_many_slots → ⊥
  range_has_slots None g rows h = solving_has_slots g rows (solve 0 rows (rigid_units bases parameters slots)) h
  range_has_slots (Some k) g rows h = absurd (cc h)

module _ (bases : ℕ) (records : List RecordTree) (schemes : List SchemeTree) (i : ℕ) (f : FunctionTree) where
  abbrev within : Judgement
  within =
      let steps = (slot_equations records schemes i f).steps in
      by_range (first_past steps) (by_rows bases f.units (slot_count records schemes i f) f.at (slot_signature records schemes i f) (rows_of steps))

  more_slots : (n : ℕ) → cond (leb n 2000) within too_many_slots ≡ too_many_slots → 2000 < n
  more_slots n = on_test (leb n 2000)
      (λ e h. absurd (range_has_slots bases f.units (slot_count records schemes i f) f.at (first_past (slot_equations records schemes i f).steps) (slot_signature records schemes i f) (rows_of (slot_equations records schemes i f).steps)
      (subst (λ b. cond b within too_many_slots ≡ too_many_slots) e h)))
      (λ e h. let past : 2000 < n = grind (arith, nat_tests) in past)

  many_judged : (n : ℕ) → 2000 < n → cond (leb n 2000) within too_many_slots ≡ too_many_slots
  many_judged n l = on_test (leb n 2000)
      (λ e. absurd (let none : ⊥ = grind (arith, nat_tests) in none))
      (λ e. ap (λ b. cond b within too_many_slots) e)

pub many_slots_are_counted : ManySlotsAreCounted
many_slots_are_counted bases records schemes i f = (more_slots bases records schemes i f (slot_count records schemes i f), many_judged bases records schemes i f (slot_count records schemes i f))
