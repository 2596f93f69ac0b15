-- A function without unit parameters is never judged to be not general: its rows are solved from the slots' own variables at
-- first, and once more they end in the same way.
use Rattle.std.proofs.Common.{◌≡◌, ℕ, cond, leb, Option, Some, None, List, sym, ap, ◌∙◌, subst}
use Rattle.um_units.specs.PowerMap.{nth}
use Rattle.um_tree.specs.ProgramTree.{RecordTree, FunctionTree, Signature, SchemeTree}
use Rattle.um_tree.specs.Typing.{put_signature}
use Rattle.um_elim.specs.Solution.{own_variables, rigid_units}
use Rattle.um_elim.proofs.Cases.{on_test}
use Rattle.um_elim.proofs.Slots.{rigid-own}
use Rattle.um_equal_types.specs.declared.row.Row.{Row}
use Rattle.um_equal_types.specs.Steps.{rows_of, first_past}
use Rattle.um_slots.specs.Slots.{slot_count}
use Rattle.um_rows.specs.Equations.{slot_equations}
use Rattle.um_rows.specs.Solutions.{slot_signature}
use Rattle.um_rows.specs.FirstUnsolvable.{Solving, solved, unsolved, out_of_range, solve}
use Rattle.um_rows.specs.Generalised.{generalised}
use Rattle.um_rows.specs.Judgement.{numbered_scheme, signature_fits, Judgement, has_scheme, too_many_slots, passes_range, has_no_typing, not_general, by_slots, by_solution, by_solving, by_rows, by_range, judge}
use Rattle.um_rows.specs.Laws.{GeneralWithoutParameters}
use Rattle.um_rows.proofs.SolvingLaws.{solved_up_to}

-- what is not said of it
abbrev IsGeneral : Judgement → Type 0
IsGeneral (has_scheme s) = Unit {0}
IsGeneral too_many_slots = Unit {0}
IsGeneral (passes_range at) = Unit {0}
IsGeneral (has_no_typing k at) = Unit {0}
IsGeneral (not_general k at) = ⊥

module _ (bases parameters slots at : ℕ) (g : Signature) (rows : List Row) (own : rigid_units bases parameters slots ≡ own_variables slots) where
  solution_general : (h : Signature) → IsGeneral (by_solution bases parameters slots at h)
  solution_general h =
      on_test (signature_fits h)
      (λ e. subst (λ b. IsGeneral (cond b (has_scheme (numbered_scheme (generalised bases parameters slots h))) (passes_range at))) (sym e) tt)
      (λ e. subst (λ b. IsGeneral (cond b (has_scheme (numbered_scheme (generalised bases parameters slots h))) (passes_range at))) (sym e) tt)

  solving_general : (r : Solving) → solve 0 rows (own_variables slots) ≡ r → IsGeneral (by_solving bases parameters slots at g rows r)
  solving_general (solved us) is = solution_general (put_signature (nth us) g)
  solving_general (unsolved k row) is = subst (λ r. IsGeneral (by_slots k row r)) (sym (solved_up_to rows (own_variables slots) k row is)) tt
  solving_general (out_of_range row) is = tt

  rows_general : IsGeneral (by_rows bases parameters slots at g rows)
  rows_general = solving_general (solve 0 rows (rigid_units bases parameters slots)) (ap (solve 0 rows) (sym own))

range_general : (o : Option ℕ) (j : Judgement) → IsGeneral j → IsGeneral (by_range o j)
range_general None j h = h
range_general (Some at) j h = tt

judge_general : (bases : ℕ) (records : List RecordTree) (schemes : List SchemeTree) (i : ℕ) (f : FunctionTree) → f.units ≡ 0 → IsGeneral (judge bases records schemes i f)
judge_general bases records schemes i f none =
    let n = slot_count records schemes i f in
    let steps = (slot_equations records schemes i f).steps in
    let sig = slot_signature records schemes i f in
    let j = by_range (first_past steps) (by_rows bases f.units n f.at sig (rows_of steps)) in
    let own : rigid_units bases f.units n ≡ own_variables n = ap (λ m. rigid_units bases m n) none ∙ rigid-own bases n in
    let general = range_general (first_past steps) _ (rows_general bases f.units n f.at sig (rows_of steps) own) in
    on_test (leb n 2000)
    (λ e. subst (λ b. IsGeneral (cond b j too_many_slots)) (sym e) general)
    (λ e. subst (λ b. IsGeneral (cond b j too_many_slots)) (sym e) tt)

pub general_without_parameters : GeneralWithoutParameters
general_without_parameters bases records schemes i f none k at is = subst IsGeneral is (judge_general bases records schemes i f none)
