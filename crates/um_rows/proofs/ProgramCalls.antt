-- What the equations of a call say.
use Rattle.std.proofs.Common.{◌≡◌, ℕ, false, List, [], map, length, Some, None, Ok, Err, slice_get, sym, ap, ◌∙◌, subst}
use Rattle.std.specs.Prelude.{Result, MatchResult, IfOk, IfErr}
use Rattle.um_units.specs.PowerMap.{nth}
use Rattle.um_units.specs.Solutions.{IsJointSolution}
use Rattle.um_tree.specs.declared.program.Function.{Function}
use Rattle.um_tree.specs.declared.program.Program.{Program}
use Rattle.um_tree.specs.TypeTree.{note_tree}
use Rattle.um_tree.specs.ExprTree.{ExprTree, call}
use Rattle.um_tree.specs.ValueTree.{InputTrees}
use Rattle.um_tree.specs.ProgramTree.{FunctionTree, SchemeTree, function_tree, program_tree}
use Rattle.um_tree.specs.Typing.{put_signature}
use Rattle.um_tree.specs.Shapes.{note_shape}
use Rattle.um_tree.specs.Formed.{IsFormed, AreFormedInputs}
use Rattle.um_equal_types.specs.declared.row.Rows.{Rows}
use Rattle.um_equal_types.specs.declared.row.RowStop.{RowStop}
use Rattle.um_equal_types.specs.Steps.{rows_of, units_of}
use Rattle.um_slots.specs.Slots.{slot_count}
use Rattle.um_rows.specs.Equations.{slot_equations}
use Rattle.um_rows.specs.Solutions.{IsSolved}
use Rattle.um_slots.specs.CallFunction.{input_texts, call_function}
use Rattle.um_rows.specs.Answers.{AreEquations, StopsFor, AreCallRowsOf, CallRowsStopFor, IsGivenBy, ResultsAreSolutionsOf, described}
use Rattle.um_tree.proofs.Moved.{slice_get_moved}
use Rattle.um_rows.proofs.CallLaws.{call_results_are_solutions}

module _ (p : Program) (formed : IsFormed (program_tree p)) (schemes : List SchemeTree) (k : ℕ) (f : Function) (there : slice_get p.functions.items.items k ≡ Some f) (inputs : InputTrees) (n : ℕ) (count : n ≡ length (program_tree p).functions) (body : ExprTree)
    (body_is : body ≡ call 0 k (input_texts (program_tree p).records (map note_shape (map note_tree f.params.items.items)) inputs)) where
  found : slice_get (program_tree p).functions k ≡ Some (function_tree f)
  found = slice_get_moved function_tree p.functions.items.items k f there

  only : (g : FunctionTree) → slice_get (program_tree p).functions k ≡ Some g → function_tree f ≡ g
  only g e = let same : Some (function_tree f) ≡ Some g = sym found ∙ e in cc same

  abbrev made : FunctionTree
  made = described 0 false 0 [] None body

  made_is : made ≡ call_function (program_tree p).records k (function_tree f) inputs
  made_is = ap (described 0 false 0 [] None) body_is

  pub rows_of_call : (r : Rows) → AreEquations (program_tree p).records schemes n made r → AreCallRowsOf (program_tree p) schemes k inputs r
  rows_of_call r h g e =
      subst (λ x. AreEquations (program_tree p).records schemes (length (program_tree p).functions) (call_function (program_tree p).records k x inputs) r) (only g e)
      (subst (λ m. AreEquations (program_tree p).records schemes m (call_function (program_tree p).records k (function_tree f) inputs) r) count (subst (λ y. AreEquations (program_tree p).records schemes n y r) made_is h))

  pub stops_of_call : (x : RowStop) → StopsFor (program_tree p).records schemes n made x → CallRowsStopFor (program_tree p) schemes k inputs x
  stops_of_call x h g e =
      subst (λ y. StopsFor (program_tree p).records schemes (length (program_tree p).functions) (call_function (program_tree p).records k y inputs) x) (only g e)
      (subst (λ m. StopsFor (program_tree p).records schemes m (call_function (program_tree p).records k (function_tree f) inputs) x) count (subst (λ y. StopsFor (program_tree p).records schemes n y x) made_is h))

  pub results_of_call : AreFormedInputs (length (program_tree p).bases) inputs → (r : Rows) → AreEquations (program_tree p).records schemes n made r → ResultsAreSolutionsOf (program_tree p) schemes k inputs r
  results_of_call closed r whole have t =
      let both = call_results_are_solutions (program_tree p) schemes k (function_tree f) inputs formed have found closed t in
      ((λ w. given (both.0 w)), (λ w. both.1 (solved w)))
    where
      h : AreEquations (program_tree p).records schemes (length (program_tree p).functions) (call_function (program_tree p).records k (function_tree f) inputs) r
      h = rows_of_call r whole (function_tree f) found

      given : IsSolved (program_tree p).records schemes (length (program_tree p).functions) (call_function (program_tree p).records k (function_tree f) inputs) (record { params = []; result = t }) → IsGivenBy r (record { params = []; result = t })
      given w = (
        w.0,
        subst (λ m. IsJointSolution m (units_of r.list.items.items) w.0) (sym h.slots) (subst (λ rs. IsJointSolution (slot_count (program_tree p).records schemes (length (program_tree p).functions) (call_function (program_tree p).records k (function_tree f) inputs)) (units_of rs) w.0) (sym h.list) w.1),
        w.2 ∙ (λ j. put_signature (nth w.0) (record { params = sym h.params j; result = sym h.result j })),
      )

      solved : IsGivenBy r (record { params = []; result = t }) → IsSolved (program_tree p).records schemes (length (program_tree p).functions) (call_function (program_tree p).records k (function_tree f) inputs) (record { params = []; result = t })
      solved w = (
        w.0,
        subst (λ m. IsJointSolution m (units_of (rows_of (slot_equations (program_tree p).records schemes (length (program_tree p).functions) (call_function (program_tree p).records k (function_tree f) inputs)).steps)) w.0) h.slots (subst (λ rs. IsJointSolution r.slots (units_of rs) w.0) h.list w.1),
        w.2 ∙ (λ j. put_signature (nth w.0) (record { params = h.params j; result = h.result j })),
      )

  -- ---- by the answer
  abbrev pub IsCallAnswer : Result Rows RowStop → Type 0
  IsCallAnswer r = MatchResult r (AreEquations (program_tree p).records schemes n made) (StopsFor (program_tree p).records schemes n made)

  pub calls_ok : (r : Result Rows RowStop) → IsCallAnswer r → IfOk r (AreCallRowsOf (program_tree p) schemes k inputs)
  calls_ok (Ok r) h = rows_of_call r h
  calls_ok (Err e) h = tt

  pub calls_err : (r : Result Rows RowStop) → IsCallAnswer r → IfErr r (CallRowsStopFor (program_tree p) schemes k inputs)
  calls_err (Ok r) h = tt
  calls_err (Err e) h = stops_of_call e h

  pub calls_results : AreFormedInputs (length (program_tree p).bases) inputs → (r : Result Rows RowStop) → IsCallAnswer r → IfOk r (ResultsAreSolutionsOf (program_tree p) schemes k inputs)
  calls_results closed (Ok r) h = results_of_call closed r h
  calls_results closed (Err e) h = tt
