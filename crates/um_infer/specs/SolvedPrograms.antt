-- What solved the equations of a program's functions, kept beside their schemes.
-- Source: this project's own; the solution is Kennedy's (1996) most general one.
use Rattle.std.specs.Prelude.{◌≡◌, ℕ, List, length, Some, slice_get, Result, Ok, Err}
use Rattle.um_tree.specs.ProgramTree.{FunctionTree, ProgramTree, SchemeTree, scheme_tree}
use Rattle.um_elim.specs.Solution.{rigid_units}
use Rattle.um_rows.specs.declared.nodes.TypedRows.{TypedRows}
use Rattle.um_rows.specs.Answers.{AreEquations, rows_signature}
use Rattle.um_rows.specs.Judgement.{by_rows, has_scheme, judge}
use Rattle.um_rows.specs.NodeTypes.{function_nodes, typed_nodes}
use Rattle.um_solving.specs.declared.refusal.Refusal.{Refusal}
use Rattle.um_infer.specs.declared.solved.SolvedFunction.{SolvedFunction}
use Rattle.um_infer.specs.declared.solved.SolvedScheme.{SolvedScheme}
use Rattle.um_solving.specs.Solving.{IsRefusal, IsSolutionOf}

-- function i of the program: its equations, the nodes of its body over the same slots, and the solution of all rows,
-- with each unit parameter as a unit of its own
pub record IsSolvedFunction
    (p : ProgramTree) (schemes : List SchemeTree) (i : ℕ) (f : FunctionTree) (solved : SolvedFunction)
    : Type 0 where
  pub equations : AreEquations p.records schemes i f solved.typed.rows
  pub nodes : typed_nodes solved.typed.nodes ≡ function_nodes p.records schemes i f
  pub solution : IsSolutionOf solved.typed.rows.slots
      (rigid_units (length p.bases) f.units solved.typed.rows.slots) solved.typed.rows.list.items.items solved.solver

abbrev pub IsSolvedAt : ProgramTree → List SchemeTree → ℕ → SolvedFunction → Type 0
IsSolvedAt p schemes i solved =
    (f : FunctionTree) → slice_get p.functions i ≡ Some f → IsSolvedFunction p schemes i f solved

-- the first n functions, in order
abbrev pub AreSolvedFunctions : ProgramTree → List SchemeTree → ℕ → List SolvedFunction → Type 0
AreSolvedFunctions p schemes n all =
    (length all ≡ n)
    × ((i : ℕ) (solved : SolvedFunction) → slice_get all i ≡ Some solved → IsSolvedAt p schemes i solved)

-- ---- one function, as the code answers
abbrev pub IsSolvedAnswer : ProgramTree → List SchemeTree → ℕ → Result SolvedScheme Refusal → Type 0
IsSolvedAnswer p schemes i (Ok s) =
    ((f : FunctionTree) → slice_get p.functions i ≡ Some f
    → judge (length p.bases) p.records schemes i f ≡ has_scheme (scheme_tree s.scheme))
    × IsSolvedAt p schemes i s.function
IsSolvedAnswer p schemes i (Err r) =
    (f : FunctionTree) → slice_get p.functions i ≡ Some f → IsRefusal (judge (length p.bases) p.records schemes i f) r

-- by these equations
abbrev pub IsSolvedBy : ℕ → ℕ → ℕ → TypedRows → Result SolvedScheme Refusal → Type 0
IsSolvedBy bases parameters at typed (Ok s) =
    (by_rows bases parameters typed.rows.slots at (rows_signature typed.rows) typed.rows.list.items.items
    ≡ has_scheme (scheme_tree s.scheme))
    × (s.function.typed ≡ typed)
    × IsSolutionOf typed.rows.slots (rigid_units bases parameters typed.rows.slots) typed.rows.list.items.items
    s.function.solver
IsSolvedBy bases parameters at typed (Err r) =
    IsRefusal (by_rows bases parameters typed.rows.slots at (rows_signature typed.rows) typed.rows.list.items.items) r
