-- Mirrors the code: what is known of a program in other sizes, and of arguments that are rescaled one by one.
-- Source: this project's own.
use Rattle.std.specs.Prelude.{◌≡◌, ◌≤◌, ℕ, IsTrue, List, [], ◌∷◌, ◌++◌, is_some, map, None, Some, Result, Ok, Err}
use Rattle.um_frac.specs.declared.number.Frac.{Frac}
use Rattle.um_tree.specs.declared.value.Inputs.{Inputs}
use Rattle.um_tree.specs.ValueTree.{InputTree, input_tree}
use Rattle.um_tree.specs.ProgramTree.{ProgramTree}
use Rattle.um_tree.specs.Formed.{IsFormed}
use Rattle.um_scaling.specs.RescaledProgram.{IsRescaled}
use Rattle.um_scale.specs.Sizes.{AreSizes, sizes}
use Rattle.um_scale.specs.RescaledLiterals.{rescaled_program}
use Rattle.um_scale.specs.RescaledInputs.{input_misfit, rescaled_input}
use Rattle.um_call_answers.specs.declared.arguments.ArgumentStop.{ArgumentStop}
use Rattle.um_call_answers.specs.declared.arguments.ArgumentStop.TheVariants.{Misfit, NoMemory}
use Rattle.um_run.specs.Calls.{CallTree}
use Rattle.um_run.specs.Laws.{IsTypedCall}
use Rattle.um_call_answers.specs.TwinAnswer.{misfit_among, rescaled_arguments}

-- the argument of this index fits, and stands in other sizes after those before, or it doesn't fit
abbrev pub IsArgumentRescaled :
    List Frac → ℕ → InputTree → List InputTree → List InputTree → Result (Unit {0}) ArgumentStop → Type 0
IsArgumentRescaled cs k i old new (Ok done) = (input_misfit cs i ≡ None) × (new ≡ old ++ rescaled_input cs i ∷ [])
IsArgumentRescaled cs k i old new (Err (Misfit index)) = (index ≡ k) × IsTrue (is_some (input_misfit cs i))
IsArgumentRescaled cs k i old new (Err NoMemory) = Unit {0}

-- the arguments in other sizes, or the first that doesn't fit
abbrev pub AreArgumentsRescaled : List Frac → List InputTree → Result Inputs ArgumentStop → Type 0
AreArgumentsRescaled cs is (Ok js) =
    (misfit_among cs is ≡ None) × (map input_tree js.items.items ≡ map (rescaled_input cs) is)
AreArgumentsRescaled cs is (Err (Misfit index)) = misfit_among cs is ≡ Some index
AreArgumentsRescaled cs is (Err NoMemory) = Unit {0}

-- the sizes are above 0, and q is p in these sizes
pub record IsOther (cs : List Frac) (p q : ProgramTree) : Type 0 where
  pub positive : AreSizes cs
  pub rescaled : q ≡ rescaled_program cs p
  pub scaled : IsRescaled (sizes cs) p q

-- the program is formed, the sizes are above 0, the call has a type, and the budget is within its limit
pub record CanTwin (budget : ℕ) (cs : List Frac) (p : ProgramTree) (call : CallTree) : Type 0 where
  pub formed : IsFormed p
  pub positive : AreSizes cs
  pub typed : IsTypedCall p call
  pub small : budget ≤ 10000000

-- these are the arguments of the call in other sizes, and each fits
pub record AreFitInputs (cs : List Frac) (call : CallTree) (inputs : List InputTree) : Type 0 where
  pub rescaled : inputs ≡ rescaled_arguments cs call
  pub fit : misfit_among cs call.inputs ≡ None
