-- What a rescaled program and its calls come to. The definitions do not rest on this.
-- Source: Kennedy (1997), the scaling theorem; shapes and texts are this project's own.
use Rattle.std.specs.Prelude.{◌≡◌, ℕ, List, length, map, Some}
use Rattle.um_tree.specs.TypeTree.{TypeTree}
use Rattle.um_tree.specs.ValueTree.{ValueTree, InputTree, inputs_in_order, without_units, OutcomeTree, value_outcome}
use Rattle.um_tree.specs.ProgramTree.{ProgramTree}
use Rattle.um_tree.specs.Meaning.{outcome_of_call}
use Rattle.um_tree.specs.InputType.{IsTypeOfCall}
use Rattle.um_tree.specs.Formed.{IsFormed, AreFormedInputs}
use Rattle.um_shape.specs.FirstFault.{first_fault}
use Rattle.um_cells.specs.Arguments.{AreArgumentsOf}
use Rattle.um_scaling.specs.Rescaling.{Rescaling, ArePositive}
use Rattle.um_scaling.specs.ScaledValues.{OutcomesScaled}
use Rattle.um_scaling.specs.RescaledProgram.{IsRescaled}
use Rattle.um_scaling.specs.RescaledInput.{RescaledInputs}
use Rattle.um_scaling.specs.FreeNumbers.{IsFreeZero}
use Rattle.um_scale.specs.TwinRuns.{AreTwins}
use Rattle.um_scale.specs.RescaledText.{IsRescaledText}

-- ---- programs

-- a rescaled program has the first shape fault of the program: shapes do not look at numbers
abbrev pub RescaledKeepsFault : Type 0
RescaledKeepsFault = (p q : ProgramTree) (r : Rescaling) → IsRescaled r p q → first_fault q ≡ first_fault p

-- a text has its numbers in one way
abbrev pub RescaledTextsAreUnique : Type 0
RescaledTextsAreUnique =
    (bytes : List ℕ) (q : ProgramTree) (a b : List ℕ) → IsRescaledText bytes q a → IsRescaledText bytes q b → a ≡ b

-- ---- calls

-- the values of rescaled inputs are arguments of the function in the rescaled program
abbrev pub RescaledArguments : Type 0
RescaledArguments =
    (p q : ProgramTree) (r : Rescaling) (f : ℕ) (is js : List InputTree) → IsRescaled r p q →
    RescaledInputs r (inputs_in_order is) (inputs_in_order js) → AreArgumentsOf p f (map without_units is) →
    AreArgumentsOf q f (map without_units js)

-- twins of a call on inputs are scaled at the type of the call
abbrev pub TwinsAreScaled : Type 0
TwinsAreScaled =
    (p q : ProgramTree) (r : Rescaling) (f : ℕ) (is js : List InputTree) (t : TypeTree) (o o' : OutcomeTree) →
    IsFormed p → IsRescaled r p q → RescaledInputs r (inputs_in_order is) (inputs_in_order js) →
    IsTypeOfCall p f (inputs_in_order is) t → AreTwins p q r f (map without_units is) (map without_units js) o o' →
    OutcomesScaled p.records r o t o'

-- and both values are 0 wherever the call's type has a unit that isn't closed
abbrev pub TwinsHaveFreeZeros : Type 0
TwinsHaveFreeZeros =
    (p q : ProgramTree) (r : Rescaling) (f : ℕ) (is js : List InputTree) (t : TypeTree) (b : ℕ) (v w : ValueTree) →
    ArePositive r → IsFormed p → IsRescaled r p q → AreFormedInputs (length p.bases) (inputs_in_order is) →
    RescaledInputs r (inputs_in_order is) (inputs_in_order js) → IsTypeOfCall p f (inputs_in_order is) t →
    outcome_of_call p f (map without_units is) b ≡ Some (value_outcome v) →
    outcome_of_call q f (map without_units js) b ≡ Some (value_outcome w) →
    IsFreeZero p.records v t × IsFreeZero p.records w t
