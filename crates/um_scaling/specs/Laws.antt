-- What rescaling comes to. The definitions do not rest on this.
-- Source: Kennedy (1997), the scaling theorem: related arguments give related results. That a number at an open unit
-- is 0 is its use on a rescaling of one variable.
use Rattle.std.specs.Prelude.{◌≡◌, ℕ, List, length, ℤ, Some}
use Rattle.um_units.specs.PowerMap.{PowerMap, mul, pow}
use Rattle.um_tree.specs.TypeTree.{TypeTree}
use Rattle.um_tree.specs.ValueTree.{ValueTree, values_in_order, InputTrees, without_units_each, OutcomeTree}
use Rattle.um_tree.specs.ValueTree.{value_outcome}
use Rattle.um_tree.specs.ProgramTree.{RecordTree, ProgramTree, Signature}
use Rattle.um_tree.specs.Typing.{Typing}
use Rattle.um_tree.specs.Meaning.{outcome_of_call}
use Rattle.um_tree.specs.InputType.{InputsHave, IsResultOfCall, IsTypeOfCall}
use Rattle.um_tree.specs.Formed.{IsFormed, AreFormedInputs}
use Rattle.um_scaling.specs.Rescaling.{Rescaling, ArePositive, SameFactor, times, to_power, factor}
use Rattle.um_scaling.specs.ScaledValues.{AllScaled, OutcomesScaled}
use Rattle.um_scaling.specs.RescaledProgram.{IsRescaled}
use Rattle.um_scaling.specs.RescaledInput.{RescaledInputs}
use Rattle.um_scaling.specs.FreeNumbers.{IsFreeZero}

-- ---- factors

-- the factor of a product is the product of the factors
abbrev pub FactorsAreProducts : Type 0
FactorsAreProducts =
    (r : Rescaling) (u v : PowerMap) → ArePositive r → SameFactor (factor r (mul u v)) (times (factor r u) (factor r v))

-- and that of a power is the power
abbrev pub FactorsArePowers : Type 0
FactorsArePowers =
    (r : Rescaling) (u : PowerMap) (k : ℤ) → ArePositive r →
    SameFactor (factor r (pow u k)) (to_power (factor r u) k)

-- ---- scaling

-- For each formed program, each function and each typing of it, each positive rescaling of all base units and
-- variables, the program rescaled, arguments of which the second are the first ones rescaled at the typing's
-- parameter types, and each budget: the second outcome is the first one rescaled at the typing's result, unless one
-- of them overflows.
abbrev pub ScalingLaw : Type 0
ScalingLaw =
    (p q : ProgramTree) (r : Rescaling) (f : ℕ) (g : Signature) (vs ws : List ValueTree) (b : ℕ) (o o' : OutcomeTree) →
    IsFormed p → ArePositive r → IsRescaled r p q → Typing p f g → AllScaled p.records r vs g.params ws →
    outcome_of_call p f vs b ≡ Some o → outcome_of_call q f ws b ≡ Some o' →
    OutcomesScaled p.records r o g.result o'

-- a formed program that is rescaled is formed
abbrev pub RescaledIsFormed : Type 0
RescaledIsFormed = (p q : ProgramTree) (r : Rescaling) → IsRescaled r p q → IsFormed p → IsFormed q

-- the values of inputs that are rescaled are rescaled, at all types at which the inputs stand
abbrev pub RescaledInputsAreScaled : Type 0
RescaledInputsAreScaled =
    (records : List RecordTree) (r : Rescaling) (is js : InputTrees) (ts : List TypeTree) (vs ws : List ValueTree) →
    RescaledInputs r is js → InputsHave records is ts → values_in_order vs ≡ without_units_each is →
    values_in_order ws ≡ without_units_each js → AllScaled records r vs ts ws

-- ---- free zeros

-- a value that a call gives on the values of inputs is 0 wherever the call's result has a unit that isn't closed
abbrev pub FreeZeros : Type 0
FreeZeros =
    (p : ProgramTree) (f : ℕ) (inputs : InputTrees) (vs : List ValueTree) (t : TypeTree) (b : ℕ) (v : ValueTree) →
    IsFormed p → AreFormedInputs (length p.bases) inputs → values_in_order vs ≡ without_units_each inputs →
    IsResultOfCall p f inputs t → outcome_of_call p f vs b ≡ Some (value_outcome v) → IsFreeZero p.records v t

-- so it is at the type of the call
abbrev pub FreeZerosOfCalls : Type 0
FreeZerosOfCalls =
    (p : ProgramTree) (f : ℕ) (inputs : InputTrees) (vs : List ValueTree) (t : TypeTree) (b : ℕ) (v : ValueTree) →
    IsFormed p → AreFormedInputs (length p.bases) inputs → values_in_order vs ≡ without_units_each inputs →
    IsTypeOfCall p f inputs t → outcome_of_call p f vs b ≡ Some (value_outcome v) → IsFreeZero p.records v t
