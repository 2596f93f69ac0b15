-- When two outcomes are those of a program and of the rescaled one.
-- Source: Kennedy (1997).
use Rattle.std.specs.Prelude.{ℕ, List}
use Rattle.um_tree.specs.ProgramTree.{ProgramTree, Signature}
use Rattle.um_tree.specs.ValueTree.{ValueTree, OutcomeTree}
use Rattle.um_tree.specs.Typing.{Typing}
use Rattle.um_tree.specs.Formed.{IsFormed}
use Rattle.um_scaling.specs.Rescaling.{Rescaling}
use Rattle.um_scaling.specs.ScaledValues.{AllScaled, OutcomesScaled}
use Rattle.um_scaling.specs.RescaledProgram.{IsRescaled}
use Rattle.um_cells.specs.Arguments.{AreArgumentsOf}

-- where q is the formed program p rescaled, each typing of function f at whose parameter types ws are vs rescaled has a
-- result at which the second outcome is the first one rescaled, unless one of the two overflows
abbrev pub AreTwins :
    ProgramTree → ProgramTree → Rescaling → ℕ → List ValueTree → List ValueTree → OutcomeTree → OutcomeTree → Type 0
AreTwins p q r f vs ws o o' =
    IsFormed p → IsRescaled r p q → (g : Signature) → Typing p f g → AllScaled p.records r vs g.params ws →
    OutcomesScaled p.records r o g.result o'

-- the same of each two programs that are run, if the calls are allowed in them
abbrev pub EndAsTwins :
    (ProgramTree → Type 0) → (ProgramTree → Type 0) → Rescaling → ℕ → List ValueTree → List ValueTree → OutcomeTree →
    OutcomeTree → Type 0
EndAsTwins Runs Other r f vs ws o o' =
    (p q : ProgramTree) → Runs p → Other q → AreArgumentsOf p f vs → AreArgumentsOf q f ws → AreTwins p q r f vs ws o o'
