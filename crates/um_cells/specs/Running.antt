-- What a runner of programs is asked, and what it answers.
-- Source: this project's own.
use Rattle.std.specs.Prelude.{◌≡◌, ℕ, List, Some}
use Rattle.um_tree.specs.ValueTree.{ValueTree, OutcomeTree}
use Rattle.um_tree.specs.ProgramTree.{ProgramTree}
use Rattle.um_tree.specs.Meaning.{outcome_of_call}
use Rattle.um_cells.specs.Arguments.{AreArgumentsOf}

-- function f is declared in a program that is run, and the values have the shapes of its parameters
abbrev pub CanCall : (ProgramTree → Type 0) → ℕ → List ValueTree → Type 0
CanCall Runs f vs = (p : ProgramTree) × Runs p × AreArgumentsOf p f vs

-- the outcome of the call is that of its meaning, in each such program
abbrev pub EndsAsMeant : (ProgramTree → Type 0) → ℕ → List ValueTree → ℕ → OutcomeTree → Type 0
EndsAsMeant Runs f vs b o =
    (p : ProgramTree) → Runs p → AreArgumentsOf p f vs → outcome_of_call p f vs b ≡ Some o
