-- What the code of a program comes to.
-- Source: this project's own.
use Rattle.std.specs.Prelude.{◌≡◌, ℕ, List, Some}
use Rattle.um_tree.specs.ValueTree.{ValueTree, values_in_order, OutcomeTree}
use Rattle.um_tree.specs.ProgramTree.{ProgramTree}
use Rattle.um_tree.specs.Meaning.{outcome_of_call}
use Rattle.um_tree.specs.Shapes.{ShapeSignature, FunctionShape}
use Rattle.um_tree.specs.InputType.{ValuesHave}
use Rattle.um_machine.specs.Machine.{EndsWith}
use Rattle.um_gen.specs.ProgramCode.{program_code}

-- If a function has its shapes, a call on values of its parameters' shapes has an outcome at each budget, and the
-- run of the code ends with it, after some number of steps; fewer steps are never stuck.
abbrev pub CodeEndsAsMeant : Type 0
CodeEndsAsMeant =
    (p : ProgramTree) (i : ℕ) (g : ShapeSignature) (vs : List ValueTree) (b : ℕ) →
    FunctionShape p i g →
    ValuesHave p.records (values_in_order vs) g.params →
    (o : OutcomeTree) × (outcome_of_call p i vs b ≡ Some o) × EndsWith (program_code p.functions) i vs b o

-- Whatever the shapes are: if a call has an outcome, the run of the code ends with it.
abbrev pub OutcomesAreReached : Type 0
OutcomesAreReached =
    (p : ProgramTree) (i : ℕ) (vs : List ValueTree) (b : ℕ) (o : OutcomeTree) →
    outcome_of_call p i vs b ≡ Some o → EndsWith (program_code p.functions) i vs b o
