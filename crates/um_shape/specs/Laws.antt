-- What shapes come to, for the crates above.
-- Source: this project's own.
use Rattle.std.specs.Prelude.{◌≡◌, ℕ, IsSome, List, Some, None}
use Rattle.um_tree.specs.ValueTree.{ValueTree, values_in_order}
use Rattle.um_tree.specs.ProgramTree.{ProgramTree}
use Rattle.um_tree.specs.Meaning.{gives, Outcome, outcome_of_call}
use Rattle.um_tree.specs.Shapes.{ShapeSignature, FunctionShape, IsShaped}
use Rattle.um_tree.specs.InputType.{ValuesHave, ValueHas}
use Rattle.um_shape.specs.FirstFault.{wrong_shape, first_fault}

-- a call of a function at values of its parameters' shapes claims something: a value, a trap or the budget's end
abbrev pub CallsAreNeverWrong : Type 0
CallsAreNeverWrong =
    (p : ProgramTree) (i : ℕ) (g : ShapeSignature) (vs : List ValueTree) (b : ℕ) →
    FunctionShape p i g →
    ValuesHave p.records (values_in_order vs) g.params →
    IsSome (outcome_of_call p i vs b)

-- and its value has the result's shape
abbrev pub ValuesHaveResultShape : Type 0
ValuesHaveResultShape =
    (p : ProgramTree) (i : ℕ) (g : ShapeSignature) (vs : List ValueTree) (b : ℕ) (v : ValueTree) (rest : ℕ) →
    FunctionShape p i g →
    ValuesHave p.records (values_in_order vs) g.params →
    Outcome p.functions i vs b ≡ gives v rest →
    ValueHas p.records v g.result

-- each function of a program without a fault has its shapes, and so each node of its body
abbrev pub FaultlessIsShaped : Type 0
FaultlessIsShaped = (p : ProgramTree) → first_fault p ≡ None → IsShaped p

-- a function has its shapes in one way alone
abbrev pub ShapesAreUnique : Type 0
ShapesAreUnique = (p : ProgramTree) (i : ℕ) (g h : ShapeSignature) → FunctionShape p i g → FunctionShape p i h → g ≡ h

-- a program that is refused for a shape has none
abbrev pub RefusedHasNoShapes : Type 0
RefusedHasNoShapes = (p : ProgramTree) (at : ℕ) → first_fault p ≡ Some (wrong_shape at) → IsShaped p → ⊥
