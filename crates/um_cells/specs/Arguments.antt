-- On which values a function may be called.
-- Source: this project's own.
use Rattle.std.specs.Prelude.{◌≡◌, ℕ, List, map, slice_get, Some}
use Rattle.um_tree.specs.ValueTree.{ValueTree, values_in_order}
use Rattle.um_tree.specs.ProgramTree.{FunctionTree, ProgramTree}
use Rattle.um_tree.specs.Shapes.{note_shape}
use Rattle.um_tree.specs.InputType.{ValuesHave}

-- function f is declared, and the values have the shapes of its parameters, one by one
abbrev pub AreArgumentsOf : ProgramTree → ℕ → List ValueTree → Type 0
AreArgumentsOf p f vs =
    (g : FunctionTree) × (slice_get p.functions f ≡ Some g)
    × ValuesHave p.records (values_in_order vs) (map note_shape g.params)
