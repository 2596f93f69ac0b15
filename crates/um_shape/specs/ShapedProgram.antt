-- What a shaped program promises: the program that it holds has no fault, and the shapes that it gives are its
-- functions'.
-- Source: this project's own.
use Rattle.std.specs.Prelude.{◌≡◌, ◌<◌, ◌≤◌, ℕ, List, [], length, map, slice_get, Option, Some, Ok}
use Rattle.um_tree.specs.TypeTree.{ShapeTree}
use Rattle.um_tree.specs.ProgramTree.{FunctionTree, ProgramTree}
use Rattle.um_tree.specs.Shapes.{note_shape, FunctionShape}
use Rattle.um_tree.specs.Heights.{greatest_height}
use Rattle.um_shape.specs.declared.stop.ShapeStop.{ShapeStop}
use Rattle.um_shape.specs.declared.stop.ShapeStop.TheVariants as stop
use Rattle.um_shape.specs.FirstFault.{ShapeFault, wrong_shape, too_deep, records_found}
use Rattle.um_shape.specs.RecordShapes.{RecordShape, shape_height}

-- the refusal is the fault, with its place
abbrev pub IsRefusal : Option ShapeFault → ShapeStop → Type 0
IsRefusal o (stop.Shape at) = o ≡ Some (wrong_shape at)
IsRefusal o (stop.Depth at) = o ≡ Some (too_deep at)
IsRefusal o stop.NoMemory = Unit {0}

-- function i has a parameter of this number
abbrev pub HasParam : ProgramTree → ℕ → ℕ → Type 0
HasParam p i k = (f : FunctionTree) × (slice_get p.functions i ≡ Some f) × (k < length f.params)

-- the shape of this parameter of function i
abbrev pub IsParamShape : ProgramTree → ℕ → ℕ → ShapeTree → Type 0
IsParamShape p i k s =
    (f : FunctionTree) → slice_get p.functions i ≡ Some f → slice_get (map note_shape f.params) k ≡ Some s

-- the shapes of the parameters of function i, in order
abbrev pub AreParamShapes : ProgramTree → ℕ → List ShapeTree → Type 0
AreParamShapes p i ss = (f : FunctionTree) → slice_get p.functions i ≡ Some f → ss ≡ map note_shape f.params

-- function i has its parameters' shapes and this shape of its result
abbrev pub IsResultShape : ProgramTree → ℕ → ShapeTree → Type 0
IsResultShape p i s =
    (f : FunctionTree) → slice_get p.functions i ≡ Some f →
    FunctionShape p i (record { params = map note_shape f.params; result = s })

-- the shape is no taller than 400, through the fields of the program's records
abbrev pub IsLowShape : ProgramTree → ShapeTree → Type 0
IsLowShape p s =
    (records : List RecordShape) × (records_found [] p.records ≡ Ok records)
    × (shape_height records s ≤ greatest_height)
