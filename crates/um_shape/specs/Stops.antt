-- What the code's functions answer, against the first fault. This mirrors the code; the public answer is in
-- ShapedProgram.
-- Source: this project's own; want of memory may come in place of every answer.
use Rattle.std.specs.Prelude.{◌≡◌, List, Result, Ok, Err, MatchResult}
use Rattle.um_tree.specs.TypeTree.{ShapeTree}
use Rattle.um_shape.specs.declared.stop.ShapeStop.{ShapeStop}
use Rattle.um_shape.specs.declared.stop.ShapeStop.TheVariants as stop
use Rattle.um_shape.specs.declared.flat.FlatShape.{FlatShape}
use Rattle.um_shape.specs.FirstFault.{ShapeFault, wrong_shape, too_deep}
use Rattle.um_shape.specs.FlatShapes.{flat_shape}

-- the stop is the fault that was found
abbrev pub IsFoundFault : {A : Type 0} → Result A ShapeFault → ShapeStop → Type 0
IsFoundFault m (stop.Shape at) = m ≡ Err (wrong_shape at)
IsFoundFault m (stop.Depth at) = m ≡ Err (too_deep at)
IsFoundFault m stop.NoMemory = Unit {0}

-- the answer is the shape or the fault that was found
abbrev pub IsFound : Result FlatShape ShapeStop → Result ShapeTree ShapeFault → Type 0
IsFound r m = MatchResult r (λ s. m ≡ Ok (flat_shape s)) (IsFoundFault m)

abbrev pub AreFound :
    {A : Type 0} → (A → List ShapeTree) → Result A ShapeStop → Result (List ShapeTree) ShapeFault → Type 0
AreFound view r m = MatchResult r (λ ss. m ≡ Ok (view ss)) (IsFoundFault m)
