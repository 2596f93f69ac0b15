-- What the code's functions answer. This mirrors the code.
-- Source: this project's own; want of memory may come in place of every answer.
use Rattle.std.specs.Prelude.{◌≡◌, List, Result, Ok, Err, MatchResult}
use Rattle.um_tree.specs.TypeTree.{ShapeTree}
use Rattle.um_mismatch.specs.declared.flat.FlatShape.{FlatShape}
use Rattle.um_mismatch.specs.declared.mismatch.Stop.{Stop}
use Rattle.um_mismatch.specs.declared.mismatch.Stop.TheVariants as stop
use Rattle.um_mismatch.specs.Mismatch.{Told}
use Rattle.um_mismatch.specs.FlatShapes.{flat_shape, told_tree}

-- the stop is what is told
abbrev pub IsTold : {A : Type 0} → Result A Told → Stop → Type 0
IsTold m (stop.Told t) = m ≡ Err (told_tree t)
IsTold m stop.NoMemory = Unit {0}

-- the answer is the shape, or what is told
abbrev pub IsFound : Result FlatShape Stop → Result ShapeTree Told → Type 0
IsFound r m = MatchResult r (λ s. m ≡ Ok (flat_shape s)) (IsTold m)

abbrev pub AreFound : {A : Type 0} → (A → List ShapeTree) → Result A Stop → Result (List ShapeTree) Told → Type 0
AreFound view r m = MatchResult r (λ ss. m ≡ Ok (view ss)) (IsTold m)
