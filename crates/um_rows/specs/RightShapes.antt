-- Steps that stand for no wrong shape, and types that have a shape.
-- Source: this project's own; shapes are types without their units.
use Rattle.std.specs.Prelude.{◌≡◌, List, [], ◌∷◌, length}
use Rattle.um_tree.specs.TypeTree.{TypeTree, bool_type, num_type, list_type, record_type, ShapeTree, bool_shape}
use Rattle.um_tree.specs.TypeTree.{num_shape, list_shape, record_shape}
use Rattle.um_tree.specs.ProgramTree.{RecordTree}
use Rattle.um_tree.specs.Formed.{TakesUnits}
use Rattle.um_equal_types.specs.Steps.{Step, row_at, wrong_shape_at, type_at}

-- no step stands for a wrong shape
abbrev pub HaveRightShapes : List Step → Type 0
HaveRightShapes [] = Unit {0}
HaveRightShapes (row_at at u ∷ ss) = HaveRightShapes ss
HaveRightShapes (wrong_shape_at at ∷ ss) = ⊥
HaveRightShapes (type_at at t ∷ ss) = HaveRightShapes ss

module _ (records : List RecordTree) where
  -- the type has the shape, and as many units in each record as it takes
  abbrev pub IsOfShape : TypeTree → ShapeTree → Type 0
  IsOfShape bool_type bool_shape = Unit {0}
  IsOfShape (num_type u) num_shape = Unit {0}
  IsOfShape (list_type t) (list_shape s) = IsOfShape t s
  IsOfShape (record_type q us) (record_shape r) = (q ≡ r) × TakesUnits records r (length us)
  IsOfShape t s = ⊥

  -- type by type
  abbrev pub AreOfShapes : List TypeTree → List ShapeTree → Type 0
  AreOfShapes [] [] = Unit {0}
  AreOfShapes (t ∷ ts) (s ∷ ss) = IsOfShape t s × AreOfShapes ts ss
  AreOfShapes ts ss = ⊥
