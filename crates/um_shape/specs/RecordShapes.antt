-- The shapes of a record's fields, and heights of shapes through the fields of records.
-- Source: this project's own; records with measure parameters are those of the F# specification.
-- A record's height is that of its tallest field and one more; nothing is kept here and no limit is looked at.
use Rattle.std.specs.Prelude.{ℕ, ◌+◌, max, List, [], ◌∷◌, map, slice_get, Option, Some, None}
use Rattle.um_tree.specs.TypeTree.{ShapeTree, bool_shape, num_shape, list_shape, record_shape}
use Rattle.um_tree.specs.ProgramTree.{RecordTree}
use Rattle.um_tree.specs.Typing.{field_types}
use Rattle.um_tree.specs.Shapes.{type_shape}

-- a record without the units of its fields
pub record RecordShape : Type 0 where
  pub fields : List ShapeTree
  pub height : ℕ

abbrev pub declared_height : Option RecordShape → ℕ
declared_height None = 1
declared_height (Some d) = d.height

-- the height of a shape over these records
abbrev pub shape_height : List RecordShape → ShapeTree → ℕ
shape_height records bool_shape = 1
shape_height records num_shape = 1
shape_height records (list_shape s) = shape_height records s + 1
shape_height records (record_shape r) = declared_height (slice_get records r)

abbrev pub tallest : List RecordShape → List ShapeTree → ℕ
tallest records [] = 0
tallest records (s ∷ ss) = max (shape_height records s) (tallest records ss)

-- a record whose fields name these earlier ones
abbrev pub declared_shape : List RecordShape → RecordTree → RecordShape
declared_shape earlier d = record {
  fields = map type_shape (field_types d);
  height = tallest earlier (map type_shape (field_types d)) + 1;
}
