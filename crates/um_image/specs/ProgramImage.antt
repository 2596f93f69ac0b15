-- The image of a program: its records without units, what its functions take and give, and its code.
-- Source: this project's own.
use Rattle.std.specs.Prelude.{◌≡◌, ℕ, [], length, map, slice_get, Some}
use Rattle.um_units.specs.PowerMap.{one}
use Rattle.um_tree.specs.TypeTree.{TypeTree, bool_type, num_type, list_type, record_type, ShapeTree, bool_shape}
use Rattle.um_tree.specs.TypeTree.{num_shape, list_shape, record_shape}
use Rattle.um_tree.specs.ProgramTree.{FieldTree, RecordTree, FunctionTree, ProgramTree}
use Rattle.um_tree.specs.Shapes.{FunctionShape}
use Rattle.um_machine.specs.declared.code.Code.{Code}
use Rattle.um_verify.specs.ImageTree.{HeadTree, ImageTree}

-- each number of the type has unit 1, and records take no units
abbrev pub plain_type : TypeTree → TypeTree
plain_type bool_type = bool_type
plain_type (num_type u) = num_type one
plain_type (list_type t) = list_type (plain_type t)
plain_type (record_type r us) = record_type r []

abbrev pub plain_field : FieldTree → FieldTree
plain_field f = record { name = f.name; type = plain_type f.type }

abbrev pub plain_record : RecordTree → RecordTree
plain_record d = record { name = d.name; at = 0; units = 0; fields = map plain_field d.fields }

-- the type with this shape whose numbers have unit 1
abbrev pub type_of_shape : ShapeTree → TypeTree
type_of_shape bool_shape = bool_type
type_of_shape num_shape = num_type one
type_of_shape (list_shape s) = list_type (type_of_shape s)
type_of_shape (record_shape r) = record_type r []

-- the head has the name and the shapes of function i
pub record IsHeadOf (p : ProgramTree) (i : ℕ) (h : HeadTree) : Type 0 where
  pub function : FunctionTree
  pub listed : slice_get p.functions i ≡ Some function
  pub name : h.name ≡ function.name
  pub shapes : FunctionShape p i (record { params = h.params; result = h.result })

pub record IsImageOf (p : ProgramTree) (code : Code) (image : ImageTree) : Type 0 where
  pub records : image.records ≡ map plain_record p.records
  pub code_is : image.code ≡ code
  pub count : length image.heads ≡ length p.functions
  pub heads : (i : ℕ) (h : HeadTree) → slice_get image.heads i ≡ Some h → IsHeadOf p i h
