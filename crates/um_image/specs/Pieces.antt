-- Mirrors the code: the bytes of the parts of an image, as `encode` adds them.
-- Source: this project's own form.
use Rattle.std.specs.Prelude.{ℕ, List, [], ◌∷◌, ◌++◌, length, codes}
use Rattle.std.specs.List.{flat_map}
use Rattle.um_tree.specs.TypeTree.{ShapeTree, bool_shape, num_shape, list_shape, record_shape}
use Rattle.um_tree.specs.ProgramTree.{FieldTree, RecordTree}
use Rattle.um_tree.specs.Shapes.{type_shape}
use Rattle.um_machine.specs.declared.op.Op.{Op}
use Rattle.um_machine.specs.declared.code.Entry.{Entry}
use Rattle.um_machine.specs.Table.{op_operands}
use Rattle.um_verify.specs.ImageTree.{HeadTree, ImageTree}
use Rattle.um_image.specs.Encoding.{four_bytes, op_number, operand_bytes, own_ops}

-- its length, and its bytes as they are
abbrev pub name_bytes : List ℕ → List ℕ
name_bytes name = four_bytes (length name) ++ name

abbrev pub shape_bytes : ShapeTree → List ℕ
shape_bytes bool_shape = 0 ∷ []
shape_bytes num_shape = 1 ∷ []
shape_bytes (list_shape s) = 2 ∷ shape_bytes s
shape_bytes (record_shape r) = 3 ∷ four_bytes r

abbrev pub field_bytes : FieldTree → List ℕ
field_bytes f = name_bytes f.name ++ shape_bytes (type_shape f.type)

abbrev pub record_bytes : RecordTree → List ℕ
record_bytes d = name_bytes d.name ++ four_bytes (length d.fields) ++ flat_map field_bytes d.fields

abbrev pub op_bytes : Op → List ℕ
op_bytes i = op_number i ∷ flat_map operand_bytes (op_operands i)

abbrev pub function_bytes : HeadTree → List Op → List ℕ
function_bytes h ops =
    name_bytes h.name ++ four_bytes (length h.params) ++ flat_map shape_bytes h.params ++ shape_bytes h.result
    ++ four_bytes (length ops) ++ flat_map op_bytes ops

abbrev pub functions_bytes : List HeadTree → List Op → List Entry → List ℕ
functions_bytes (h ∷ hs) ops (e ∷ es) = function_bytes h (own_ops ops e) ++ functions_bytes hs ops es
functions_bytes hs ops es = []

-- the whole image
abbrev pub added_bytes : ImageTree → List ℕ
added_bytes image =
    codes "UMI1" ++ four_bytes (length image.records) ++ flat_map record_bytes image.records
    ++ four_bytes (length image.heads) ++ functions_bytes image.heads image.code.ops image.code.entries
