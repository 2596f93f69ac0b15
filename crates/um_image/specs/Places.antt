-- Where bytes are refused: at the first item that cannot stand there, whatever image the items before it begin.
-- Source: this project's own form.
use Rattle.std.specs.Prelude.{◌≡◌, ◌<◌, ◌^◌, ℕ, All, List, [], ◌∷◌, ◌++◌, length, FitsSigned}
use Rattle.std.specs.Int.{w32}
use Rattle.um_tree.specs.TypeTree.{ShapeTree, bool_shape, num_shape, list_shape, record_shape}
use Rattle.um_tree.specs.ProgramTree.{FieldTree, RecordTree}
use Rattle.um_tree.specs.Shapes.{type_shape}
use Rattle.um_machine.specs.declared.op.Op.{Op}
use Rattle.um_machine.specs.declared.table.Operand.{Operand}
use Rattle.um_machine.specs.declared.table.Operand.TheVariants as operand
use Rattle.um_machine.specs.Table.{op_operands}
use Rattle.um_verify.specs.ImageTree.{ImageTree, HasForm, IsPlainType}
use Rattle.um_image.specs.Encoding.{Item, written, forbidden, spell, FunctionPart, ImageParts, parts_items, image_parts}
use Rattle.um_image.specs.declared.stop.DecodeStop.{DecodeStop}
use Rattle.um_image.specs.declared.stop.DecodeStop.TheVariants as stop

-- ---- what has items: each number fits its bytes. A shape that is too high has an item that is forbidden.

abbrev pub ShapeFits : ShapeTree → Type 0
ShapeFits bool_shape = Unit {0}
ShapeFits num_shape = Unit {0}
ShapeFits (list_shape s) = ShapeFits s
ShapeFits (record_shape r) = r < 2 ^ 32

pub record FieldFits (f : FieldTree) : Type 0 where
  pub name : length f.name < 2 ^ 32
  pub plain : IsPlainType f.type
  pub shape : ShapeFits (type_shape f.type)

pub record RecordFits (d : RecordTree) : Type 0 where
  pub name : length d.name < 2 ^ 32
  pub at : d.at ≡ 0
  pub units : d.units ≡ 0
  pub count : length d.fields < 2 ^ 32
  pub fields : All FieldFits d.fields

abbrev pub OperandFits : Operand → Type 0
OperandFits (operand.Num c) = Unit {0}
OperandFits (operand.Bool b) = Unit {0}
OperandFits (operand.Count n) = n < 2 ^ 32
OperandFits (operand.Record r) = r < 2 ^ 32
OperandFits (operand.Function f) = f < 2 ^ 32
OperandFits (operand.Power k) = FitsSigned w32 k

abbrev pub OpFits : Op → Type 0
OpFits i = All OperandFits (op_operands i)

pub record FunctionFits (f : FunctionPart) : Type 0 where
  pub name : length f.head.name < 2 ^ 32
  pub count : length f.head.params < 2 ^ 32
  pub params : All ShapeFits f.head.params
  pub result : ShapeFits f.head.result
  pub instructions : length f.ops < 2 ^ 32
  pub ops : All OpFits f.ops

pub record PartsFit (p : ImageParts) : Type 0 where
  pub count : length p.records < 2 ^ 32
  pub records : All RecordFits p.records
  pub functions_count : length p.functions < 2 ^ 32
  pub functions : All FunctionFits p.functions

-- ---- places

-- each of these items has bytes
abbrev pub IsWritten : List Item → Type 0
IsWritten [] = Unit {0}
IsWritten (written bytes ∷ items) = IsWritten items
IsWritten (forbidden ∷ items) = ⊥

-- some image's items begin with these
pub record BeginsImage (front : List Item) : Type 0 where
  pub parts : ImageParts
  pub fits : PartsFit parts
  pub others : List Item
  pub begins : parts_items parts ≡ front ++ others

-- At this place of the bytes: the items before it begin those of an image, no image's items go on with one that stands
-- here, and if they are all of an image's, bytes follow.
pub record IsBadAt (bytes : List ℕ) (at : ℕ) : Type 0 where
  pub front : List Item
  pub rest : List ℕ
  pub have_bytes : IsWritten front
  pub begins : BeginsImage front
  pub cut : bytes ≡ spell front ++ rest
  pub place : at ≡ length (spell front)
  pub none_goes_on : (item more : List ℕ) → BeginsImage (front ++ written item ∷ []) → rest ≡ item ++ more → ⊥
  pub bytes_behind : (p : ImageParts) → PartsFit p → parts_items p ≡ front → rest ≡ [] → ⊥

abbrev pub IsDecodeStop : List ℕ → DecodeStop → Type 0
IsDecodeStop bytes (stop.Bad at) = IsBadAt bytes at
IsDecodeStop bytes stop.NoMemory = Unit {0}

-- an image that can be written: it has the form, and each number in it fits its bytes
pub record IsWritable (image : ImageTree) : Type 0 where
  pub form : HasForm image
  pub numbers : PartsFit (image_parts image)
