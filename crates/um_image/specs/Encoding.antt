-- The items of an image, and its bytes: those of its items, one after the other. A number stands with its most
-- significant byte first.
-- Source: this project's own form.
use Rattle.std.specs.Prelude.{ℤ, ℕ, zero, suc, ◌-◌, cond, List, [], ◌∷◌, ◌++◌, length, map, take, drop, codes}
use Rattle.std.specs.List.{flat_map}
use Rattle.std.specs.Int.{w32, w64, cast_unsigned, to_be_bytes}
use Rattle.um_frac.specs.Fraction.{numerator, denominator}
use Rattle.um_tree.specs.TypeTree.{ShapeTree, bool_shape, num_shape, list_shape, record_shape}
use Rattle.um_tree.specs.ProgramTree.{FieldTree, RecordTree}
use Rattle.um_tree.specs.Heights.{greatest_height}
use Rattle.um_tree.specs.Shapes.{type_shape}
use Rattle.um_machine.specs.declared.op.Op.{Op}
use Rattle.um_machine.specs.declared.op.Op.TheVariants.{PushNum, PushBool, Load, Add, Sub, Mul, Div, Neg, Not, Lt, Le}
use Rattle.um_machine.specs.declared.op.Op.TheVariants.{Eq, Jump, JumpIfNot, MakeList, Cons, Split, MakeRec, Field}
use Rattle.um_machine.specs.declared.op.Op.TheVariants.{Slide, Call, Ret, Pow}
use Rattle.um_machine.specs.declared.table.Operand.{Operand}
use Rattle.um_machine.specs.declared.table.Operand.TheVariants as operand
use Rattle.um_machine.specs.declared.code.Entry.{Entry}
use Rattle.um_machine.specs.Table.{op_operands}
use Rattle.um_verify.specs.ImageTree.{HeadTree, ImageTree}

-- what is read in one: its bytes, or what none stand for
pub data Item : Type 0 where
  written : List ℕ → Item
  forbidden : Item

abbrev pub spell : List Item → List ℕ
spell [] = []
spell (written bytes ∷ items) = bytes ++ spell items
spell (forbidden ∷ items) = spell items

-- a count, a length or a number of a record, in four bytes
abbrev pub four_bytes : ℕ → List ℕ
four_bytes n = to_be_bytes w32 n

-- a signed number in eight bytes
abbrev pub long_bytes : ℤ → List ℕ
long_bytes n = to_be_bytes w64 (cast_unsigned w64 n)

-- its length, and its bytes as they are
abbrev pub name_items : List ℕ → List Item
name_items name = written (four_bytes (length name)) ∷ written name ∷ []

-- a shape of at most n levels; none may stand after the last
abbrev pub shape_items : ℕ → ShapeTree → List Item
shape_items zero s = forbidden ∷ []
shape_items (suc n) bool_shape = written (0 ∷ []) ∷ []
shape_items (suc n) num_shape = written (1 ∷ []) ∷ []
shape_items (suc n) (list_shape s) = written (2 ∷ []) ∷ shape_items n s
shape_items (suc n) (record_shape r) = written (3 ∷ []) ∷ written (four_bytes r) ∷ []

abbrev pub low_shape_items : ShapeTree → List Item
low_shape_items s = shape_items greatest_height s

abbrev pub field_items : FieldTree → List Item
field_items f = name_items f.name ++ low_shape_items (type_shape f.type)

-- how many, and each of them
abbrev pub counted_items : {A : Type 0} → (A → List Item) → List A → List Item
counted_items items xs = written (four_bytes (length xs)) ∷ flat_map items xs

abbrev pub record_items : RecordTree → List Item
record_items d = name_items d.name ++ counted_items field_items d.fields

-- ---- instructions

-- an instruction's number is its place among all
abbrev pub op_number : Op → ℕ
op_number (PushNum c) = 0
op_number (PushBool b) = 1
op_number (Load k) = 2
op_number Add = 3
op_number Sub = 4
op_number Mul = 5
op_number Div = 6
op_number Neg = 7
op_number Not = 8
op_number Lt = 9
op_number Le = 10
op_number Eq = 11
op_number (Jump t) = 12
op_number (JumpIfNot t) = 13
op_number (MakeList n) = 14
op_number Cons = 15
op_number (Split t) = 16
op_number (MakeRec r n) = 17
op_number (Field k) = 18
op_number (Slide k) = 19
op_number (Call f) = 20
op_number Ret = 21
op_number (Pow k) = 22

-- a fraction is its numerator and its denominator
abbrev pub operand_bytes : Operand → List ℕ
operand_bytes (operand.Num c) = long_bytes (numerator c) ++ long_bytes (denominator c)
operand_bytes (operand.Bool b) = cond b 1 0 ∷ []
operand_bytes (operand.Count n) = four_bytes n
operand_bytes (operand.Record r) = four_bytes r
operand_bytes (operand.Function f) = four_bytes f
operand_bytes (operand.Power k) = to_be_bytes w32 (cast_unsigned w32 k)

abbrev pub operand_item : Operand → Item
operand_item o = written (operand_bytes o)

abbrev pub op_items : Op → List Item
op_items i = written (op_number i ∷ []) ∷ map operand_item (op_operands i)

-- ---- the whole

-- a function: its head and its instructions
pub record FunctionPart : Type 0 where
  pub head : HeadTree
  pub ops : List Op

abbrev pub function_items : FunctionPart → List Item
function_items f =
    name_items f.head.name ++ (counted_items low_shape_items f.head.params
    ++ (low_shape_items f.head.result ++ counted_items op_items f.ops))

-- an image function by function
pub record ImageParts : Type 0 where
  pub records : List RecordTree
  pub functions : List FunctionPart

abbrev pub parts_items : ImageParts → List Item
parts_items p =
    written (codes "UMI1") ∷ (counted_items record_items p.records ++ counted_items function_items p.functions)

-- the instructions of an entry
abbrev pub own_ops : List Op → Entry → List Op
own_ops ops e = take (e.end - e.start) (drop e.start ops)

abbrev pub function_parts : List HeadTree → List Op → List Entry → List FunctionPart
function_parts (h ∷ hs) ops (e ∷ es) = record { head = h; ops = own_ops ops e } ∷ function_parts hs ops es
function_parts hs ops es = []

abbrev pub image_parts : ImageTree → ImageParts
image_parts image = record {
  records = image.records;
  functions = function_parts image.heads image.code.ops image.code.entries;
}

abbrev pub image_bytes : ImageTree → List ℕ
image_bytes image = spell (parts_items (image_parts image))
