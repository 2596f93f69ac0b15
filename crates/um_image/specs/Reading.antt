-- Mirrors the code: how an image is read from bytes, item by item. It reads the bytes of an image as that image, and
-- refuses others where Places says.
-- Source: this project's own form.
use Rattle.std.specs.Prelude.{◌≡◌, ℤ, ℕ, zero, suc, ◌-◌, ◌==◌, if◌then◌else◌, nat_lt, Bool, true, false, cond, List, []}
use Rattle.std.specs.Prelude.{◌∷◌, ◌++◌, length, take, drop, codes, Option, Some, None, Result, Ok, Err}
use Rattle.std.specs.Str.{bytes_eq}
use Rattle.std.specs.Int.{w32, w64, cast_signed, from_be_bytes}
use Rattle.um_frac.specs.declared.number.Frac.{Frac}
use Rattle.um_frac.specs.Fraction.{fraction}
use Rattle.um_tree.specs.TypeTree.{TypeTree, ShapeTree, bool_shape}
use Rattle.um_tree.specs.TypeTree.{num_shape, list_shape, record_shape}
use Rattle.um_tree.specs.ProgramTree.{FieldTree, RecordTree}
use Rattle.um_tree.specs.Heights.{greatest_height}
use Rattle.um_machine.specs.declared.op.Op.{Op}
use Rattle.um_machine.specs.declared.op.Op.TheVariants.{PushNum, PushBool, Load, Add, Sub, Mul, Div, Neg, Not, Lt, Le}
use Rattle.um_machine.specs.declared.op.Op.TheVariants.{Eq, Jump, JumpIfNot, MakeList, Cons, Split, MakeRec, Field}
use Rattle.um_machine.specs.declared.op.Op.TheVariants.{Slide, Call, Ret, Pow}
use Rattle.um_verify.specs.ImageTree.{HeadTree}
use Rattle.um_image.specs.declared.stop.ReadStop.{ReadStop}
use Rattle.um_image.specs.declared.stop.ReadStop.TheVariants as read_stop
use Rattle.um_image.specs.declared.form.Form.{Form}
use Rattle.um_image.specs.declared.form.Form.TheVariants as form
use Rattle.um_image.specs.declared.form.Counted.{Counted}
use Rattle.um_image.specs.declared.form.Counted.TheVariants as counted
use Rattle.um_image.specs.Encoding.{FunctionPart, ImageParts}
use Rattle.um_image.specs.ProgramImage.{type_of_shape}

-- Reading gives a value and the bytes after it, or how many bytes are left from the first item on that is refused.
infixl 10 ◌>>=◌
abbrev pub ◌>>=◌ : {A B : Type 0} → Result A ℕ → (A → Result B ℕ) → Result B ℕ
(Ok x) >>= f = f x
(Err left) >>= f = Err left

-- what a function returned, seen by view, is what reading gives, unless memory ran out
abbrev pub Fails : {Y : Type 0} → ReadStop → Result Y ℕ → Type 0
Fails read_stop.NoMemory read = Unit {0}
Fails (read_stop.Bad left) read = read ≡ Err left

abbrev pub Gives : {X Y : Type 0} → (X → Y) → Result X ReadStop → Result Y ℕ → Type 0
Gives view (Ok x) read = read ≡ Ok (view x)
Gives view (Err e) read = Fails e read

-- ---- many

abbrev pub many_at : {A : Type 0} → (List ℕ → Result (A × List ℕ) ℕ) → ℕ → List ℕ → Result (List A × List ℕ) ℕ
many_at read zero bytes = Ok ([], bytes)
many_at read (suc n) bytes = read bytes >>= λ x. many_at read n x.1 >>= λ xs. Ok (x.0 ∷ xs.0, xs.1)

-- after those that were read before
abbrev pub with_front : {A : Type 0} → List A → Result (List A × List ℕ) ℕ → Result (List A × List ℕ) ℕ
with_front front read = read >>= λ x. Ok (front ++ x.0, x.1)

-- ---- items

-- one that these bytes in front of the rest stand for, or none
abbrev pub found_one : {A : Type 0} → Option A → List ℕ → List ℕ → Result (A × List ℕ) ℕ
found_one None bytes rest = Err (length bytes)
found_one (Some x) bytes rest = Ok (x, rest)

unfoldable pub number_at : List ℕ → Result (ℕ × List ℕ) ℕ
number_at bytes =
    if nat_lt (length bytes) 4 then Err (length bytes) else Ok (from_be_bytes w32 (take 4 bytes), drop 4 bytes)

unfoldable pub text_at : ℕ → List ℕ → Result (List ℕ × List ℕ) ℕ
text_at n bytes = if nat_lt (length bytes) n then Err (length bytes) else Ok (take n bytes, drop n bytes)

unfoldable pub letters_at : List ℕ → Result (List ℕ × List ℕ) ℕ
letters_at bytes =
    if nat_lt (length bytes) 4 then Err (length bytes) else
    (if bytes_eq (take 4 bytes) (codes "UMI1") then Ok (take 4 bytes, drop 4 bytes) else Err (length bytes))

unfoldable pub power_at : List ℕ → Result (ℤ × List ℕ) ℕ
power_at bytes =
    if nat_lt (length bytes) 4 then Err (length bytes)
    else Ok (cast_signed w32 (from_be_bytes w32 (take 4 bytes)), drop 4 bytes)

unfoldable pub truth_at : List ℕ → Result (Bool × List ℕ) ℕ
truth_at [] = Err 0
truth_at (zero ∷ rest) = Ok (false, rest)
truth_at (suc zero ∷ rest) = Ok (true, rest)
truth_at (suc (suc b) ∷ rest) = Err (suc (length rest))

abbrev pub long_of : List ℕ → ℤ
long_of bytes = cast_signed w64 (from_be_bytes w64 bytes)

abbrev pub fraction_of : List ℕ → Option Frac
fraction_of bytes = fraction (long_of (take 8 bytes)) (long_of (drop 8 bytes))

unfoldable pub fraction_at : List ℕ → Result (Frac × List ℕ) ℕ
fraction_at bytes =
    if nat_lt (length bytes) 16 then Err (length bytes)
    else found_one (fraction_of (take 16 bytes)) bytes (drop 16 bytes)

-- ---- names and shapes

unfoldable pub name_at : List ℕ → Result (List ℕ × List ℕ) ℕ
name_at bytes = number_at bytes >>= λ n. text_at n.0 n.1

-- a shape of at most n levels
unfoldable pub shape_at : ℕ → List ℕ → Result (ShapeTree × List ℕ) ℕ
shape_at n [] = Err 0
shape_at n (zero ∷ rest) = if n == 0 then Err (suc (length rest)) else Ok (bool_shape, rest)
shape_at n (suc zero ∷ rest) = if n == 0 then Err (suc (length rest)) else Ok (num_shape, rest)
shape_at n (suc (suc zero) ∷ rest) =
    if n == 0 then Err (suc (length rest)) else (shape_at (n - 1) rest >>= λ s. Ok (list_shape s.0, s.1))
shape_at n (suc (suc (suc zero)) ∷ rest) =
    if n == 0 then Err (suc (length rest)) else (number_at rest >>= λ r. Ok (record_shape r.0, r.1))
shape_at n (suc (suc (suc (suc b))) ∷ rest) = Err (suc (length rest))

unfoldable pub low_shape_at : List ℕ → Result (ShapeTree × List ℕ) ℕ
low_shape_at bytes = shape_at greatest_height bytes

-- ---- records

unfoldable pub type_at : List ℕ → Result (TypeTree × List ℕ) ℕ
type_at bytes = low_shape_at bytes >>= λ s. Ok (type_of_shape s.0, s.1)

unfoldable pub field_at : List ℕ → Result (FieldTree × List ℕ) ℕ
field_at bytes = name_at bytes >>= λ name. type_at name.1 >>= λ t. Ok (record { name = name.0; type = t.0 }, t.1)

unfoldable pub fields_at : List ℕ → Result (List FieldTree × List ℕ) ℕ
fields_at bytes = number_at bytes >>= λ n. many_at field_at n.0 n.1

unfoldable pub record_at : List ℕ → Result (RecordTree × List ℕ) ℕ
record_at bytes =
    name_at bytes >>= λ name. fields_at name.1 >>= λ fs.
    Ok (record { name = name.0; at = 0; units = 0; fields = fs.0 }, fs.1)

unfoldable pub records_at : List ℕ → Result (List RecordTree × List ℕ) ℕ
records_at bytes = number_at bytes >>= λ n. many_at record_at n.0 n.1

-- ---- instructions

abbrev pub found : {A : Type 0} → ℕ → List (ℕ × A) → Option A
found b [] = None
found b (x ∷ xs) = cond (b == x.0) (Some x.1) (found b xs)

-- what stands after the number of an instruction
abbrev pub forms : List (ℕ × Form)
forms =
    (0, form.Fraction) ∷ (1, form.Truth) ∷ (2, form.Number counted.Load) ∷ (3, form.Alone Add) ∷ (4, form.Alone Sub)
    ∷ (5, form.Alone Mul) ∷ (6, form.Alone Div) ∷ (7, form.Alone Neg) ∷ (8, form.Alone Not) ∷ (9, form.Alone Lt)
    ∷ (10, form.Alone Le) ∷ (11, form.Alone Eq) ∷ (12, form.Number counted.Jump) ∷ (13, form.Number counted.JumpIfNot)
    ∷ (14, form.Number counted.MakeList) ∷ (15, form.Alone Cons) ∷ (16, form.Number counted.Split)
    ∷ (17, form.Made) ∷ (18, form.Number counted.Field) ∷ (19, form.Number counted.Slide)
    ∷ (20, form.Number counted.Call) ∷ (21, form.Alone Ret) ∷ (22, form.Power) ∷ []

abbrev pub with_number : Counted → ℕ → Op
with_number counted.Load n = Load n
with_number counted.Jump n = Jump n
with_number counted.JumpIfNot n = JumpIfNot n
with_number counted.MakeList n = MakeList n
with_number counted.Split n = Split n
with_number counted.Field n = Field n
with_number counted.Slide n = Slide n
with_number counted.Call n = Call n

unfoldable pub operands_at : Form → List ℕ → Result (Op × List ℕ) ℕ
operands_at (form.Alone i) bytes = Ok (i, bytes)
operands_at (form.Number c) bytes = number_at bytes >>= λ n. Ok (with_number c n.0, n.1)
operands_at form.Fraction bytes = fraction_at bytes >>= λ c. Ok (PushNum c.0, c.1)
operands_at form.Truth bytes = truth_at bytes >>= λ b. Ok (PushBool b.0, b.1)
operands_at form.Made bytes = number_at bytes >>= λ r. number_at r.1 >>= λ n. Ok (MakeRec r.0 n.0, n.1)
operands_at form.Power bytes = power_at bytes >>= λ k. Ok (Pow k.0, k.1)

unfoldable pub form_at : List ℕ → Result (Form × List ℕ) ℕ
form_at [] = Err 0
form_at (b ∷ rest) = found_one (found b forms) (b ∷ rest) rest

unfoldable pub op_at : List ℕ → Result (Op × List ℕ) ℕ
op_at bytes = form_at bytes >>= λ f. operands_at f.0 f.1

unfoldable pub ops_at : List ℕ → Result (List Op × List ℕ) ℕ
ops_at bytes = number_at bytes >>= λ n. many_at op_at n.0 n.1

-- ---- functions

unfoldable pub shapes_at : List ℕ → Result (List ShapeTree × List ℕ) ℕ
shapes_at bytes = number_at bytes >>= λ n. many_at low_shape_at n.0 n.1

unfoldable pub head_at : List ℕ → Result (HeadTree × List ℕ) ℕ
head_at bytes =
    name_at bytes >>= λ name. shapes_at name.1 >>= λ params. low_shape_at params.1 >>= λ s.
    Ok (record { name = name.0; params = params.0; result = s.0 }, s.1)

unfoldable pub function_at : List ℕ → Result (FunctionPart × List ℕ) ℕ
function_at bytes = head_at bytes >>= λ h. ops_at h.1 >>= λ ops. Ok (record { head = h.0; ops = ops.0 }, ops.1)

unfoldable pub functions_at : List ℕ → Result (List FunctionPart × List ℕ) ℕ
functions_at bytes = number_at bytes >>= λ n. many_at function_at n.0 n.1

-- the same, if nothing follows
unfoldable pub last_functions_at : List ℕ → Result (List FunctionPart) ℕ
last_functions_at bytes = functions_at bytes >>= λ fs. if length fs.1 == 0 then Ok fs.0 else Err (length fs.1)

-- ---- the whole

unfoldable pub image_at : List ℕ → Result ImageParts ℕ
image_at bytes =
    letters_at bytes >>= λ letters. records_at letters.1 >>= λ rs. last_functions_at rs.1 >>= λ fs.
    Ok (record { records = rs.0; functions = fs })
