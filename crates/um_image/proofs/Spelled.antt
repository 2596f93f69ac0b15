-- The bytes that `encode` adds are those of the image's items.
use Rattle.std.proofs.Common.{◌≡◌, refl, sym, subst, ap, ◌∙◌, ℕ, zero, suc, ◌+◌, ◌≤◌, List, [], ◌∷◌, ◌++◌, length, map, slice_get, arith, append_assoc, codes}
use Rattle.std.specs.List.{flat_map, AllByRecursion}
use Rattle.std.proofs.lemmas.List.Elements.{recursion_from_All}
use Rattle.um_tree.specs.TypeTree.{TypeTree, bool_type, num_type, list_type, record_type, ShapeTree, bool_shape, num_shape, list_shape, record_shape}
use Rattle.um_tree.specs.ProgramTree.{FieldTree, RecordTree}
use Rattle.um_tree.specs.Heights.{greatest_height}
use Rattle.um_tree.specs.TreeHeights.{type_tree_height}
use Rattle.um_tree.specs.Shapes.{type_shape}
use Rattle.um_shape.specs.RecordShapes.{shape_height, declared_height}
use Rattle.um_machine.specs.declared.op.Op.{Op}
use Rattle.um_machine.specs.declared.table.Operand.{Operand}
use Rattle.um_machine.specs.declared.code.Entry.{Entry}
use Rattle.um_machine.specs.Table.{op_operands}
use Rattle.um_verify.specs.ImageTree.{HeadTree, ImageTree, IsPlainField, IsPlainRecord, IsPlainHead, IsLowText, HasForm}
use Rattle.um_image.specs.Encoding.{Item, written, spell, four_bytes, shape_items, low_shape_items, field_items, record_items, op_number, operand_bytes, operand_item, op_items, function_items, function_parts, own_ops, image_bytes}
use Rattle.um_image.specs.Pieces.{shape_bytes, field_bytes, record_bytes, op_bytes, function_bytes, functions_bytes, added_bytes}
use Rattle.um_image.proofs.Formats.{spell-append}
use Rattle.um_image.proofs.Added.{match_lengths}

-- ---- heights of shapes over no records

pub no_record : (r : ℕ) → declared_height (slice_get [] r) ≡ 1
no_record zero = refl
no_record (suc r) = refl

pub shape_up : (s : ShapeTree) → 1 ≤ shape_height [] s
shape_up bool_shape = omega arith
shape_up num_shape = omega arith
shape_up (list_shape s) = omega arith
shape_up (record_shape r) = omega (arith, no_record r)

pub type_heights : (t : TypeTree) → shape_height [] (type_shape t) ≡ type_tree_height t
type_heights bool_type = refl
type_heights (num_type u) = refl
type_heights (list_type t) = ap (λ (n : ℕ). n + 1) (type_heights t)
type_heights (record_type r us) = no_record r

-- ---- each part

pub spelled_shape : (n : ℕ) (s : ShapeTree) → shape_height [] s ≤ n → spell (shape_items n s) ≡ shape_bytes s
spelled_shape zero s h = let up = shape_up s in absurd (omega arith)
spelled_shape (suc n) bool_shape h = refl
spelled_shape (suc n) num_shape h = refl
spelled_shape (suc n) (list_shape s) h = ap (λ (t : List ℕ). 2 ∷ t) (spelled_shape n s (omega arith))
spelled_shape (suc n) (record_shape r) h = refl

spelled_many : {A : Type 0} (items : A → List Item) (bytes : A → List ℕ) (P : A → Type 0) → ((x : A) → P x → spell (items x) ≡ bytes x) → (xs : List A) → AllByRecursion P xs → spell (flat_map items xs) ≡ flat_map bytes xs
spelled_many items bytes P h [] p = refl
spelled_many items bytes P h (x ∷ xs) p =
    spell-append (items x) (flat_map items xs) ∙ (λ i. h x p.0 i ++ spelled_many items bytes P h xs p.1 i)

spelled_low : (s : ShapeTree) → IsLowText s → spell (low_shape_items s) ≡ shape_bytes s
spelled_low s h = spelled_shape greatest_height s h

spelled_field : (f : FieldTree) → IsPlainField f → spell (field_items f) ≡ field_bytes f
spelled_field f h =
    let low : IsLowText (type_shape f.type) = subst (λ (n : ℕ). n ≤ greatest_height) (sym (type_heights f.type)) h.low in
    ap (λ (t : List ℕ). four_bytes (length f.name) ++ (f.name ++ t)) (spelled_low (type_shape f.type) low)

spelled_record : (d : RecordTree) → IsPlainRecord d → spell (record_items d) ≡ record_bytes d
spelled_record d h =
    ap (λ (t : List ℕ). four_bytes (length d.name) ++ (d.name ++ (four_bytes (length d.fields) ++ t))) (spelled_many field_items field_bytes IsPlainField spelled_field d.fields (recursion_from_All IsPlainField d.fields h.fields))
    ∙ ap (λ (t : List ℕ). four_bytes (length d.name) ++ t) (sym (append_assoc d.name (four_bytes (length d.fields)) (flat_map field_bytes d.fields)))

spelled_operands : (os : List Operand) → spell (map operand_item os) ≡ flat_map operand_bytes os
spelled_operands [] = refl
spelled_operands (o ∷ os) = ap (λ (t : List ℕ). operand_bytes o ++ t) (spelled_operands os)

spelled_op : (i : Op) → spell (op_items i) ≡ op_bytes i
spelled_op i = ap (λ (t : List ℕ). op_number i ∷ t) (spelled_operands (op_operands i))

spelled_ops : (is : List Op) → spell (flat_map op_items is) ≡ flat_map op_bytes is
spelled_ops [] = refl
spelled_ops (i ∷ is) = spell-append (op_items i) (flat_map op_items is) ∙ (λ j. spelled_op i j ++ spelled_ops is j)

regroup : (a b c d e f : List ℕ) → a ++ (b ++ (c ++ (d ++ (e ++ f)))) ≡ ((((a ++ b) ++ c) ++ d) ++ e) ++ f
regroup a b c d e f =
    sym (append_assoc (((a ++ b) ++ c) ++ d) e f ∙ append_assoc ((a ++ b) ++ c) d (e ++ f) ∙ append_assoc (a ++ b) c (d ++ (e ++ f)) ∙ append_assoc a b (c ++ (d ++ (e ++ f))))

spelled_function : (h : HeadTree) (ops : List Op) → IsPlainHead h → spell (function_items (record { head = h; ops = ops })) ≡ function_bytes h ops
spelled_function h ops p =
    let n = four_bytes (length h.params) in
    let m = four_bytes (length ops) in
    let rest = written m ∷ flat_map op_items ops in
    let shapes : spell (flat_map low_shape_items h.params) ≡ flat_map shape_bytes h.params = spelled_many low_shape_items shape_bytes IsLowText spelled_low h.params (recursion_from_All IsLowText h.params p.params) in
    let last : spell rest ≡ m ++ flat_map op_bytes ops = ap (λ (t : List ℕ). m ++ t) (spelled_ops ops) in
    let tail : spell (low_shape_items h.result ++ rest) ≡ shape_bytes h.result ++ (m ++ flat_map op_bytes ops) = spell-append (low_shape_items h.result) rest ∙ (λ i. spelled_low h.result p.result i ++ last i) in
    let middle : spell (flat_map low_shape_items h.params ++ (low_shape_items h.result ++ rest)) ≡ flat_map shape_bytes h.params ++ (shape_bytes h.result ++ (m ++ flat_map op_bytes ops)) = spell-append (flat_map low_shape_items h.params) (low_shape_items h.result ++ rest) ∙ (λ i. shapes i ++ tail i) in
    ap (λ (t : List ℕ). four_bytes (length h.name) ++ (h.name ++ (n ++ t))) middle
    ∙ ap (λ (t : List ℕ). four_bytes (length h.name) ++ t) (regroup h.name n (flat_map shape_bytes h.params) (shape_bytes h.result) m (flat_map op_bytes ops))

spelled_functions : (hs : List HeadTree) (ops : List Op) (es : List Entry) → AllByRecursion IsPlainHead hs → spell (flat_map function_items (function_parts hs ops es)) ≡ functions_bytes hs ops es
spelled_functions [] ops [] p = refl
spelled_functions [] ops (e ∷ es) p = refl
spelled_functions (h ∷ hs) ops [] p = refl
spelled_functions (h ∷ hs) ops (e ∷ es) p =
    spell-append (function_items (record { head = h; ops = own_ops ops e })) (flat_map function_items (function_parts hs ops es))
    ∙ (λ i. spelled_function h (own_ops ops e) p.0 i ++ spelled_functions hs ops es p.1 i)

pub parts_length : (hs : List HeadTree) (ops : List Op) (es : List Entry) → length es ≡ length hs → length (function_parts hs ops es) ≡ length hs
parts_length [] ops [] e = refl
parts_length [] ops (x ∷ es) e = refl
parts_length (h ∷ hs) ops [] e = absurd cc
parts_length (h ∷ hs) ops (x ∷ es) e = let l : length es ≡ length hs = cc in ap suc (parts_length hs ops es l)

pub spelled_image : (image : ImageTree) → HasForm image → added_bytes image ≡ image_bytes image
spelled_image image h =
    let fs = function_parts image.heads image.code.ops image.code.entries in
    let n = four_bytes (length image.records) in
    let records : spell (flat_map record_items image.records) ≡ flat_map record_bytes image.records = spelled_many record_items record_bytes IsPlainRecord spelled_record image.records (recursion_from_All IsPlainRecord image.records h.records) in
    let functions : spell (flat_map function_items fs) ≡ functions_bytes image.heads image.code.ops image.code.entries = spelled_functions image.heads image.code.ops image.code.entries (recursion_from_All IsPlainHead image.heads h.heads) in
    let count : length fs ≡ length image.heads = parts_length image.heads image.code.ops image.code.entries (match_lengths image.code.entries image.heads h.entries) in
    let behind : spell (written (four_bytes (length fs)) ∷ flat_map function_items fs) ≡ four_bytes (length image.heads) ++ functions_bytes image.heads image.code.ops image.code.entries = (λ i. four_bytes (count i) ++ functions i) in
    let all : spell (flat_map record_items image.records ++ (written (four_bytes (length fs)) ∷ flat_map function_items fs)) ≡ flat_map record_bytes image.records ++ (four_bytes (length image.heads) ++ functions_bytes image.heads image.code.ops image.code.entries) = spell-append (flat_map record_items image.records) (written (four_bytes (length fs)) ∷ flat_map function_items fs) ∙ (λ i. records i ++ behind i) in
    sym (ap (λ (t : List ℕ). codes "UMI1" ++ (n ++ t)) all
    ∙ ap (λ (t : List ℕ). (codes "UMI1" ++ n) ++ t) (sym (append_assoc (flat_map record_bytes image.records) (four_bytes (length image.heads)) (functions_bytes image.heads image.code.ops image.code.entries))))
