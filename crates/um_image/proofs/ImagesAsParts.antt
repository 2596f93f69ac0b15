-- An image function by function, and the image of its parts: each comes back from the other.
use Rattle.std.proofs.Common.{◌≡◌, refl, sym, subst, ap, ◌∙◌, ℕ, zero, suc, ◌+◌, ◌-◌, ◌≤◌, List, [], ◌∷◌, ◌++◌, length, map, take, drop, arith, append_assoc}
use Rattle.std.specs.List.{flat_map, AllByRecursion}
use Rattle.std.proofs.lemmas.List.{length-append, length-map, length-take, length-drop, take_at, drop_at, drop_all, drop-drop, take-append-drop}
use Rattle.std.proofs.lemmas.List.Elements.{All-from_recursion, recursion_from_All}
use Rattle.um_tree.specs.TypeTree.{ShapeTree, bool_shape, num_shape, list_shape, record_shape}
use Rattle.um_tree.specs.ProgramTree.{FieldTree, RecordTree}
use Rattle.um_tree.specs.Heights.{greatest_height}
use Rattle.um_tree.specs.Shapes.{type_shape}
use Rattle.um_shape.specs.RecordShapes.{shape_height}
use Rattle.um_machine.specs.declared.op.Op.{Op}
use Rattle.um_machine.specs.declared.table.Operand.{Operand}
use Rattle.um_machine.specs.declared.code.Entry.{Entry}
use Rattle.um_machine.specs.Table.{op_operands}
use Rattle.um_verify.specs.ImageTree.{HeadTree, ImageTree, IsPlainField, IsPlainRecord, IsPlainHead, IsLowText, Follow, Match, HasForm}
use Rattle.um_image.specs.Encoding.{Item, written, spell, four_bytes, shape_items, low_shape_items, field_items, record_items, counted_items, operand_item, op_items, FunctionPart, function_items, ImageParts, parts_items, own_ops, function_parts, image_parts}
use Rattle.um_image.specs.Places.{FieldFits, RecordFits, FunctionFits, PartsFit, IsWritten}
use Rattle.um_image.specs.FunctionsRead.{entries_from, image_of_parts}
use Rattle.um_image.proofs.Formats.{spell-append, both_written, left_written, right_written}
use Rattle.um_image.proofs.PartFormats.{head_items, function_line}
use Rattle.um_image.proofs.Spelled.{no_record, shape_up, type_heights}
use Rattle.um_image.proofs.Added.{follow_up}

-- ---- the parts of the image of some parts

abbrev heads_of : List FunctionPart → List HeadTree
heads_of fs = map (λ f. f.head) fs

abbrev pub ops_of : List FunctionPart → List Op
ops_of fs = flat_map (λ f. f.ops) fs

own_back : (before own rest : List Op) (e : Entry) → e.start ≡ length before → e.end ≡ length before + length own → own_ops (before ++ (own ++ rest)) e ≡ own
own_back before own rest e s t =
    let n : e.end - e.start ≡ length own = omega arith in
    (λ i. take (n i) (drop (s i) (before ++ (own ++ rest))))
    ∙ ap (λ (xs : List Op). take (length own) xs) (drop_at before (own ++ rest) (length before) refl)
    ∙ take_at own rest (length own) refl

functions_back : (before : List Op) (fs : List FunctionPart) → function_parts (heads_of fs) (before ++ ops_of fs) (entries_from (length before) fs) ≡ fs
functions_back before [] = refl
functions_back before (f ∷ fs) =
    let e : Entry = record { start = length before; end = length before + length f.ops; params = length f.head.params } in
    let own : own_ops (before ++ (f.ops ++ ops_of fs)) e ≡ f.ops = own_back before f.ops (ops_of fs) e refl refl in
    let next : function_parts (heads_of fs) ((before ++ f.ops) ++ ops_of fs) (entries_from (length (before ++ f.ops)) fs) ≡ fs = functions_back (before ++ f.ops) fs in
    let rest : function_parts (heads_of fs) (before ++ (f.ops ++ ops_of fs)) (entries_from (length before + length f.ops) fs) ≡ fs = (λ i. function_parts (heads_of fs) ((sym (append_assoc before f.ops (ops_of fs))) i) (entries_from ((sym (length-append before f.ops)) i) fs)) ∙ next in
    λ i. record { head = f.head; ops = own i } ∷ rest i

pub parts_back : (p : ImageParts) → image_parts (image_of_parts p) ≡ p
parts_back p = λ i. record { records = p.records; functions = functions_back [] p.functions i }

-- ---- the image of the parts of an image

heads_back : (hs : List HeadTree) (ops : List Op) (es : List Entry) → Match es hs → heads_of (function_parts hs ops es) ≡ hs
heads_back [] ops [] m = refl
heads_back [] ops (e ∷ es) m = absurd m
heads_back (h ∷ hs) ops [] m = absurd m
heads_back (h ∷ hs) ops (e ∷ es) m = ap (λ (xs : List HeadTree). h ∷ xs) (heads_back hs ops es m.1)

own_length : (ops : List Op) (e : Entry) → e.start ≤ e.end → e.end ≤ length ops → length (own_ops ops e) ≡ e.end - e.start
own_length ops e s t = omega (arith, length-take (e.end - e.start) (drop e.start ops), length-drop e.start ops)

ops_back : (a : ℕ) (hs : List HeadTree) (ops : List Op) (es : List Entry) → Match es hs → Follow a es (length ops) → ops_of (function_parts hs ops es) ≡ drop a ops
ops_back a [] ops [] m f = sym (drop_all a ops (let e : length ops ≤ a = omega arith in e))
ops_back a [] ops (e ∷ es) m f = absurd m
ops_back a (h ∷ hs) ops [] m f = absurd m
ops_back a (h ∷ hs) ops (e ∷ es) m f =
    let start = f.0 in
    let up = f.1 in
    let rest : ops_of (function_parts hs ops es) ≡ drop e.end ops = ops_back e.end hs ops es m.1 f.2 in
    let sum : a + (e.end - a) ≡ e.end = omega arith in
    let behind : drop e.end ops ≡ drop (e.end - a) (drop a ops) = ap (λ (n : ℕ). drop n ops) (sym sum) ∙ sym (drop-drop (e.end - a) a ops) in
    (λ i. take (e.end - start i) (drop (start i) ops) ++ (rest ∙ behind) i) ∙ take-append-drop (e.end - a) (drop a ops)

entries_back : (a : ℕ) (hs : List HeadTree) (ops : List Op) (es : List Entry) → Match es hs → Follow a es (length ops) → entries_from a (function_parts hs ops es) ≡ es
entries_back a [] ops [] m f = refl
entries_back a [] ops (e ∷ es) m f = absurd m
entries_back a (h ∷ hs) ops [] m f = absurd m
entries_back a (h ∷ hs) ops (e ∷ es) m f =
    let start = f.0 in
    let up = f.1 in
    let last = follow_up e.end (length ops) es f.2 in
    let len = own_length ops e (omega arith) last in
    let end : a + length (own_ops ops e) ≡ e.end = omega arith in
    let rest : entries_from (a + length (own_ops ops e)) (function_parts hs ops es) ≡ es = ap (λ (n : ℕ). entries_from n (function_parts hs ops es)) end ∙ entries_back e.end hs ops es m.1 f.2 in
    λ i. record { start = (sym start) i; end = end i; params = (sym m.0) i } ∷ rest i

pub image_back : (image : ImageTree) → HasForm image → image_of_parts (image_parts image) ≡ image
image_back image h = λ i. record {
  records = image.records;
  heads = heads_back image.heads image.code.ops image.code.entries h.entries i;
  code = record { ops = ops_back 0 image.heads image.code.ops image.code.entries h.entries h.follow i; entries = entries_back 0 image.heads image.code.ops image.code.entries h.entries h.follow i };
}

-- ---- what is written is low

low_of : (n : ℕ) (s : ShapeTree) → IsWritten (shape_items n s) → shape_height [] s ≤ n
low_of zero s w = absurd w
low_of (suc n) bool_shape w = omega arith
low_of (suc n) num_shape w = omega arith
low_of (suc n) (list_shape s) w = let l = low_of n s w in omega arith
low_of (suc n) (record_shape r) w = omega (arith, no_record r)

written_low : (n : ℕ) (s : ShapeTree) → shape_height [] s ≤ n → IsWritten (shape_items n s)
written_low zero s h = let up = shape_up s in absurd (omega arith)
written_low (suc n) bool_shape h = tt
written_low (suc n) num_shape h = tt
written_low (suc n) (list_shape s) h = written_low n s (omega arith)
written_low (suc n) (record_shape r) h = tt

many_from : {A : Type 0} (items : A → List Item) (F P : A → Type 0) → ((x : A) → F x → IsWritten (items x) → P x) → (xs : List A) → AllByRecursion F xs → IsWritten (flat_map items xs) → AllByRecursion P xs
many_from items F P h [] f w = tt
many_from items F P h (x ∷ xs) f w = (h x f.0 (left_written (items x) (flat_map items xs) w), many_from items F P h xs f.1 (right_written (items x) (flat_map items xs) w))

many_written : {A : Type 0} (items : A → List Item) (P : A → Type 0) → ((x : A) → P x → IsWritten (items x)) → (xs : List A) → AllByRecursion P xs → IsWritten (flat_map items xs)
many_written items P h [] p = tt
many_written items P h (x ∷ xs) p = both_written (items x) (flat_map items xs) (h x p.0) (many_written items P h xs p.1)

plain_field_from : (f : FieldTree) → FieldFits f → IsWritten (field_items f) → IsPlainField f
plain_field_from f h w = record {
  name = h.name;
  plain = h.plain;
  low = subst (λ (n : ℕ). n ≤ greatest_height) (type_heights f.type) (low_of greatest_height (type_shape f.type) w);
}

plain_record_from : (d : RecordTree) → RecordFits d → IsWritten (record_items d) → IsPlainRecord d
plain_record_from d h w = record {
  name = h.name;
  at = h.at;
  units = h.units;
  count = h.count;
  fields = All-from_recursion IsPlainField d.fields (many_from field_items FieldFits IsPlainField plain_field_from d.fields (recursion_from_All FieldFits d.fields h.fields) w);
}

plain_head_from : (f : FunctionPart) → FunctionFits f → IsWritten (function_items f) → IsPlainHead f.head
plain_head_from f h w =
    let shapes = flat_map low_shape_items f.head.params in
    let behind = low_shape_items f.head.result ++ counted_items op_items f.ops in
    record {
      name = h.name;
      count = h.count;
      params = All-from_recursion IsLowText f.head.params (many_from low_shape_items (λ s. Unit {0}) IsLowText (λ s u v. low_of greatest_height s v) f.head.params (units f.head.params) (left_written shapes behind w));
      result = low_of greatest_height f.head.result (left_written (low_shape_items f.head.result) (counted_items op_items f.ops) (right_written shapes behind w));
    }
  where
    units : (ss : List ShapeTree) → AllByRecursion (λ s. Unit {0}) ss
    units [] = tt
    units (s ∷ ss) = (tt, units ss)

heads_from : (fs : List FunctionPart) → AllByRecursion FunctionFits fs → IsWritten (flat_map function_items fs) → AllByRecursion IsPlainHead (heads_of fs)
heads_from [] f w = tt
heads_from (x ∷ fs) f w = (plain_head_from x f.0 (left_written (function_items x) (flat_map function_items fs) w), heads_from fs f.1 (right_written (function_items x) (flat_map function_items fs) w))

-- ---- each element takes a byte

spell_length : (a b : List Item) → length (spell (a ++ b)) ≡ length (spell a) + length (spell b)
spell_length a b = ap (λ (t : List ℕ). length t) (spell-append a b) ∙ length-append (spell a) (spell b)

pub many_length : {A : Type 0} (items : A → List Item) → ((x : A) → 1 ≤ length (spell (items x))) → (xs : List A) → length xs ≤ length (spell (flat_map items xs))
many_length items h [] = omega arith
many_length items h (x ∷ xs) =
    let sum = spell_length (items x) (flat_map items xs) in
    let first = h x in
    let rest = many_length items h xs in
    omega arith

pub op_length : (i : Op) → 1 ≤ length (spell (op_items i))
op_length i = omega arith

name_length : (name : List ℕ) (items : List Item) → 1 ≤ length (spell (written (four_bytes (length name)) ∷ items))
name_length name items = omega arith

ops_length : (fs : List FunctionPart) → length (ops_of fs) ≤ length (spell (flat_map function_items fs))
ops_length [] = omega arith
ops_length (f ∷ fs) =
    let sum = spell_length (function_items f) (flat_map function_items fs) in
    let own = spell_length (head_items f.head) (counted_items op_items f.ops) in
    let line : length (spell (function_items f)) ≡ length (spell (head_items f.head ++ counted_items op_items f.ops)) = ap (λ (is : List Item). length (spell is)) (function_line f) in
    let ops = many_length op_items op_length f.ops in
    let rest = ops_length fs in
    let both = length-append f.ops (ops_of fs) in
    let counted : length (spell (counted_items op_items f.ops)) ≡ 4 + length (spell (flat_map op_items f.ops)) = omega arith in
    omega arith

-- ---- the form of what is read

match_from : (a : ℕ) (fs : List FunctionPart) → Match (entries_from a fs) (heads_of fs)
match_from a [] = tt
match_from a (f ∷ fs) = (refl, match_from (a + length f.ops) fs)

follow_from : (a : ℕ) (fs : List FunctionPart) (z : ℕ) → z ≡ a + length (ops_of fs) → Follow a (entries_from a fs) z
follow_from a [] z e = omega arith
follow_from a (f ∷ fs) z e =
    let both = length-append f.ops (ops_of fs) in
    (refl, omega arith, follow_from (a + length f.ops) fs z (omega arith))

pub form_from : (p : ImageParts) → PartsFit p → IsWritten (parts_items p) → length (spell (parts_items p)) ≤ 16777216 → HasForm (image_of_parts p)
form_from p h w few =
    let records = flat_map record_items p.records in
    let functions = counted_items function_items p.functions in
    let sum = spell_length records functions in
    let records_few = many_length record_items (λ d. name_length d.name (written d.name ∷ counted_items field_items d.fields)) p.records in
    let functions_few = many_length function_items (λ f. name_length f.head.name (written f.head.name ∷ (counted_items low_shape_items f.head.params ++ (low_shape_items f.head.result ++ counted_items op_items f.ops)))) p.functions in
    let ops_few = ops_length p.functions in
    let heads_count = length-map p.functions (λ f. f.head) in
    let all : length (spell (parts_items p)) ≡ 8 + length (spell (records ++ functions)) = omega arith in
    let counted : length (spell functions) ≡ 4 + length (spell (flat_map function_items p.functions)) = omega arith in
    record {
      records = All-from_recursion IsPlainRecord p.records (many_from record_items RecordFits IsPlainRecord plain_record_from p.records (recursion_from_All RecordFits p.records h.records) (left_written records functions w));
      heads = All-from_recursion IsPlainHead (heads_of p.functions) (heads_from p.functions (recursion_from_All FunctionFits p.functions h.functions) (right_written records functions w));
      entries = match_from 0 p.functions;
      follow = follow_from 0 p.functions (length (ops_of p.functions)) (omega arith);
      addresses = omega arith;
      count = omega arith;
    }

pub records_few : (p : ImageParts) → length (spell (parts_items p)) ≤ 16777216 → length p.records ≤ 16777216
records_few p few =
    let records = flat_map record_items p.records in
    let functions = counted_items function_items p.functions in
    let sum = spell_length records functions in
    let each = many_length record_items (λ d. name_length d.name (written d.name ∷ counted_items field_items d.fields)) p.records in
    let all : length (spell (parts_items p)) ≡ 8 + length (spell (records ++ functions)) = omega arith in
    omega arith

-- ---- images that can be written

operands_written : (os : List Operand) → IsWritten (map operand_item os)
operands_written [] = tt
operands_written (o ∷ os) = operands_written os

written_record : (d : RecordTree) → IsPlainRecord d → IsWritten (record_items d)
written_record d h = many_written field_items IsPlainField (λ f g. written_low greatest_height (type_shape f.type) (subst (λ (n : ℕ). n ≤ greatest_height) (sym (type_heights f.type)) g.low)) d.fields (recursion_from_All IsPlainField d.fields h.fields)

written_ops : (is : List Op) → IsWritten (flat_map op_items is)
written_ops [] = tt
written_ops (i ∷ is) = both_written (map operand_item (op_operands i)) (flat_map op_items is) (operands_written (op_operands i)) (written_ops is)

written_function : (h : HeadTree) (ops : List Op) → IsPlainHead h → IsWritten (function_items (record { head = h; ops = ops }))
written_function h ops p =
    both_written (flat_map low_shape_items h.params) (low_shape_items h.result ++ counted_items op_items ops)
    (many_written low_shape_items IsLowText (λ s l. written_low greatest_height s l) h.params (recursion_from_All IsLowText h.params p.params))
    (both_written (low_shape_items h.result) (counted_items op_items ops) (written_low greatest_height h.result p.result) (written_ops ops))

written_functions : (hs : List HeadTree) (ops : List Op) (es : List Entry) → AllByRecursion IsPlainHead hs → IsWritten (flat_map function_items (function_parts hs ops es))
written_functions [] ops [] p = tt
written_functions [] ops (e ∷ es) p = tt
written_functions (h ∷ hs) ops [] p = tt
written_functions (h ∷ hs) ops (e ∷ es) p = both_written (function_items (record { head = h; ops = own_ops ops e })) (flat_map function_items (function_parts hs ops es)) (written_function h (own_ops ops e) p.0) (written_functions hs ops es p.1)

pub written_image : (image : ImageTree) → HasForm image → IsWritten (parts_items (image_parts image))
written_image image h =
    both_written (flat_map record_items image.records) (counted_items function_items (function_parts image.heads image.code.ops image.code.entries))
    (many_written record_items IsPlainRecord written_record image.records (recursion_from_All IsPlainRecord image.records h.records))
    (written_functions image.heads image.code.ops image.code.entries (recursion_from_All IsPlainHead image.heads h.heads))
