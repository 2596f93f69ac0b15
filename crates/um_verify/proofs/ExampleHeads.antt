-- Heads that hold, and heads that break their rules, each in a way of its own.
use Rattle.std.proofs.Common.{◌≡◌, refl, sym, ap, subst, ◌∙◌, ℕ, zero, suc, ◌+◌, ◌<◌, ◌≤◌, List, [], ◌∷◌, length, get_or, Some, slice_get, arith}
use Rattle.std.specs.Prelude.{codes}
use Rattle.std.proofs.lemmas.Str.{encodes_same}
use Rattle.std.proofs.lemmas.List.Elements.{All-nil, All-cons}
use Rattle.um_units.specs.PowerMap.{one}
use Rattle.um_tree.specs.TypeTree.{TypeTree, num_type, list_type, record_type, ShapeTree, num_shape, record_shape}
use Rattle.um_tree.specs.ProgramTree.{FieldTree, RecordTree}
use Rattle.um_tree.specs.Shapes.{type_shape}
use Rattle.um_tree.specs.Heights.{greatest_height}
use Rattle.um_tree.specs.Formed.{IsIdentifier, IsNameBytes, AreDistinct, NamesEarlier}
use Rattle.um_shape.specs.RecordShapes.{RecordShape, shape_height}
use Rattle.um_machine.specs.declared.code.Entry.{Entry}
use Rattle.um_machine.specs.declared.op.Op.TheVariants.{Ret}
use Rattle.um_verify.specs.ImageTree.{HeadTree, ImageTree}
use Rattle.um_verify.specs.Heads.{record_shapes, RecordHolds, FunctionHolds, HeadHolds}

-- ---- names

-- the empty text is no name
no_text : IsNameBytes [] → ⊥
no_text w = subst IsIdentifier (encodes_same w.text [] (sym w.is)) w.identifier

none_there : {P : Type 0} (i : ℕ) (z : List ℕ) → slice_get [] i ≡ Some z → P
none_there zero z e = absurd cc
none_there (suc i) z e = absurd cc

two_names : (x y : List ℕ) → (x ≡ y → ⊥) → AreDistinct (x ∷ y ∷ [])
two_names x y n zero zero z e f = refl
two_names x y n zero (suc zero) z e f = let s : x ≡ z = cc e in let t : y ≡ z = cc f in absurd (n (s ∙ sym t))
two_names x y n zero (suc (suc j)) z e f = none_there j z f
two_names x y n (suc zero) zero z e f = let s : y ≡ z = cc e in let t : x ≡ z = cc f in absurd (n (t ∙ sym s))
two_names x y n (suc zero) (suc zero) z e f = refl
two_names x y n (suc zero) (suc (suc j)) z e f = none_there j z f
two_names x y n (suc (suc i)) j z e f = none_there i z e

other_letter : (c d : ℕ) → (c ≡ d → ⊥) → c ∷ [] ≡ d ∷ [] → ⊥
other_letter c d n e = n (ap (λ (xs : List ℕ). get_or xs 0 0) e)

a_is_not_y : codes "a" ≡ codes "y" → ⊥
a_is_not_y = other_letter 97 121 (λ e. absurd (omega (arith, e)))

x_is_not_y : codes "x" ≡ codes "y" → ⊥
x_is_not_y = other_letter 120 121 (λ e. absurd (omega (arith, e)))

-- ---- records

abbrev number : TypeTree
number = num_type one

abbrev field : List ℕ → TypeTree → FieldTree
field name t = record { name = name; type = t }

abbrev of_fields : List ℕ → List FieldTree → RecordTree
of_fields name fs = record { name = name; at = 0; units = 0; fields = fs }

abbrev with_one : List ℕ → List ℕ → TypeTree → RecordTree
with_one name f t = of_fields name (field f t ∷ [])

abbrev first : RecordTree
first = with_one (codes "a") (codes "x") number

abbrev second : RecordTree
second = with_one (codes "y") (codes "y") (list_type (record_type 0 []))

abbrev Named : FieldTree → Type 0
Named f = IsNameBytes f.name

abbrev Earlier : FieldTree → Type 0
Earlier f = NamesEarlier 1 f.type

abbrev Low : FieldTree → Type 0
Low f = shape_height (record_shapes (first ∷ [])) (type_shape f.type) ≤ greatest_height

-- a record may name an earlier one, and it and a field of it may have one name
record_holds : IsNameBytes (codes "y") → RecordHolds (first ∷ second ∷ []) 1 second
record_holds named = record {
  name = named;
  once = two_names (codes "a") (codes "y") a_is_not_y;
  some_field = omega arith;
  few_fields = omega arith;
  names_of_fields = All-cons Named (field (codes "y") (list_type (record_type 0 []))) [] named (All-nil Named);
  fields_once = two_names (codes "x") (codes "y") x_is_not_y;
  earlier = All-cons Earlier (field (codes "y") (list_type (record_type 0 []))) [] (omega arith) (All-nil Earlier);
  low = All-cons Low (field (codes "y") (list_type (record_type 0 []))) [] (omega arith) (All-nil Low);
}

no_record_name : (fs : List FieldTree) → RecordHolds (of_fields [] fs ∷ []) 0 (of_fields [] fs) → ⊥
no_record_name fs h = no_text h.name

record_twice : (fs gs : List FieldTree) → RecordHolds (of_fields (codes "a") fs ∷ of_fields (codes "a") gs ∷ []) 1 (of_fields (codes "a") gs) → ⊥
record_twice fs gs h = let same : ◌≡◌ {A = ℕ} 0 1 = h.once 0 1 (codes "a") refl refl in absurd (omega arith)

no_field : RecordHolds (of_fields (codes "a") [] ∷ []) 0 (of_fields (codes "a") []) → ⊥
no_field h = let some = h.some_field in absurd (omega arith)

many_fields : (fs : List FieldTree) → length fs ≡ 33 → RecordHolds (of_fields (codes "a") fs ∷ []) 0 (of_fields (codes "a") fs) → ⊥
many_fields fs n h = let few = h.few_fields in absurd (omega arith)

no_field_name : RecordHolds (with_one (codes "a") [] number ∷ []) 0 (with_one (codes "a") [] number) → ⊥
no_field_name h = no_text (h.names_of_fields 0 (field [] number) (omega arith))

-- the fields of all records share a space
field_twice : RecordHolds (first ∷ with_one (codes "y") (codes "x") number ∷ []) 1 (with_one (codes "y") (codes "x") number) → ⊥
field_twice h = let same : ◌≡◌ {A = ℕ} 0 1 = h.fields_once 0 1 (codes "x") refl refl in absurd (omega arith)

abbrev itself : RecordTree
itself = with_one (codes "a") (codes "x") (list_type (record_type 0 []))

names_itself : RecordHolds (itself ∷ []) 0 itself → ⊥
names_itself h = let earlier : 0 < 0 = h.earlier 0 (field (codes "x") (list_type (record_type 0 []))) (omega arith) in absurd (omega arith)

abbrev in_lists : ℕ → TypeTree → TypeTree
in_lists zero t = t
in_lists (suc n) t = list_type (in_lists n t)

in_lists_height : (records : List RecordShape) (n : ℕ) (t : TypeTree) → shape_height records (type_shape (in_lists n t)) ≡ n + shape_height records (type_shape t)
in_lists_height records zero t = omega arith
in_lists_height records (suc n) t = let e = in_lists_height records n t in omega arith

-- 400 lists round a number are 401 high
high_field : (n : ℕ) → n ≡ 400 → RecordHolds (with_one (codes "a") (codes "x") (in_lists n number) ∷ []) 0 (with_one (codes "a") (codes "x") (in_lists n number)) → ⊥
high_field n e h =
    let low = h.low 0 (field (codes "x") (in_lists n number)) (omega arith) in
    let high = in_lists_height [] n number in
    absurd (omega arith)

-- ---- functions

abbrev head : List ℕ → List ShapeTree → ShapeTree → HeadTree
head name params result = record { name = name; params = params; result = result }

-- an image of one record, some functions and entries of one instruction each
abbrev image : List HeadTree → List Entry → ImageTree
image heads entries = record { records = first ∷ []; heads = heads; code = record { ops = Ret ∷ Ret ∷ []; entries = entries } }

no_function_name : (es : List Entry) → FunctionHolds (image (head [] [] num_shape ∷ []) es) 0 (head [] [] num_shape) → ⊥
no_function_name es h = no_text h.name

function_twice : (es : List Entry) → FunctionHolds (image (head (codes "f") [] num_shape ∷ head (codes "f") [] num_shape ∷ []) es) 1 (head (codes "f") [] num_shape) → ⊥
function_twice es h = let same : ◌≡◌ {A = ℕ} 0 1 = h.once 0 1 (codes "f") refl refl in absurd (omega arith)

many_params : (es : List Entry) (ss : List ShapeTree) → length ss ≡ 17 → FunctionHolds (image (head (codes "f") ss num_shape ∷ []) es) 0 (head (codes "f") ss num_shape) → ⊥
many_params es ss n h = let few = h.few_params in absurd (omega arith)

no_instruction : FunctionHolds (image (head (codes "f") [] num_shape ∷ []) (record { start = 1; end = 1; params = 0 } ∷ [])) 0 (head (codes "f") [] num_shape) → ⊥
no_instruction h = let some = h.some_instruction (record { start = 1; end = 1; params = 0 }) refl in absurd (omega arith)

no_such_record : (es : List Entry) → FunctionHolds (image (head (codes "f") (record_shape 1 ∷ []) num_shape ∷ []) es) 0 (head (codes "f") (record_shape 1 ∷ []) num_shape) → ⊥
no_such_record es h = let below : 1 < 1 = (h.params 0 num_shape (omega arith)).0 in absurd (omega arith)

high_result : (es : List Entry) (n : ℕ) → n ≡ 400 → FunctionHolds (image (head (codes "f") [] (type_shape (in_lists n number)) ∷ []) es) 0 (head (codes "f") [] (type_shape (in_lists n number))) → ⊥
high_result es n e h =
    let low = h.result.1 in
    let high = in_lists_height (record_shapes (first ∷ [])) n number in
    absurd (omega arith)

-- functions stand behind the records: the function of an image with one record is its head 1
behind_records : HeadHolds (image (head (codes "f") [] num_shape ∷ []) (record { start = 1; end = 1; params = 0 } ∷ [])) 1 → ⊥
behind_records h = no_instruction (h.function_holds 0 (head (codes "f") [] num_shape) refl refl)
