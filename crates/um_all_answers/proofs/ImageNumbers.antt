-- Each number of a verified image fits its bytes, if the operands of its code do.
use Rattle.std.proofs.Common.{◌≡◌, ℕ, ◌+◌, ◌-◌, ◌^◌, ◌<◌, ◌≤◌, All, List, [], ◌∷◌, length, drop, Some, refl, arith, length-take, length-drop}
use Rattle.std.specs.Prelude.{slice_get}
use Rattle.std.proofs.lemmas.List.Elements.{All-nil, All-cons, All-head, All-tail, All-weaker, All-take, All-drop}
use Rattle.std.proofs.lemmas.Option.{slice_get_within}
use Rattle.um_tree.specs.TypeTree.{TypeTree, bool_type, num_type, list_type, record_type, ShapeTree, bool_shape, num_shape, list_shape, record_shape}
use Rattle.um_tree.specs.ProgramTree.{FieldTree, RecordTree}
use Rattle.um_tree.specs.Shapes.{type_shape}
use Rattle.um_tree.specs.Formed.{NamesEarlier}
use Rattle.um_machine.specs.declared.op.Op.{Op}
use Rattle.um_machine.specs.declared.code.Entry.{Entry}
use Rattle.um_verify.specs.ImageTree.{HeadTree, ImageTree, IsPlainField, IsPlainRecord, IsPlainHead}
use Rattle.um_verify.specs.Heads.{NamesBelow, IsShapeIn}
use Rattle.um_verify.specs.Verified.{IsVerified}
use Rattle.um_image.proofs.Items.{all_at, all_of}
use Rattle.um_image.specs.Encoding.{FunctionPart, own_ops, function_parts, image_parts}
use Rattle.um_image.specs.Places.{ShapeFits, FieldFits, RecordFits, OpFits, FunctionFits, PartsFit}

module _ (image : ImageTree) (verified : IsVerified image) (fits : All OpFits image.code.ops) where
  -- ---- shapes name records of the image
  shape_fits : (s : ShapeTree) → NamesBelow (length image.records) s → ShapeFits s
  shape_fits bool_shape h = tt
  shape_fits num_shape h = tt
  shape_fits (list_shape s) h = shape_fits s h
  shape_fits (record_shape r) h = let few = verified.form.count in omega (arith, h, few)

  type_fits : (i : ℕ) (t : TypeTree) → i < length image.records → NamesEarlier i t → ShapeFits (type_shape t)
  type_fits i bool_type within h = tt
  type_fits i (num_type u) within h = tt
  type_fits i (list_type t) within h = type_fits i t within h
  type_fits i (record_type q us) within h = let few = verified.form.count in omega (arith, h, within, few)

  -- ---- records
  record_fits : (i : ℕ) (d : RecordTree) → slice_get image.records i ≡ Some d → RecordFits d
  record_fits i d e =
      let plain = all_at IsPlainRecord image.records i d verified.form.records e in
      let holds = (verified.heads i).record_holds d e in
      record { name = plain.name; at = plain.at; units = plain.units; count = plain.count; fields = all_of FieldFits d.fields (field_fits plain.fields holds.earlier) }
    where
      field_fits : All IsPlainField d.fields → All (λ (f : FieldTree). NamesEarlier i f.type) d.fields → (k : ℕ) (f : FieldTree) → slice_get d.fields k ≡ Some f → FieldFits f
      field_fits plain earlier k f u =
          let one = all_at IsPlainField d.fields k f plain u in
          let names = all_at (λ (g : FieldTree). NamesEarlier i g.type) d.fields k f earlier u in
          record { name = one.name; plain = one.plain; shape = type_fits i f.type (slice_get_within image.records i d e) names }

  -- ---- functions

  -- the head with any instructions that fit
  abbrev HeadFits : HeadTree → Type 0
  HeadFits h = (ops : List Op) → length ops < 2 ^ 32 → All OpFits ops → FunctionFits (record { head = h; ops = ops })

  head_fits : (k : ℕ) (h : HeadTree) → slice_get image.heads k ≡ Some h → HeadFits h
  head_fits k h e ops few all =
      let plain = all_at IsPlainHead image.heads k h verified.form.heads e in
      let holds = (verified.heads (length image.records + k)).function_holds k h refl e in
      record {
        name = plain.name;
        count = plain.count;
        params = All-weaker (IsShapeIn image) ShapeFits (λ s is. shape_fits s is.0) h.params holds.params;
        result = shape_fits h.result holds.result.0;
        instructions = few;
        ops = all;
      }

  few_ops : (e : Entry) → length (own_ops image.code.ops e) < 2 ^ 32
  few_ops e =
      let few = verified.form.addresses in
      let taken = length-take (e.end - e.start) (drop e.start image.code.ops) in
      let dropped = length-drop e.start image.code.ops in
      omega (arith, few, taken, dropped)

  own_fit : (e : Entry) → All OpFits (own_ops image.code.ops e)
  own_fit e = All-take OpFits (e.end - e.start) (drop e.start image.code.ops) (All-drop OpFits e.start image.code.ops fits)

  parts_fit : (hs : List HeadTree) (es : List Entry) → All HeadFits hs → All FunctionFits (function_parts hs image.code.ops es)
  parts_fit [] [] all = All-nil FunctionFits
  parts_fit [] (e ∷ es) all = All-nil FunctionFits
  parts_fit (h ∷ hs) [] all = All-nil FunctionFits
  parts_fit (h ∷ hs) (e ∷ es) all =
      let part : FunctionPart = record { head = h; ops = own_ops image.code.ops e } in
      All-cons FunctionFits part (function_parts hs image.code.ops es) (All-head HeadFits h hs all (own_ops image.code.ops e) (few_ops e) (own_fit e)) (parts_fit hs es (All-tail HeadFits h hs all))

  few_parts : (hs : List HeadTree) (es : List Entry) → length (function_parts hs image.code.ops es) ≤ length hs
  few_parts [] [] = omega arith
  few_parts [] (e ∷ es) = omega arith
  few_parts (h ∷ hs) [] = omega arith
  few_parts (h ∷ hs) (e ∷ es) = let others = few_parts hs es in omega (arith, others)

  pub numbers_fit : PartsFit (image_parts image)
  numbers_fit =
      let few = verified.form.count in
      let parts = few_parts image.heads image.code.entries in
      record {
        count = omega (arith, few);
        records = all_of RecordFits image.records record_fits;
        functions_count = omega (arith, few, parts);
        functions = parts_fit image.heads image.code.entries (all_of HeadFits image.heads head_fits);
      }
