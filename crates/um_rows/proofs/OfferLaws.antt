-- What a call goes to, and what it is used at.
use Rattle.std.proofs.Common.{◌≡◌, ℕ, ◌+◌, ◌<◌, ◌≤◌, cond, eqb, ◌&&◌, List, [], ◌∷◌, map, length, get_or, take, drop, Some, None, slice_get, refl, sym, ap, ◌∙◌, subst}
use Rattle.std.specs.Prelude.{All}
use Rattle.std.proofs.lemmas.Bool.{lt-ltb}
use Rattle.std.proofs.lemmas.List.Elements.{All-head, All-tail}
use Rattle.um_units.specs.PowerMap.{PowerMap, nth}
use Rattle.um_units.specs.Variables.{VariablesBelow}
use Rattle.um_tree.specs.declared.types.Ty.{Ty}
use Rattle.um_tree.specs.declared.program.FieldDecl.{FieldDecl}
use Rattle.um_tree.specs.declared.program.Record.{Record}
use Rattle.um_tree.specs.declared.program.Scheme.{Scheme}
use Rattle.um_tree.specs.TypeTree.{type_tree}
use Rattle.um_tree.specs.ProgramTree.{field_tree, record_tree, scheme_tree}
use Rattle.um_tree.specs.Typing.{put, put_signature, unit_at, field_types}
use Rattle.um_tree.specs.Laws.{TypeHas}
use Rattle.um_slots.specs.declared.context.Context.{Context}
use Rattle.um_slots.specs.Holes.{Callee, known_by, itself, nobody}
use Rattle.um_slots.specs.Callees.{known_function}
use Rattle.um_rows.specs.Derivation.{offered}
use Rattle.um_rows.specs.Body.{noted_signature, called, offer}
use Rattle.um_rows.specs.Closed.{IsClosedScheme, declared_types, IsClosedRecord}
use Rattle.um_rows.proofs.Variables.{TypesBelow}
use Rattle.um_rows.proofs.NodeLaws.{mapped_found, mapped_past}
use Rattle.um_rows.proofs.SliceLaws.{put-part, types_put-part, types_put-units}

pub all_below : (n : ℕ) (ts : List Ty) → All (λ t. TypeHas (VariablesBelow n) (type_tree t)) ts → TypesBelow n (map type_tree ts)
all_below n [] h = tt
all_below n (t ∷ ts) h = (All-head (λ t. TypeHas (VariablesBelow n) (type_tree t)) t ts h, all_below n ts (All-tail (λ t. TypeHas (VariablesBelow n) (type_tree t)) t ts h))

module _ (schemes : List Scheme) (c : Context) (j : ℕ) where
  before : j < c.number → called schemes c j ≡ known_function (slice_get (map scheme_tree schemes) j)
  before l = ap (λ b. cond b (known_function (slice_get (map scheme_tree schemes) j)) (cond (eqb j c.number && c.recurs) itself nobody)) (lt-ltb j c.number l)

  pub called_before : (s : Scheme) → j < c.number → j < length schemes → s ≡ get_or schemes j s → called schemes c j ≡ known_by (scheme_tree s)
  called_before s l h e = before l ∙ ap known_function (mapped_found scheme_tree schemes j s h e)

  pub called_missing : j < c.number → length schemes ≤ j → called schemes c j ≡ nobody
  called_missing l h = before l ∙ ap known_function (mapped_past scheme_tree schemes j h)

  -- an offer is that of the callee
  pub offer_of : (records : List Record) (n : ℕ) (callee : Callee) → called schemes c j ≡ callee → offer records schemes c n j ≡ offered (nth c.holes.items) (nth c.names.items) (map record_tree records) (noted_signature c) (called schemes c) n callee
  offer_of records n callee e = ap (offered (nth c.holes.items) (nth c.names.items) (map record_tree records) (noted_signature c) (called schemes c) n) e

  pub offer_before : (records : List Record) (n : ℕ) (s : Scheme) → j < c.number → j < length schemes → s ≡ get_or schemes j s → IsClosedScheme s → n + s.vars ≤ length c.holes.items →
      offer records schemes c n j ≡ Some (put_signature (nth (take s.vars (drop n c.holes.items))) (scheme_tree s).signature)
  offer_before records n s l h e closed room =
      let params = types_put-part c.holes.items n s.vars room (map type_tree s.params.items.items) (all_below s.vars s.params.items.items closed.params) in
      let result = put-part c.holes.items n s.vars room (type_tree s.result) closed.result in
      offer_of records n (known_by (scheme_tree s)) (called_before s l h e) ∙ (λ i. Some (record { params = params i; result = result i }))

-- ---- the types of a record's fields
fields_below : (n : ℕ) (fs : List FieldDecl) → All (λ (f : FieldDecl). TypeHas (VariablesBelow n) (type_tree f.ty)) fs → TypesBelow n (declared_types fs)
fields_below n [] h = tt
fields_below n (f ∷ fs) h = (All-head (λ (f : FieldDecl). TypeHas (VariablesBelow n) (type_tree f.ty)) f fs h, fields_below n fs (All-tail (λ (f : FieldDecl). TypeHas (VariablesBelow n) (type_tree f.ty)) f fs h))

same_types : (fs : List FieldDecl) → declared_types fs ≡ map (λ f. f.type) (map field_tree fs)
same_types [] = refl
same_types (f ∷ fs) = λ i. type_tree f.ty ∷ same_types fs i

pub fields_at_units : (us : List PowerMap) (d : Record) → length us ≡ d.units → IsClosedRecord d → map (put (nth us)) (declared_types d.fields.items.items) ≡ map (put (unit_at us)) (field_types (record_tree d))
fields_at_units us d l closed =
    types_put-units us (declared_types d.fields.items.items) (subst (λ n. TypesBelow n (declared_types d.fields.items.items)) (sym l) (fields_below d.units d.fields.items.items closed.fields))
    ∙ ap (map (put (unit_at us))) (same_types d.fields.items.items)

pub field_found : (d : Record) (k : ℕ) (f : FieldDecl) → k < length d.fields.items.items → f ≡ get_or d.fields.items.items k f → slice_get (field_types (record_tree d)) k ≡ Some (type_tree f.ty)
field_found d k f h e = ap (λ ts. slice_get ts k) (sym (same_types d.fields.items.items)) ∙ mapped_found (λ (g : FieldDecl). type_tree g.ty) d.fields.items.items k f h e

pub field_past : (d : Record) (k : ℕ) → length d.fields.items.items ≤ k → slice_get (field_types (record_tree d)) k ≡ None
field_past d k h = ap (λ ts. slice_get ts k) (sym (same_types d.fields.items.items)) ∙ mapped_past (λ (g : FieldDecl). type_tree g.ty) d.fields.items.items k h
