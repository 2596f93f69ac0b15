-- Schemes and records that hold their own variables alone.
-- Source: this project's own.
use Rattle.std.specs.Prelude.{ℕ, ◌<◌, All, List, length, map, slice_index_or}
use Rattle.std.specs.Coded.{le_prop, Unit-prop}
use Rattle.um_units.specs.PowerMap.{PowerMap}
use Rattle.um_units.specs.Variables.{VariablesBelow}
use Rattle.um_tree.specs.declared.program.FieldDecl.{FieldDecl}
use Rattle.um_tree.specs.declared.program.Record.{Record}
use Rattle.um_tree.specs.declared.program.Scheme.{Scheme}
use Rattle.um_tree.specs.TypeTree.{TypeTree, bool_type, num_type, list_type, record_type, type_tree}
use Rattle.um_tree.specs.Laws.{TypeHas}

-- each variable of the scheme is below their number
pub record IsClosedScheme (s : Scheme) : Type 0 where
  pub params : All (λ t. TypeHas (VariablesBelow s.vars) (type_tree t)) s.params.items.items
  pub result : TypeHas (VariablesBelow s.vars) (type_tree s.result)

-- so it is of the schemes of the functions before function i
abbrev pub AreClosedBefore : ℕ → List Scheme → Type 0
AreClosedBefore i schemes =
    (j : ℕ) (d : Scheme) → j < i → j < length schemes → IsClosedScheme (slice_index_or schemes j d)

-- the types of some fields
abbrev pub declared_types : List FieldDecl → List TypeTree
declared_types fs = map (λ (f : FieldDecl). type_tree f.ty) fs

-- each variable in the types of the record's fields is below the number of its units
pub record IsClosedRecord (d : Record) : Type 0 where
  pub fields : All (λ (f : FieldDecl). TypeHas (VariablesBelow d.units) (type_tree f.ty)) d.fields.items.items

-- ---- each of these facts has one proof at most
below_prop : (n : ℕ) (u : PowerMap) → IsProp (VariablesBelow n u)
below_prop n u a b = λ i k held. le_prop (a k held) (b k held) i

units_below_prop : (n : ℕ) (us : List PowerMap) → IsProp (All (VariablesBelow n) us)
units_below_prop n us a b = λ i k d l. below_prop n (slice_index_or us k d) (a k d l) (b k d l) i

type_below_prop : (n : ℕ) (t : TypeTree) → IsProp (TypeHas (VariablesBelow n) t)
type_below_prop n bool_type = Unit-prop
type_below_prop n (num_type u) = below_prop n u
type_below_prop n (list_type t) = type_below_prop n t
type_below_prop n (record_type r us) = units_below_prop n us

closed_scheme_prop : (s : Scheme) → IsProp (IsClosedScheme s)
closed_scheme_prop s a b = λ i. record {
  params = λ k d l.
      type_below_prop s.vars (type_tree (slice_index_or s.params.items.items k d)) (a.params k d l) (b.params k d l) i;
  result = type_below_prop s.vars (type_tree s.result) a.result b.result i;
}

pub closed_before_prop : (i : ℕ) (schemes : List Scheme) → IsProp (AreClosedBefore i schemes)
closed_before_prop i schemes a b =
    λ j k d l m. closed_scheme_prop (slice_index_or schemes k d) (a k d l m) (b k d l m) j

pub closed_record_prop : (d : Record) → IsProp (IsClosedRecord d)
closed_record_prop d a b = λ i. record {
  fields = λ k f l.
      let g = slice_index_or d.fields.items.items k f in
      type_below_prop d.units (type_tree g.ty) (a.fields k f l) (b.fields k f l) i;
}

pub closed_records_prop : (ds : List Record) → IsProp (All IsClosedRecord ds)
closed_records_prop ds a b = λ i k d l. closed_record_prop (slice_index_or ds k d) (a k d l) (b k d l) i
