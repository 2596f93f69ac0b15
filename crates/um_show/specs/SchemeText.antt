-- How types and schemes are printed.
-- Source: this project's own texts.
use Rattle.std.specs.Prelude.{ℕ, List, [], ◌∷◌, ◌++◌, codes, slice_get, Option, Some, None}
use Rattle.std.specs.List.{join_by}
use Rattle.um_units.specs.declared.Term.{Term}
use Rattle.um_units.specs.PowerMap.{PowerMap}
use Rattle.um_tree.specs.TypeTree.{TypeTree, bool_type, num_type, list_type, record_type}
use Rattle.um_tree.specs.ProgramTree.{RecordTree, ProgramTree, SchemeTree}
use Rattle.um_tree.specs.Scheme.{signature_types}
use Rattle.um_show.specs.UnitText.{variable_text, named_unit_text}

-- `num`, and its unit where that has a power
abbrev pub num_text : List ℕ → List Term → List ℕ
num_text unit [] = codes "num"
num_text unit (t ∷ ts) = codes "num<" ++ unit ++ codes ">"

-- the name of a record
abbrev pub declared_name : Option RecordTree → List ℕ
declared_name None = []
declared_name (Some d) = d.name

abbrev pub record_name : ProgramTree → ℕ → List ℕ
record_name p r = declared_name (slice_get p.records r)

-- ---- if each variable has this text
module _ (variable : ℕ → List ℕ) where
  -- the units of a record type stand after its name
  abbrev pub units_text : List (List ℕ) → List PowerMap → List ℕ
  units_text bases [] = []
  units_text bases (u ∷ us) =
      codes "<" ++ join_by (named_unit_text variable bases) (codes ", ") (u ∷ us) ++ codes ">"

  abbrev pub named_type_text : ProgramTree → TypeTree → List ℕ
  named_type_text p bool_type = codes "bool"
  named_type_text p (num_type u) = num_text (named_unit_text variable p.bases u) u.terms
  named_type_text p (list_type t) = named_type_text p t ++ codes " list"
  named_type_text p (record_type r us) = record_name p r ++ units_text p.bases us

-- ---- with letters for variables
abbrev pub type_text : ProgramTree → TypeTree → List ℕ
type_text p t = named_type_text variable_text p t

-- the parameters' types and the result's, with arrows between
abbrev pub types_text : ProgramTree → List TypeTree → List ℕ
types_text p ts = join_by (type_text p) (codes " -> ") ts

-- the scheme of a function of this name
abbrev pub scheme_text : ProgramTree → List ℕ → SchemeTree → List ℕ
scheme_text p name s = name ++ codes " : " ++ types_text p (signature_types s.signature)
