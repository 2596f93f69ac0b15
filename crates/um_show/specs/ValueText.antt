-- How a value is printed at a type, and whether the types of its parts have their powers in range.
-- Source: this project's own texts; the units are in the notation of the F# specification, Units Of Measure.
use Rattle.std.specs.Prelude.{ℕ, Bool, true, false, ◌&&◌, List, [], ◌∷◌, ◌++◌, codes, map, slice_get, Option, Some}
use Rattle.std.specs.Prelude.{None}
use Rattle.um_frac.specs.declared.number.Frac.{Frac}
use Rattle.um_units.specs.declared.Term.{Term}
use Rattle.um_units.specs.PowerMap.{PowerMap, nth}
use Rattle.um_units.specs.Variables.{variables_below}
use Rattle.um_tree.specs.TypeTree.{TypeTree, bool_type, num_type, list_type, record_type}
use Rattle.um_tree.specs.ProgramTree.{FieldTree, RecordTree, ProgramTree}
use Rattle.um_tree.specs.ValueTree.{ValueTree, ValueTrees, truth_value, number_value, list_value, record_value}
use Rattle.um_tree.specs.ValueTree.{no_values, more_values}
use Rattle.um_tree.specs.Typing.{put}
use Rattle.um_elim.specs.Application.{type_fits}
use Rattle.um_show.specs.NumberText.{number_text}
use Rattle.um_show.specs.UnitText.{unit_text}

-- ---- what a type is to a value; for values of its shape alone

abbrev pub item_in : TypeTree → TypeTree
item_in bool_type = bool_type
item_in (num_type u) = bool_type
item_in (list_type t) = t
item_in (record_type r us) = bool_type

abbrev pub units_in : TypeTree → List PowerMap
units_in bool_type = []
units_in (num_type u) = []
units_in (list_type t) = []
units_in (record_type r us) = us

-- the fields, with these units put in
abbrev pub field_at : List PowerMap → FieldTree → FieldTree
field_at us f = record { name = f.name; type = put (nth us) f.type }

abbrev pub fields_in : Option RecordTree → List PowerMap → List FieldTree
fields_in None us = []
fields_in (Some d) us = map (field_at us) d.fields

-- ---- the text

abbrev pub truth_text : Bool → List ℕ
truth_text true = codes "true"
truth_text false = codes "false"

-- no unit where it has no power; `_` where it has a variable
abbrev pub suffix_text : List ℕ → Bool → List Term → List ℕ
suffix_text unit closed [] = []
suffix_text unit true (t ∷ ts) = codes "<" ++ unit ++ codes ">"
suffix_text unit false (t ∷ ts) = codes "<_>"

-- what stands after a number of this type
abbrev pub suffix_at : List (List ℕ) → TypeTree → List ℕ
suffix_at bases bool_type = []
suffix_at bases (num_type u) = suffix_text (unit_text bases u) (variables_below 0 u.terms) u.terms
suffix_at bases (list_type t) = []
suffix_at bases (record_type r us) = []

abbrev pub separator : List ℕ
separator = codes "; "

-- a number with what stands after it, at a type
abbrev pub number_at : List (List ℕ) → Frac → TypeTree → List ℕ
number_at bases c t = number_text c ++ suffix_at bases t

-- values of a program, with its numbers at their types as they are told here
module _ (number : Frac → TypeTree → List ℕ) (p : ProgramTree) where
  abbrev mutual
    pub text_by : ValueTree → TypeTree → List ℕ
    text_by (truth_value b) t = truth_text b
    text_by (number_value c) t = number c t
    text_by (list_value vs) t = codes "[" ++ items_by [] vs (item_in t) ++ codes "]"
    text_by (record_value r vs) t =
        codes "{ " ++ fields_by [] vs (fields_in (slice_get p.records r) (units_in t)) ++ codes " }"

    -- items, the first after this, the others after `; `
    pub items_by : List ℕ → ValueTrees → TypeTree → List ℕ
    items_by gap no_values t = []
    items_by gap (more_values v vs) t = gap ++ text_by v t ++ items_by separator vs t

    -- fields with their names in the same way
    pub fields_by : List ℕ → ValueTrees → List FieldTree → List ℕ
    fields_by gap no_values fs = []
    fields_by gap (more_values v vs) [] = []
    fields_by gap (more_values v vs) (f ∷ fs) =
        gap ++ f.name ++ codes " = " ++ text_by v f.type ++ fields_by separator vs fs

-- with its numbers as they are
abbrev pub value_text : ProgramTree → ValueTree → TypeTree → List ℕ
value_text p v t = text_by (number_at p.bases) p v t

module _ (p : ProgramTree) where
  -- The types of the parts have their powers in range: those of the fields, with the record's units put in, at each
  -- depth. The items of a list have a type that its own type holds.
  abbrev mutual
    pub parts_fit : ValueTree → TypeTree → Bool
    parts_fit (truth_value b) t = true
    parts_fit (number_value c) t = true
    parts_fit (list_value vs) t = items_fit vs (item_in t)
    parts_fit (record_value r vs) t = fields_fit vs (fields_in (slice_get p.records r) (units_in t))

    pub items_fit : ValueTrees → TypeTree → Bool
    items_fit no_values t = true
    items_fit (more_values v vs) t = parts_fit v t && items_fit vs t

    pub fields_fit : ValueTrees → List FieldTree → Bool
    fields_fit no_values fs = true
    fields_fit (more_values v vs) [] = true
    fields_fit (more_values v vs) (f ∷ fs) = type_fits f.type && (parts_fit v f.type && fields_fit vs fs)
