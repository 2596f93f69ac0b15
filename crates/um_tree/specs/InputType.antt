-- When an input has a type, when a value has a shape, and the type of a call.
-- Source: this project's own; a type of a call is a principal scheme (Kennedy 1996) without parameters.
use Rattle.std.specs.Prelude.{◌≡◌, ◌↔◌, ℕ, List, [], ◌∷◌, map, slice_get, Some}
use Rattle.um_units.specs.PowerMap.{PowerMap}
use Rattle.um_tree.specs.TypeTree.{TypeTree, bool_type, num_type, list_type, record_type, ShapeTree, bool_shape}
use Rattle.um_tree.specs.TypeTree.{num_shape, list_shape, record_shape}
use Rattle.um_tree.specs.ValueTree.{ValueTree, ValueTrees, truth_value, number_value, list_value, record_value}
use Rattle.um_tree.specs.ValueTree.{no_values, more_values, InputTree, InputTrees, truth_input, number_input}
use Rattle.um_tree.specs.ValueTree.{list_input, record_input, no_inputs, more_inputs}
use Rattle.um_tree.specs.ProgramTree.{RecordTree, ProgramTree}
use Rattle.um_tree.specs.Typing.{put, unit_at, LiteralUnit, field_types, IsRecordAt, Typing}
use Rattle.um_tree.specs.Shapes.{type_shape}
use Rattle.um_tree.specs.Scheme.{IsNumbered}

module _ (records : List RecordTree) where
  abbrev mutual
    -- a number has the unit of a literal: its written unit, and 0 with a hole every unit
    pub InputHas : InputTree → TypeTree → Type 0
    InputHas (truth_input b) t = t ≡ bool_type
    InputHas (number_input c n) t = (u : PowerMap) × LiteralUnit c n u × (t ≡ num_type u)
    InputHas (list_input is) t = (s : TypeTree) × EachInputHas is s × (t ≡ list_type s)
    InputHas (record_input r is) t =
        (us : List PowerMap) × (d : RecordTree) × IsRecordAt records r us d
        × InputsHave is (map (put (unit_at us)) (field_types d)) × (t ≡ record_type r us)

    -- all items have the item's type
    pub EachInputHas : InputTrees → TypeTree → Type 0
    EachInputHas no_inputs t = Unit {0}
    EachInputHas (more_inputs i is) t = InputHas i t × EachInputHas is t

    -- input by input
    pub InputsHave : InputTrees → List TypeTree → Type 0
    InputsHave no_inputs ts = ts ≡ []
    InputsHave (more_inputs i is) ts =
        (s : TypeTree) × (rest : List TypeTree) × InputHas i s × InputsHave is rest × (ts ≡ s ∷ rest)

  abbrev mutual
    pub ValueHas : ValueTree → ShapeTree → Type 0
    ValueHas (truth_value b) s = s ≡ bool_shape
    ValueHas (number_value c) s = s ≡ num_shape
    ValueHas (list_value vs) s = (t : ShapeTree) × EachValueHas vs t × (s ≡ list_shape t)
    ValueHas (record_value r vs) s =
        (d : RecordTree) × (slice_get records r ≡ Some d)
        × ValuesHave vs (map type_shape (field_types d)) × (s ≡ record_shape r)

    pub EachValueHas : ValueTrees → ShapeTree → Type 0
    EachValueHas no_values s = Unit {0}
    EachValueHas (more_values v vs) s = ValueHas v s × EachValueHas vs s

    -- value by value
    pub ValuesHave : ValueTrees → List ShapeTree → Type 0
    ValuesHave no_values ss = ss ≡ []
    ValuesHave (more_values v vs) ss =
        (t : ShapeTree) × (rest : List ShapeTree) × ValueHas v t × ValuesHave vs rest × (ss ≡ t ∷ rest)

-- the result is one of a typing of function f at whose parameter types the inputs stand
abbrev pub IsResultOfCall : ProgramTree → ℕ → InputTrees → TypeTree → Type 0
IsResultOfCall p f inputs t =
    (ts : List TypeTree) × InputsHave p.records inputs ts × Typing p f (record { params = ts; result = t })

-- a type of a call: numbered, and its instances are exactly the results
pub record IsTypeOfCall (p : ProgramTree) (f : ℕ) (inputs : InputTrees) (t : TypeTree) : Type 0 where
  pub numbered : IsNumbered (t ∷ [])
  pub instances :
      (result : TypeTree) → IsResultOfCall p f inputs result ↔ ((units : ℕ → PowerMap) × (result ≡ put units t))
