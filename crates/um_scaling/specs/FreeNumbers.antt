-- A value at a type: each of its numbers whose unit is left open, since it holds a variable, is 0.
-- Source: Kennedy (1997): a value that has a type for every unit in place of a variable is its own rescaling.
use Rattle.std.specs.Prelude.{◌≡◌, List, [], ◌∷◌, map, pos}
use Rattle.um_frac.specs.Fraction.{numerator}
use Rattle.um_units.specs.Variables.{IsClosed}
use Rattle.um_tree.specs.TypeTree.{TypeTree, bool_type, num_type, list_type, record_type}
use Rattle.um_tree.specs.ValueTree.{ValueTree, ValueTrees, truth_value, number_value, list_value, record_value}
use Rattle.um_tree.specs.ValueTree.{no_values, more_values}
use Rattle.um_tree.specs.ProgramTree.{RecordTree}
use Rattle.um_tree.specs.Typing.{put, unit_at, field_types, IsRecordAt}

module _ (records : List RecordTree) where
  abbrev mutual
    -- the value stands at the type, and is 0 wherever its unit isn't closed
    pub IsFreeZero : ValueTree → TypeTree → Type 0
    IsFreeZero (truth_value b) bool_type = Unit {0}
    IsFreeZero (number_value c) (num_type u) = (¬ IsClosed u) → numerator c ≡ pos 0
    IsFreeZero (list_value vs) (list_type t) = EachFreeZero vs t
    IsFreeZero (record_value m vs) (record_type k us) =
        (d : RecordTree) × IsRecordAt records k us d × (m ≡ k)
        × FieldsFreeZero vs (map (put (unit_at us)) (field_types d))
    IsFreeZero v t = ⊥

    pub EachFreeZero : ValueTrees → TypeTree → Type 0
    EachFreeZero no_values t = Unit {0}
    EachFreeZero (more_values v vs) t = IsFreeZero v t × EachFreeZero vs t

    pub FieldsFreeZero : ValueTrees → List TypeTree → Type 0
    FieldsFreeZero no_values [] = Unit {0}
    FieldsFreeZero (more_values v vs) (t ∷ ts) = IsFreeZero v t × FieldsFreeZero vs ts
    FieldsFreeZero vs ts = ⊥
