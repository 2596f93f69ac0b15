-- Notes as types over slots.
-- Source: Kennedy (1996), the inference of units: a unit that is left open is a new variable.
use Rattle.std.specs.Prelude.{ℕ, ◌+◌, List, [], ◌∷◌, Option, Some, None}
use Rattle.um_units.specs.PowerMap.{PowerMap, replace}
use Rattle.um_tree.specs.declared.note.UnitNote.{UnitNote}
use Rattle.um_tree.specs.declared.note.UnitNote.TheVariants.{Hole, Written}
use Rattle.um_tree.specs.TypeTree.{TypeTree, bool_type, num_type, list_type, record_type, NoteTree, bool_note, num_note}
use Rattle.um_tree.specs.TypeTree.{list_note, record_note}
use Rattle.um_uses.specs.Holes.{unit_holes, note_holes}

-- holes: the unit of each hole, by its number in the order of the text. names: the unit of each named variable. The
-- holes of a note are numbered from n on
module _ (holes names : ℕ → PowerMap) where
  abbrev pub noted_unit : ℕ → UnitNote → PowerMap
  noted_unit n Hole = holes n
  noted_unit n (Written u) = replace names u

  abbrev pub noted_units : ℕ → List UnitNote → List PowerMap
  noted_units n [] = []
  noted_units n (m ∷ ms) = noted_unit n m ∷ noted_units (n + unit_holes m) ms

  abbrev pub noted_type : ℕ → NoteTree → TypeTree
  noted_type n bool_note = bool_type
  noted_type n (num_note m) = num_type (noted_unit n m)
  noted_type n (list_note m) = list_type (noted_type n m)
  noted_type n (record_note r ms) = record_type r (noted_units n ms)

  abbrev pub noted_types : ℕ → List NoteTree → List TypeTree
  noted_types n [] = []
  noted_types n (m ∷ ms) = noted_type n m ∷ noted_types (n + note_holes m) ms

  -- the type that the result's note stands for. Without a note the function doesn't call itself, and no rule reads it
  abbrev pub noted_result : ℕ → Option NoteTree → TypeTree
  noted_result n (Some m) = noted_type n m
  noted_result n None = bool_type
