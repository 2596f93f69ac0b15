-- Types, notes and shapes as pure trees, without the pointers of their boxes and vectors.
-- Each definition and each clause of the crates above speaks of these.
-- Source: this project's own types, after the F# specification, Units Of Measure.
use Rattle.std.specs.Prelude.{ℕ, List, map}
use Rattle.um_units.specs.PowerMap.{PowerMap}
use Rattle.um_tree.specs.declared.note.UnitNote.{UnitNote}
use Rattle.um_tree.specs.declared.note.Note.{Note, Bool as Bool-note, Num as Num-note, List' as List-note}
use Rattle.um_tree.specs.declared.note.Note.{Rec as Rec-note}
use Rattle.um_tree.specs.declared.note.Notes.{Notes}
use Rattle.um_tree.specs.declared.types.Ty.{Ty, Bool as Bool-type, Num as Num-type, List' as List-type}
use Rattle.um_tree.specs.declared.types.Ty.{Rec as Rec-type}
use Rattle.um_tree.specs.declared.types.Types.{Types}
use Rattle.um_tree.specs.declared.types.Shape.{Shape, Bool as Bool-shape, Num as Num-shape, List' as List-shape}
use Rattle.um_tree.specs.declared.types.Shape.{Rec as Rec-shape}

-- a type: a record type has the record's number and its units
pub data TypeTree : Type 0 where
  bool_type : TypeTree
  num_type : PowerMap → TypeTree
  list_type : TypeTree → TypeTree
  record_type : ℕ → List PowerMap → TypeTree

-- a type as it is written
pub data NoteTree : Type 0 where
  bool_note : NoteTree
  num_note : UnitNote → NoteTree
  list_note : NoteTree → NoteTree
  record_note : ℕ → List UnitNote → NoteTree

-- a type without its units
pub data ShapeTree : Type 0 where
  bool_shape : ShapeTree
  num_shape : ShapeTree
  list_shape : ShapeTree → ShapeTree
  record_shape : ℕ → ShapeTree

-- the tree that a type stands for
abbrev pub type_tree : Ty → TypeTree
type_tree Bool-type = bool_type
type_tree (Num-type u) = num_type u
type_tree (List-type p t) = list_type (type_tree t)
type_tree (Rec-type r us) = record_type r us

abbrev pub type_trees : Types → List TypeTree
type_trees ts = map type_tree ts.items.items

-- the tree that a note stands for
abbrev pub note_tree : Note → NoteTree
note_tree Bool-note = bool_note
note_tree (Num-note n) = num_note n
note_tree (List-note p n) = list_note (note_tree n)
note_tree (Rec-note r ns) = record_note r ns.items.items

abbrev pub note_trees : Notes → List NoteTree
note_trees ns = map note_tree ns.items.items

-- the tree that a shape stands for
abbrev pub shape_tree : Shape → ShapeTree
shape_tree Bool-shape = bool_shape
shape_tree Num-shape = num_shape
shape_tree (List-shape p s) = list_shape (shape_tree s)
shape_tree (Rec-shape r) = record_shape r
