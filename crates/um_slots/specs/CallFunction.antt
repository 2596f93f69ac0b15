-- The equations of a call: it is seen as the body of one more function without parameters.
-- Source: this project's own; the rules are those of Kennedy (1996) for a use of an earlier function.
use Rattle.std.specs.Prelude.{ℕ, false, List, [], ◌∷◌, map, replicate, slice_get, Option, Some, None}
use Rattle.um_tree.specs.declared.note.UnitNote.TheVariants.{Hole}
use Rattle.um_tree.specs.TypeTree.{NoteTree, bool_note, num_note, list_note, record_note, ShapeTree, bool_shape}
use Rattle.um_tree.specs.TypeTree.{num_shape, list_shape, record_shape}
use Rattle.um_tree.specs.ExprTree.{ExprTree, ExprTrees, truth, number, call, nil, list_expr, record_expr, none, more}
use Rattle.um_tree.specs.ValueTree.{InputTree, InputTrees, truth_input, number_input, list_input, record_input}
use Rattle.um_tree.specs.ValueTree.{no_inputs, more_inputs}
use Rattle.um_tree.specs.ProgramTree.{RecordTree, FunctionTree}
use Rattle.um_tree.specs.Typing.{field_types}
use Rattle.um_tree.specs.Shapes.{type_shape, note_shape}
use Rattle.um_uses.specs.Holes.{record_holes}

-- the shape as a note, with a hole for each unit
abbrev pub open_note : List RecordTree → ShapeTree → NoteTree
open_note records bool_shape = bool_note
open_note records num_shape = num_note Hole
open_note records (list_shape s) = list_note (open_note records s)
open_note records (record_shape r) = record_note r (replicate (record_holes (slice_get records r)) Hole)

-- the shape of a list's items
abbrev pub item_shape : ShapeTree → ShapeTree
item_shape (list_shape s) = s
item_shape s = bool_shape

abbrev pub field_shapes : Option RecordTree → List ShapeTree
field_shapes (Some d) = map type_shape (field_types d)
field_shapes None = []

-- a list without items is the empty list of its shape
abbrev pub list_of : NoteTree → ExprTrees → ExprTree
list_of n none = nil 0 n
list_of n (more e es) = list_expr 0 (more e es)

module _ (records : List RecordTree) where
  abbrev mutual
    -- an input of the shape as an expression, at the place 0
    pub input_text : ShapeTree → InputTree → ExprTree
    input_text s (truth_input b) = truth 0 b
    input_text s (number_input c n) = number 0 c n
    input_text s (list_input is) = list_of (open_note records s) (item_texts (item_shape s) is)
    input_text s (record_input r is) = record_expr 0 r (input_texts (field_shapes (slice_get records r)) is)

    -- items of one shape
    pub item_texts : ShapeTree → InputTrees → ExprTrees
    item_texts s no_inputs = none
    item_texts s (more_inputs i is) = more (input_text s i) (item_texts s is)

    -- input by input. If there are more inputs than shapes, no shape is looked at
    pub input_texts : List ShapeTree → InputTrees → ExprTrees
    input_texts ss no_inputs = none
    input_texts [] (more_inputs i is) = more (input_text bool_shape i) (input_texts [] is)
    input_texts (s ∷ ss) (more_inputs i is) = more (input_text s i) (input_texts ss is)

-- the call of function k, which is f, on the inputs
abbrev pub call_function : List RecordTree → ℕ → FunctionTree → InputTrees → FunctionTree
call_function records k f inputs = record {
  name = [];
  at = 0;
  recursive = false;
  units = 0;
  params = [];
  named = 0;
  result = None;
  body = call 0 k (input_texts records (map note_shape f.params) inputs);
}
