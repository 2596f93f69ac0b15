-- What was read of a value text, without where it lies in memory.
-- Source: this project's own.
use Rattle.std.specs.Prelude.{◌≡◌, ◌≢◌, List, [], ◌∷◌, map, reverse, Option, Some, None}
use Rattle.um_syntax.specs.declared.token.Token.{Token}
use Rattle.um_reader.specs.Takes.{Takes}
use Rattle.um_reader.specs.declared.taken.Taken.{Taken}
use Rattle.um_reader.specs.declared.taken.Taken.TheVariants as taken
use Rattle.um_tree.specs.TypeTree.{ShapeTree, bool_shape, num_shape, list_shape, record_shape, shape_tree, type_tree}
use Rattle.um_tree.specs.ProgramTree.{RecordTree, field_tree}
use Rattle.um_tree.specs.Shapes.{type_shape}
use Rattle.um_unit_texts.specs.UnitStops.{greatest_height}
use Rattle.um_types.specs.NoteView.{note_state}
use Rattle.um_value.specs.ValueSyntax.{ValueSyntax, value_syntax}
use Rattle.um_value.specs.ValueMachine.{Frame, InList, InRecord, ValueState, Need, Begun, Negative, Counted, InNote}
use Rattle.um_value.specs.ValueMachine.{NeedName, NeedEqual, Have, NoValue, value_finish, machine_of_values}
use Rattle.um_value.specs.declared.wanted.Wanted.{Wanted}
use Rattle.um_value.specs.declared.wanted.Wanted.TheVariants as wanted
use Rattle.um_value.specs.declared.wanted.Sort.{Sort}
use Rattle.um_value.specs.declared.wanted.Sort.TheVariants as sort
use Rattle.um_value.specs.declared.frame.Frame.{Frame as Open}
use Rattle.um_value.specs.declared.frame.Frame.TheVariants as open_at
use Rattle.um_value.specs.declared.frame.Focus.{Focus}
use Rattle.um_value.specs.declared.frame.Focus.TheVariants as focus
use Rattle.um_value.specs.declared.reader.ValueReader.{ValueReader}

-- the shape that is wanted
abbrev pub wanted_shape : Wanted → ShapeTree
wanted_shape (wanted.OfShape s) = shape_tree s.now
wanted_shape (wanted.OfType t) = type_shape (type_tree t.now)

abbrev pub sort_shape : Sort → ShapeTree
sort_shape sort.Truth = bool_shape
sort_shape sort.Number = num_shape
sort_shape (sort.Items item) = list_shape (wanted_shape item)
sort_shape (sort.Parts r) = record_shape r

abbrev pub view_frame : Open → Frame
view_frame (open_at.InList item earlier) = InList (wanted_shape item) (map value_syntax earlier.items)
view_frame (open_at.InRecord r earlier fields) = InRecord r (map value_syntax earlier.items) (map field_tree fields.now)

-- the frames from the innermost out
abbrev pub stack : List Open → List Frame
stack frames = map view_frame (reverse frames)

abbrev pub state_of : List Frame → Focus → ValueState
state_of frames (focus.Need w) = Need frames (wanted_shape w)
state_of frames (focus.Begun w) = Begun frames (wanted_shape w)
state_of frames focus.Negative = Negative frames
state_of frames (focus.Counted c) = Counted frames c.at c.negative c.value
state_of frames (focus.InNote c n) = InNote frames c.at c.negative c.value (note_state n)
state_of frames (focus.Name f) = NeedName frames (field_tree f.now)
state_of frames (focus.Equal w) = NeedEqual frames (wanted_shape w)
state_of frames (focus.Full v) = Have frames (value_syntax v)

-- the state of a reader
abbrev pub value_state : ValueReader → ValueState
value_state r = state_of (stack r.frames.items) r.focus

-- the innermost frame was taken off
abbrev pub Popped : List Frame → Option Open → List Frame → Type 0
Popped old None new = (old ≡ []) × (new ≡ [])
Popped old (Some frame) new = old ≡ view_frame frame ∷ new

-- what a token gives whose next state is this, heights aside: that state; or that it is refused, in a state that still
-- ends as the one before
abbrev pub Moves : Option ValueSyntax → ValueState → Taken → ValueState → Type 0
Moves ends next taken.Goes new = (new ≡ next) × (new ≢ NoValue)
Moves ends next taken.Stops new = (next ≡ NoValue) × (value_finish new ≡ ends)
Moves ends next taken.High new = ⊥

-- what the token gives, whatever shape the reading began with
abbrev pub ValueTakes : List RecordTree → ValueState → Token → Taken → ValueState → Type 0
ValueTakes records old token given new =
    (s : ShapeTree) → Takes (machine_of_values records s) greatest_height old token given new
