-- Whether a token goes on in a note or a type text: the state after it is no refusal.
-- Source: this project's own.
use Rattle.std.specs.Prelude.{Bool, true, false}
use Rattle.um_types.specs.NoteMachine.{NoteState, NoNote}
use Rattle.um_types.specs.TypeMachine.{TypeState, NoType}

abbrev pub note_stands : NoteState → Bool
note_stands NoNote = false
note_stands _ = true

abbrev pub type_stands : TypeState → Bool
type_stands NoType = false
type_stands _ = true
