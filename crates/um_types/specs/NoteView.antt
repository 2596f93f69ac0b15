-- What was read of a note, without where it lies in memory.
-- Source: this project's own.
use Rattle.std.specs.Prelude.{[]}
use Rattle.um_unit_texts.specs.UnitMachine.{Have}
use Rattle.um_unit_texts.specs.UnitFrames.{operand_syntax}
use Rattle.um_unit_texts.specs.UnitView.{unit_state}
use Rattle.um_types.specs.NoteMachine.{NoteState, NeedNote, HaveHole, InUnit}
use Rattle.um_types.specs.declared.note_reader.NoteFocus.{NoteFocus}
use Rattle.um_types.specs.declared.note_reader.NoteFocus.TheVariants as focus
use Rattle.um_types.specs.declared.note_reader.NoteReader.{NoteReader}

abbrev pub note_focus_state : NoteFocus → NoteState
note_focus_state focus.Empty = NeedNote
note_focus_state (focus.Hole at) = HaveHole at
note_focus_state (focus.Atom at p) = InUnit at (Have [] (operand_syntax p))
note_focus_state (focus.Unit at u) = InUnit at (unit_state u)

-- the state of a reader
abbrev pub note_state : NoteReader → NoteState
note_state r = note_focus_state r.focus
