-- What was read of a type text, without where it lies in memory.
-- Source: this project's own.
use Rattle.std.specs.Prelude.{◌≡◌, ℕ, ◌+◌, ◌≤◌, max, Some, None, Result, Ok, Err}
use Rattle.um_tree.specs.declared.raw.RawType.{RawType}
use Rattle.um_tree.specs.RawTree.{NoteSyntax, TypeSyntax, note_syntaxes, type_syntax}
use Rattle.um_unit_texts.specs.UnitStops.{greatest_height}
use Rattle.um_types.specs.TypeHeights.{note_height}
use Rattle.um_types.specs.NoteMachine.{note_finish}
use Rattle.um_types.specs.NoteView.{note_state}
use Rattle.um_types.specs.TypeMachine.{Owner, OfNum, OfName, TypeState, NeedType, HaveType, InNote, NoType, angle_owner}
use Rattle.um_types.specs.TypeMachine.{owner_height, type_least}
use Rattle.um_types.specs.declared.note_reader.NoteReader.{NoteReader}
use Rattle.um_types.specs.declared.type_operand.TypeOperand.{TypeOperand}
use Rattle.um_types.specs.declared.type_operand.Owner.{Owner as OwnerPart}
use Rattle.um_types.specs.declared.type_operand.Owner.TheVariants as owner
use Rattle.um_types.specs.declared.type_operand.TypeFocus.{TypeFocus}
use Rattle.um_types.specs.declared.type_operand.TypeFocus.TheVariants as focus
use Rattle.um_types.specs.declared.type_reader.TypeReader.{TypeReader}

abbrev pub operand_type : TypeOperand → TypeSyntax
operand_type p = type_syntax p.ty

abbrev pub view_owner : OwnerPart → Owner
view_owner owner.Num = OfNum
view_owner (owner.Name at x earlier) = OfName at x (note_syntaxes earlier)

abbrev pub type_focus_state : ℕ → TypeFocus → NoteReader → TypeState
type_focus_state depth focus.Empty n = NeedType depth
type_focus_state depth (focus.Full t) n = HaveType depth (operand_type t)
type_focus_state depth (focus.Note o) n = InNote depth (view_owner o) (note_state n)

-- the state of a reader
abbrev pub type_state : TypeReader → TypeState
type_state r = type_focus_state r.depth r.focus r.note

-- the heights are low after the note, if one has begun, has refused a token
abbrev pub IsLow : TypeState → Type 0
IsLow (NeedType depth) = type_least (NeedType depth) ≤ greatest_height
IsLow (HaveType depth t) = type_least (HaveType depth t) ≤ greatest_height
IsLow (InNote depth owner n) =
    (max (depth + 1) (owner_height owner) ≤ greatest_height)
    × ((m : NoteSyntax) → note_finish n ≡ Some m → note_height m ≤ greatest_height)
IsLow NoType = Unit {0}

-- what angle brackets after a type belong to, or the type again
abbrev pub Opens : TypeSyntax → Result OwnerPart RawType → Type 0
Opens t (Ok o) = angle_owner t ≡ Some (view_owner o)
Opens t (Err same) = (angle_owner t ≡ None) × (type_syntax same ≡ t)
