-- Reading a note token by token: the machine of unit texts inside, once a first token begins a unit text.
-- Source: this project's own.
use Rattle.std.specs.Prelude.{ℕ, [], Option, Some, None}
use Rattle.um_syntax.specs.declared.token.Token.{Token}
use Rattle.um_syntax.specs.declared.token.Kind.{Kind}
use Rattle.um_syntax.specs.declared.token.Kind.TheVariants as kind
use Rattle.um_reader.specs.Machine.{Machine}
use Rattle.um_tree.specs.RawTree.{UnitSyntax, NoteSyntax, hole_syntax, unit_note_syntax}
use Rattle.um_unit_texts.specs.UnitTokens.{unit_token}
use Rattle.um_unit_texts.specs.UnitMachine.{State, Need, Have, Raised, Lowered, Refused, act, finish}
use Rattle.um_unit_texts.specs.UnitLeast.{least}

pub data NoteState : Type 0 where
  NeedNote : NoteState
  HaveHole : (at : ℕ) → NoteState
  -- a unit text has begun at this place
  InUnit : (at : ℕ) (unit : State) → NoteState
  NoNote : NoteState

-- the unit text goes on, or no note begins so
abbrev pub unit_goes : ℕ → State → NoteState
unit_goes at (Need frames) = InUnit at (Need frames)
unit_goes at (Have frames t) = InUnit at (Have frames t)
unit_goes at (Raised frames t) = InUnit at (Raised frames t)
unit_goes at (Lowered frames t) = InUnit at (Lowered frames t)
unit_goes at Refused = NoNote

-- `_`, or a unit text begins
abbrev pub note_begin : Kind → ℕ → NoteState
note_begin kind.Hole at = HaveHole at
note_begin (kind.Name x) at = unit_goes at (act (Need []) (unit_token (kind.Name x)) at)
note_begin (kind.Var x) at = unit_goes at (act (Need []) (unit_token (kind.Var x)) at)
note_begin (kind.Number value digits one) at =
    unit_goes at (act (Need []) (unit_token (kind.Number value digits one)) at)
note_begin (kind.Word k) at = unit_goes at (act (Need []) (unit_token (kind.Word k)) at)
note_begin (kind.Sign k) at = unit_goes at (act (Need []) (unit_token (kind.Sign k)) at)

-- one token more
abbrev pub note_act : NoteState → Kind → ℕ → NoteState
note_act NeedNote k at = note_begin k at
note_act (HaveHole place) k at = NoNote
note_act (InUnit place u) k at = unit_goes place (act u (unit_token k) at)
note_act NoNote k at = NoNote

abbrev pub note_step : NoteState → Token → NoteState
note_step state token = note_act state token.kind token.start

-- the note, if all is read
abbrev pub noted : ℕ → Option UnitSyntax → Option NoteSyntax
noted at None = None
noted at (Some u) = Some (unit_note_syntax at u)

abbrev pub note_finish : NoteState → Option NoteSyntax
note_finish NeedNote = None
note_finish (HaveHole at) = Some (hole_syntax at)
note_finish (InUnit at u) = noted at (finish u)
note_finish NoNote = None

-- the least height of the unit text in a note that begins with what was read
abbrev pub note_least : NoteState → ℕ
note_least NeedNote = 0
note_least (HaveHole at) = 0
note_least (InUnit at u) = least u
note_least NoNote = 0

-- the machine of notes
abbrev pub machine_of_notes : Machine NoteState Token NoteSyntax
machine_of_notes =
    record { start = NeedNote; refused = NoNote; step = note_step; finish = note_finish; least = note_least }
