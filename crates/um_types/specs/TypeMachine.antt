-- Reading a type text token by token, with the machine of notes inside. Of what is open only brackets have to be
-- counted.
-- Where the note inside refuses a token, it ends, and the token is looked at again.
-- Source: this project's own.
use Rattle.std.specs.Prelude.{ℕ, zero, suc, ◌+◌, max, List, [], ◌∷◌, ◌++◌, Option, Some, None}
use Rattle.um_syntax.specs.declared.token.Token.{Token}
use Rattle.um_syntax.specs.declared.token.Kind.{Kind}
use Rattle.um_syntax.specs.declared.token.Kind.TheVariants as kind
use Rattle.um_vocabulary.specs.declared.vocabulary.Keyword.TheVariants as keyword
use Rattle.um_vocabulary.specs.declared.vocabulary.Symbol.TheVariants as symbol
use Rattle.um_reader.specs.Machine.{Machine}
use Rattle.um_tree.specs.RawTree.{NoteSyntax, TypeSyntax, bool_syntax, num_syntax, record_syntax, list_type_syntax}
use Rattle.um_tree.specs.RawTree.{bracket_type_syntax}
use Rattle.um_tree.specs.Heights.{type_height}
use Rattle.um_types.specs.TypeHeights.{notes_height, units_height}
use Rattle.um_types.specs.NoteMachine.{NoteState, NeedNote, HaveHole, InUnit, NoNote, note_act, note_finish, note_least}

-- what the angle brackets belong to: `num`, or a name with the notes before the comma
pub data Owner : Type 0 where
  OfNum : Owner
  OfName : (at : ℕ) (name : List ℕ) (earlier : List NoteSyntax) → Owner

-- each with the number of brackets that are open
pub data TypeState : Type 0 where
  NeedType : (depth : ℕ) → TypeState
  HaveType : (depth : ℕ) (operand : TypeSyntax) → TypeState
  InNote : (depth : ℕ) (owner : Owner) (note : NoteState) → TypeState
  NoType : TypeState

abbrev pub type_begin : ℕ → Kind → ℕ → TypeState
type_begin depth (kind.Name x) at = HaveType depth (record_syntax at x [])
type_begin depth (kind.Word keyword.Num) at = HaveType depth (num_syntax None)
type_begin depth (kind.Word keyword.Bool) at = HaveType depth bool_syntax
type_begin depth (kind.Sign symbol.LeftParen) at = NeedType (suc depth)
type_begin depth _ at = NoType

-- what angle brackets may open after: `num`, and a name
abbrev pub angle_owner : TypeSyntax → Option Owner
angle_owner (num_syntax None) = Some OfNum
angle_owner (num_syntax (Some n)) = None
angle_owner (record_syntax at x []) = Some (OfName at x [])
angle_owner (record_syntax at x (n ∷ ns)) = None
angle_owner bool_syntax = None
angle_owner (list_type_syntax t) = None
angle_owner (bracket_type_syntax t) = None

abbrev pub begin_notes : ℕ → Option Owner → TypeState
begin_notes depth None = NoType
begin_notes depth (Some owner) = InNote depth owner NeedNote

abbrev pub open_angle : ℕ → TypeSyntax → TypeState
open_angle depth t = begin_notes depth (angle_owner t)

abbrev pub close_bracket : ℕ → TypeSyntax → TypeState
close_bracket zero t = NoType
close_bracket (suc depth) t = HaveType depth (bracket_type_syntax t)

abbrev pub type_after : ℕ → TypeSyntax → Kind → TypeState
type_after depth t (kind.Word keyword.List) = HaveType depth (list_type_syntax t)
type_after depth t (kind.Sign symbol.RightParen) = close_bracket depth t
type_after depth t (kind.Sign symbol.Less) = open_angle depth t
type_after depth t _ = NoType

-- the type with its last note
abbrev pub owned : Owner → NoteSyntax → TypeSyntax
owned OfNum n = num_syntax (Some n)
owned (OfName at x earlier) n = record_syntax at x (earlier ++ n ∷ [])

-- a comma after a note
abbrev pub next_note : ℕ → Owner → NoteSyntax → TypeState
next_note depth OfNum n = NoType
next_note depth (OfName at x earlier) n = InNote depth (OfName at x (earlier ++ n ∷ [])) NeedNote

-- the token after a note
abbrev pub note_end : ℕ → Owner → NoteSyntax → Kind → TypeState
note_end depth owner n (kind.Sign symbol.Greater) = HaveType depth (owned owner n)
note_end depth owner n (kind.Sign symbol.Comma) = next_note depth owner n
note_end depth owner n _ = NoType

-- the token that the note refused
abbrev pub note_ends : ℕ → Owner → Option NoteSyntax → Kind → TypeState
note_ends depth owner None token = NoType
note_ends depth owner (Some n) token = note_end depth owner n token

-- the note goes on, or ends
abbrev pub note_goes : ℕ → Owner → NoteState → TypeState → TypeState
note_goes depth owner NeedNote ended = InNote depth owner NeedNote
note_goes depth owner (HaveHole at) ended = InNote depth owner (HaveHole at)
note_goes depth owner (InUnit at u) ended = InNote depth owner (InUnit at u)
note_goes depth owner NoNote ended = ended

-- one token more
abbrev pub type_act : TypeState → Kind → ℕ → TypeState
type_act (NeedType depth) k at = type_begin depth k at
type_act (HaveType depth t) k at = type_after depth t k
type_act (InNote depth owner n) k at = note_goes depth owner (note_act n k at) (note_ends depth owner (note_finish n) k)
type_act NoType k at = NoType

abbrev pub type_step : TypeState → Token → TypeState
type_step state token = type_act state token.kind token.start

-- one token more, which the note has refused, if one has begun
abbrev pub own_act : TypeState → Kind → ℕ → TypeState
own_act (NeedType depth) k at = type_begin depth k at
own_act (HaveType depth t) k at = type_after depth t k
own_act (InNote depth owner n) k at = note_ends depth owner (note_finish n) k
own_act NoType k at = NoType

-- the type text, if all is read
abbrev pub type_finish : TypeState → Option TypeSyntax
type_finish (HaveType zero t) = Some t
type_finish (HaveType (suc depth) t) = None
type_finish (NeedType depth) = None
type_finish (InNote depth owner n) = None
type_finish NoType = None

abbrev pub owner_height : Owner → ℕ
owner_height OfNum = 0
owner_height (OfName at x earlier) = notes_height earlier

-- the least that the greatest of the heights in a type text is that begins with what was read
abbrev pub type_least : TypeState → ℕ
type_least (NeedType depth) = depth + 1
type_least (HaveType depth t) = max (type_height t + depth) (units_height t)
type_least (InNote depth owner n) = max (depth + 1) (max (owner_height owner) (note_least n))
type_least NoType = 0

-- the machine of type texts
abbrev pub machine_of_types : Machine TypeState Token TypeSyntax
machine_of_types =
    record { start = NeedType 0; refused = NoType; step = type_step; finish = type_finish; least = type_least }
