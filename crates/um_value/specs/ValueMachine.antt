-- Reading a value text of a shape token by token, with the machine of notes inside.
-- If the note inside refuses a token, it ends, and the token is looked at again.
-- Source: this project's own.
use Rattle.std.specs.Prelude.{ℕ, max, Bool, true, false, cond, List, [], ◌∷◌, ◌++◌, slice_get, Option, Some, None}
use Rattle.std.specs.Str.{bytes_eq}
use Rattle.um_frac.specs.declared.number.Frac.{Frac}
use Rattle.um_syntax.specs.declared.token.Token.{Token}
use Rattle.um_syntax.specs.declared.token.Kind.{Kind}
use Rattle.um_syntax.specs.declared.token.Kind.TheVariants as kind
use Rattle.um_vocabulary.specs.declared.vocabulary.Keyword.TheVariants as keyword
use Rattle.um_vocabulary.specs.declared.vocabulary.Symbol.TheVariants as symbol
use Rattle.um_reader.specs.Machine.{Machine}
use Rattle.um_tree.specs.RawTree.{NoteSyntax}
use Rattle.um_tree.specs.TypeTree.{ShapeTree, bool_shape, num_shape, list_shape, record_shape}
use Rattle.um_tree.specs.ProgramTree.{FieldTree, RecordTree}
use Rattle.um_tree.specs.Shapes.{type_shape}
use Rattle.um_types.specs.NoteMachine.{NoteState, NeedNote, HaveHole, InUnit, NoNote, note_act, note_finish, note_least}
use Rattle.um_value.specs.ValueSyntax.{ValueSyntax, raw_truth, raw_number, raw_list, raw_record, raw_none}
use Rattle.um_value.specs.ValueSyntax.{raws_in_order}
use Rattle.um_value.specs.ValueGrammar.{value_height}

-- what is open: a list with the items before; a record with the parts before and the fields that follow
pub data Frame : Type 0 where
  InList : (item : ShapeTree) (earlier : List ValueSyntax) → Frame
  InRecord : (number : ℕ) (earlier : List ValueSyntax) (fields : List FieldTree) → Frame

pub data ValueState : Type 0 where
  -- a value of the shape is wanted; the same or `]`, after `[`; a number, after `-`
  Need : (frames : List Frame) (shape : ShapeTree) → ValueState
  Begun : (frames : List Frame) (item : ShapeTree) → ValueState
  Negative : (frames : List Frame) → ValueState
  -- after a number; in its note
  Counted : (frames : List Frame) (at : ℕ) (negative : Bool) (value : Frac) → ValueState
  InNote : (frames : List Frame) (at : ℕ) (negative : Bool) (value : Frac) (note : NoteState) → ValueState
  -- the field's name is wanted; `=`, and then a value of the shape
  NeedName : (frames : List Frame) (field : FieldTree) → ValueState
  NeedEqual : (frames : List Frame) (shape : ShapeTree) → ValueState
  -- a value is at hand
  Have : (frames : List Frame) (value : ValueSyntax) → ValueState
  NoValue : ValueState

-- ---- a value begins

abbrev pub truth_begin : List Frame → Kind → ValueState
truth_begin frames (kind.Word keyword.True) = Have frames (raw_truth true)
truth_begin frames (kind.Word keyword.False) = Have frames (raw_truth false)
truth_begin frames _ = NoValue

abbrev pub number_begin : List Frame → Kind → ℕ → ValueState
number_begin frames (kind.Number value digits one) at = Counted frames at false value
number_begin frames (kind.Sign symbol.Minus) at = Negative frames
number_begin frames _ at = NoValue

abbrev pub list_begin : List Frame → ShapeTree → Kind → ValueState
list_begin frames t (kind.Sign symbol.LeftBracket) = Begun frames t
list_begin frames t _ = NoValue

abbrev pub open_fields : List Frame → ℕ → List FieldTree → ValueState
open_fields frames r [] = NoValue
open_fields frames r (f ∷ fs) = NeedName (InRecord r [] fs ∷ frames) f

abbrev pub open_record : List Frame → ℕ → Option RecordTree → ValueState
open_record frames r None = NoValue
open_record frames r (Some d) = open_fields frames r d.fields

abbrev pub record_begin : List Frame → ℕ → Option RecordTree → Kind → ValueState
record_begin frames r found (kind.Sign symbol.LeftBrace) = open_record frames r found
record_begin frames r found _ = NoValue

abbrev pub begin : List RecordTree → List Frame → ShapeTree → Kind → ℕ → ValueState
begin records frames bool_shape k at = truth_begin frames k
begin records frames num_shape k at = number_begin frames k at
begin records frames (list_shape t) k at = list_begin frames t k
begin records frames (record_shape r) k at = record_begin frames r (slice_get records r) k

-- an item, or the list ends
abbrev pub begun : List RecordTree → List Frame → ShapeTree → Kind → ℕ → ValueState
begun records frames t (kind.Sign symbol.RightBracket) at = Have frames (raw_list raw_none)
begun records frames t k at = begin records (InList t [] ∷ frames) t k at

abbrev pub negative_act : List Frame → Kind → ℕ → ValueState
negative_act frames (kind.Number value digits one) at = Counted frames at true value
negative_act frames _ at = NoValue

abbrev pub named : List Frame → FieldTree → Kind → ValueState
named frames f (kind.Name x) = cond (bytes_eq x f.name) (NeedEqual frames (type_shape f.type)) NoValue
named frames f _ = NoValue

abbrev pub equal_act : List Frame → ShapeTree → Kind → ValueState
equal_act frames s (kind.Sign symbol.Equal) = Need frames s
equal_act frames s _ = NoValue

-- ---- a value ends

-- the token after these items
abbrev pub item_end : List Frame → ShapeTree → List ValueSyntax → Kind → ValueState
item_end frames t items (kind.Sign symbol.Semicolon) = Need (InList t items ∷ frames) t
item_end frames t items (kind.Sign symbol.RightBracket) = Have frames (raw_list (raws_in_order items))
item_end frames t items _ = NoValue

-- the token after these parts of a record: the next field, or the end
abbrev pub next_end : List Frame → ℕ → List ValueSyntax → FieldTree → List FieldTree → Kind → ValueState
next_end frames r parts f fs (kind.Sign symbol.Semicolon) = NeedName (InRecord r parts fs ∷ frames) f
next_end frames r parts f fs _ = NoValue

abbrev pub last_end : List Frame → ℕ → List ValueSyntax → Kind → ValueState
last_end frames r parts (kind.Sign symbol.RightBrace) = Have frames (raw_record r (raws_in_order parts))
last_end frames r parts _ = NoValue

abbrev pub field_end : List Frame → ℕ → List ValueSyntax → List FieldTree → Kind → ValueState
field_end frames r parts [] k = last_end frames r parts k
field_end frames r parts (f ∷ fs) k = next_end frames r parts f fs k

-- the token after a value
abbrev pub ended : List Frame → ValueSyntax → Kind → ValueState
ended [] v k = NoValue
ended (InList t earlier ∷ frames) v k = item_end frames t (earlier ++ v ∷ []) k
ended (InRecord r earlier fs ∷ frames) v k = field_end frames r (earlier ++ v ∷ []) fs k

-- the token after a number: a glued `<`, or what ends the number
abbrev pub counted : List Frame → ℕ → Bool → Frac → Kind → Bool → ValueState
counted frames at negative value (kind.Sign symbol.Less) glued =
    cond glued (InNote frames at negative value NeedNote) NoValue
counted frames at negative value k glued = ended frames (raw_number at negative value None) k

-- the token after a note
abbrev pub note_end : List Frame → ℕ → Bool → Frac → NoteSyntax → Kind → ValueState
note_end frames at negative value n (kind.Sign symbol.Greater) = Have frames (raw_number at negative value (Some n))
note_end frames at negative value n _ = NoValue

-- the token that the note refused
abbrev pub note_ends : List Frame → ℕ → Bool → Frac → Option NoteSyntax → Kind → ValueState
note_ends frames at negative value None k = NoValue
note_ends frames at negative value (Some n) k = note_end frames at negative value n k

-- the note goes on, or ends
abbrev pub note_goes : List Frame → ℕ → Bool → Frac → NoteState → ValueState → ValueState
note_goes frames at negative value NeedNote ended = InNote frames at negative value NeedNote
note_goes frames at negative value (HaveHole place) ended = InNote frames at negative value (HaveHole place)
note_goes frames at negative value (InUnit place u) ended = InNote frames at negative value (InUnit place u)
note_goes frames at negative value NoNote ended = ended

-- ---- one token more

-- one that the note has refused, if one has begun
abbrev pub own_act : List RecordTree → ValueState → Kind → ℕ → Bool → ValueState
own_act records (Need frames s) k at glued = begin records frames s k at
own_act records (Begun frames t) k at glued = begun records frames t k at
own_act records (Negative frames) k at glued = negative_act frames k at
own_act records (Counted frames place negative value) k at glued = counted frames place negative value k glued
own_act records (InNote frames place negative value n) k at glued =
    note_ends frames place negative value (note_finish n) k
own_act records (NeedName frames f) k at glued = named frames f k
own_act records (NeedEqual frames s) k at glued = equal_act frames s k
own_act records (Have frames v) k at glued = ended frames v k
own_act records NoValue k at glued = NoValue

abbrev pub value_act : List RecordTree → ValueState → Kind → ℕ → Bool → ValueState
value_act records (Need frames s) k at glued = begin records frames s k at
value_act records (Begun frames t) k at glued = begun records frames t k at
value_act records (Negative frames) k at glued = negative_act frames k at
value_act records (Counted frames place negative value) k at glued = counted frames place negative value k glued
value_act records (InNote frames place negative value n) k at glued =
    note_goes frames place negative value (note_act n k at) (note_ends frames place negative value (note_finish n) k)
value_act records (NeedName frames f) k at glued = named frames f k
value_act records (NeedEqual frames s) k at glued = equal_act frames s k
value_act records (Have frames v) k at glued = ended frames v k
value_act records NoValue k at glued = NoValue

abbrev pub value_step : List RecordTree → ValueState → Token → ValueState
value_step records state token = value_act records state token.kind token.start token.glued

-- the value when all is read
abbrev pub whole : List Frame → ValueSyntax → Option ValueSyntax
whole [] v = Some v
whole (f ∷ fs) v = None

abbrev pub value_finish : ValueState → Option ValueSyntax
value_finish (Need frames s) = None
value_finish (Begun frames t) = None
value_finish (Negative frames) = None
value_finish (Counted frames at negative value) = whole frames (raw_number at negative value None)
value_finish (InNote frames at negative value n) = None
value_finish (NeedName frames f) = None
value_finish (NeedEqual frames s) = None
value_finish (Have frames v) = whole frames v
value_finish NoValue = None

-- ---- the least height of the highest unit text in a value text that begins with what was read

abbrev pub earlier_height : List ValueSyntax → ℕ
earlier_height [] = 0
earlier_height (v ∷ vs) = max (value_height v) (earlier_height vs)

abbrev pub frames_height : List Frame → ℕ
frames_height [] = 0
frames_height (InList t earlier ∷ frames) = max (earlier_height earlier) (frames_height frames)
frames_height (InRecord r earlier fs ∷ frames) = max (earlier_height earlier) (frames_height frames)

abbrev pub value_least : ValueState → ℕ
value_least (Need frames s) = frames_height frames
value_least (Begun frames t) = frames_height frames
value_least (Negative frames) = frames_height frames
value_least (Counted frames at negative value) = frames_height frames
value_least (InNote frames at negative value n) = max (frames_height frames) (note_least n)
value_least (NeedName frames f) = frames_height frames
value_least (NeedEqual frames s) = frames_height frames
value_least (Have frames v) = max (frames_height frames) (value_height v)
value_least NoValue = 0

-- the machine of value texts of a shape
abbrev pub machine_of_values : List RecordTree → ShapeTree → Machine ValueState Token ValueSyntax
machine_of_values records s =
    record {
      start = Need [] s;
      refused = NoValue;
      step = value_step records;
      finish = value_finish;
      least = value_least;
    }
