-- The least height of a value text that begins with what was read: a token of the value's own leaves it as it is.
use Rattle.std.proofs.Common.{◌≡◌, ◌≢◌, ℕ, ◌≤◌, max, Bool, true, false, cond, List, [], ◌∷◌, ◌++◌, slice_get, Option, Some, None, refl, sym, ap, ◌∙◌, arith}
use Rattle.std.specs.Str.{bytes_eq}
use Rattle.um_frac.specs.declared.number.Frac.{Frac}
use Rattle.um_syntax.specs.declared.token.Token.{Token}
use Rattle.um_syntax.specs.declared.token.Kind.{Kind}
use Rattle.um_syntax.specs.declared.token.Kind.TheVariants as kind
use Rattle.um_vocabulary.specs.declared.vocabulary.Keyword.TheVariants as keyword
use Rattle.um_vocabulary.specs.declared.vocabulary.Symbol.TheVariants as symbol
use Rattle.um_tree.specs.RawTree.{NoteSyntax}
use Rattle.um_tree.specs.TypeTree.{ShapeTree, bool_shape, num_shape, list_shape, record_shape}
use Rattle.um_tree.specs.ProgramTree.{FieldTree, RecordTree}
use Rattle.um_tree.specs.Shapes.{type_shape}
use Rattle.um_reader.proofs.Readers.{none_some, some_same}
use Rattle.um_types.specs.NoteMachine.{NoteState, NeedNote, HaveHole, InUnit, NoNote, note_step, note_finish, note_least}
use Rattle.um_types.proofs.NoteLaws.{note_up, note_found_height}
use Rattle.um_value.specs.ValueSyntax.{ValueSyntax, ValueSyntaxes, raw_number, raw_none, behind, raws_in_order}
use Rattle.um_value.specs.ValueGrammar.{value_height, raws_height}
use Rattle.um_value.specs.ValueMachine.{Frame, InList, InRecord, ValueState, Need, Begun, Negative, Counted, InNote, NeedName, NeedEqual, Have, NoValue, truth_begin, number_begin, list_begin, open_fields, open_record, record_begin, begin, begun, negative_act, named, equal_act, item_end, next_end, last_end, ended, counted, note_end, note_ends, note_goes, own_act, value_step, whole, value_finish, earlier_height, frames_height, value_least}

pub behind_height : (earlier : List ValueSyntax) (vs : ValueSyntaxes) → raws_height (behind earlier vs) ≡ max (earlier_height earlier) (raws_height vs)
behind_height [] vs = omega arith
behind_height (v ∷ earlier) vs = let e = behind_height earlier vs in omega (arith, e)

earlier_last : (earlier : List ValueSyntax) (v : ValueSyntax) → earlier_height (earlier ++ v ∷ []) ≡ max (earlier_height earlier) (value_height v)
earlier_last [] v = omega arith
earlier_last (w ∷ earlier) v = let e = earlier_last earlier v in omega (arith, e)

in_order_last : (earlier : List ValueSyntax) (v : ValueSyntax) → raws_height (raws_in_order (earlier ++ v ∷ [])) ≡ max (earlier_height earlier) (value_height v)
in_order_last earlier v = let e = behind_height (earlier ++ v ∷ []) raw_none in let f = earlier_last earlier v in omega (arith, e, f)

-- ---- a value ends

item_same : (frames : List Frame) (t : ShapeTree) (earlier : List ValueSyntax) (v : ValueSyntax) (k : Kind) → item_end frames t (earlier ++ v ∷ []) k ≢ NoValue
    → value_least (item_end frames t (earlier ++ v ∷ []) k) ≡ max (max (earlier_height earlier) (frames_height frames)) (value_height v)
item_same frames t earlier v (kind.Sign symbol.Semicolon) ok = let e = earlier_last earlier v in omega (arith, e)
item_same frames t earlier v (kind.Sign symbol.RightBracket) ok = let e = in_order_last earlier v in omega (arith, e)
item_same frames t earlier v _ ok = absurd (ok refl)

next_same : (frames : List Frame) (r : ℕ) (earlier : List ValueSyntax) (v : ValueSyntax) (f : FieldTree) (fs : List FieldTree) (k : Kind) → next_end frames r (earlier ++ v ∷ []) f fs k ≢ NoValue
    → value_least (next_end frames r (earlier ++ v ∷ []) f fs k) ≡ max (max (earlier_height earlier) (frames_height frames)) (value_height v)
next_same frames r earlier v f fs (kind.Sign symbol.Semicolon) ok = let e = earlier_last earlier v in omega (arith, e)
next_same frames r earlier v f fs _ ok = absurd (ok refl)

last_same : (frames : List Frame) (r : ℕ) (earlier : List ValueSyntax) (v : ValueSyntax) (k : Kind) → last_end frames r (earlier ++ v ∷ []) k ≢ NoValue
    → value_least (last_end frames r (earlier ++ v ∷ []) k) ≡ max (max (earlier_height earlier) (frames_height frames)) (value_height v)
last_same frames r earlier v (kind.Sign symbol.RightBrace) ok = let e = in_order_last earlier v in omega (arith, e)
last_same frames r earlier v _ ok = absurd (ok refl)

ended_same : (frames : List Frame) (v : ValueSyntax) (k : Kind) → ended frames v k ≢ NoValue → value_least (ended frames v k) ≡ max (frames_height frames) (value_height v)
ended_same [] v k ok = absurd (ok refl)
ended_same (InList t earlier ∷ frames) v k ok = item_same frames t earlier v k ok
ended_same (InRecord r earlier [] ∷ frames) v k ok = last_same frames r earlier v k ok
ended_same (InRecord r earlier (f ∷ fs) ∷ frames) v k ok = next_same frames r earlier v f fs k ok

-- ---- a value begins

truth_same : (frames : List Frame) (k : Kind) → truth_begin frames k ≢ NoValue → value_least (truth_begin frames k) ≡ frames_height frames
truth_same frames (kind.Word keyword.True) ok = omega arith
truth_same frames (kind.Word keyword.False) ok = omega arith
truth_same frames _ ok = absurd (ok refl)

number_same : (frames : List Frame) (k : Kind) (at : ℕ) → number_begin frames k at ≢ NoValue → value_least (number_begin frames k at) ≡ frames_height frames
number_same frames (kind.Number value digits one) at ok = refl
number_same frames (kind.Sign symbol.Minus) at ok = refl
number_same frames _ at ok = absurd (ok refl)

list_same : (frames : List Frame) (t : ShapeTree) (k : Kind) → list_begin frames t k ≢ NoValue → value_least (list_begin frames t k) ≡ frames_height frames
list_same frames t (kind.Sign symbol.LeftBracket) ok = refl
list_same frames t _ ok = absurd (ok refl)

fields_same : (frames : List Frame) (r : ℕ) (fs : List FieldTree) → open_fields frames r fs ≢ NoValue → value_least (open_fields frames r fs) ≡ frames_height frames
fields_same frames r [] ok = absurd (ok refl)
fields_same frames r (f ∷ fs) ok = omega arith

open_same : (frames : List Frame) (r : ℕ) (o : Option RecordTree) → open_record frames r o ≢ NoValue → value_least (open_record frames r o) ≡ frames_height frames
open_same frames r None ok = absurd (ok refl)
open_same frames r (Some d) ok = fields_same frames r d.fields ok

record_same : (frames : List Frame) (r : ℕ) (o : Option RecordTree) (k : Kind) → record_begin frames r o k ≢ NoValue → value_least (record_begin frames r o k) ≡ frames_height frames
record_same frames r o (kind.Sign symbol.LeftBrace) ok = open_same frames r o ok
record_same frames r o _ ok = absurd (ok refl)

begin_same : (records : List RecordTree) (frames : List Frame) (s : ShapeTree) (k : Kind) (at : ℕ) → begin records frames s k at ≢ NoValue → value_least (begin records frames s k at) ≡ frames_height frames
begin_same records frames bool_shape k at ok = truth_same frames k ok
begin_same records frames num_shape k at ok = number_same frames k at ok
begin_same records frames (list_shape t) k at ok = list_same frames t k ok
begin_same records frames (record_shape r) k at ok = record_same frames r (slice_get records r) k ok

first_same : (records : List RecordTree) (frames : List Frame) (t : ShapeTree) (k : Kind) (at : ℕ) → begin records (InList t [] ∷ frames) t k at ≢ NoValue → value_least (begin records (InList t [] ∷ frames) t k at) ≡ frames_height frames
first_same records frames t k at ok = let e = begin_same records (InList t [] ∷ frames) t k at ok in omega (arith, e)

begun_same : (records : List RecordTree) (frames : List Frame) (t : ShapeTree) (k : Kind) (at : ℕ) → begun records frames t k at ≢ NoValue → value_least (begun records frames t k at) ≡ frames_height frames
begun_same records frames t (kind.Sign symbol.RightBracket) at ok = omega arith
begun_same records frames t k at ok = first_same records frames t k at ok

negative_same : (frames : List Frame) (k : Kind) (at : ℕ) → negative_act frames k at ≢ NoValue → value_least (negative_act frames k at) ≡ frames_height frames
negative_same frames (kind.Number value digits one) at ok = refl
negative_same frames _ at ok = absurd (ok refl)

angle_same : (frames : List Frame) (at : ℕ) (negative : Bool) (value : Frac) (glued : Bool) → cond glued (InNote frames at negative value NeedNote) NoValue ≢ NoValue
    → value_least (cond glued (InNote frames at negative value NeedNote) NoValue) ≡ frames_height frames
angle_same frames at negative value true ok = omega arith
angle_same frames at negative value false ok = absurd (ok refl)

plain_same : (frames : List Frame) (at : ℕ) (negative : Bool) (value : Frac) (k : Kind) → ended frames (raw_number at negative value None) k ≢ NoValue → value_least (ended frames (raw_number at negative value None) k) ≡ frames_height frames
plain_same frames at negative value k ok = let e = ended_same frames (raw_number at negative value None) k ok in omega (arith, e)

counted_same : (frames : List Frame) (at : ℕ) (negative : Bool) (value : Frac) (k : Kind) (glued : Bool) → counted frames at negative value k glued ≢ NoValue → value_least (counted frames at negative value k glued) ≡ frames_height frames
counted_same frames at negative value (kind.Sign symbol.Less) glued ok = angle_same frames at negative value glued ok
counted_same frames at negative value k glued ok = plain_same frames at negative value k ok

note_end_same : (frames : List Frame) (at : ℕ) (negative : Bool) (value : Frac) (note : NoteState) (n : NoteSyntax) (k : Kind) → note_finish note ≡ Some n → note_end frames at negative value n k ≢ NoValue
    → value_least (note_end frames at negative value n k) ≡ max (frames_height frames) (note_least note)
note_end_same frames at negative value note n (kind.Sign symbol.Greater) found ok = let e = note_found_height note n found in omega (arith, e)
note_end_same frames at negative value note n _ found ok = absurd (ok refl)

note_ends_same : (frames : List Frame) (at : ℕ) (negative : Bool) (value : Frac) (note : NoteState) (o : Option NoteSyntax) (k : Kind) → note_finish note ≡ o → note_ends frames at negative value o k ≢ NoValue
    → value_least (note_ends frames at negative value o k) ≡ max (frames_height frames) (note_least note)
note_ends_same frames at negative value note None k found ok = absurd (ok refl)
note_ends_same frames at negative value note (Some n) k found ok = note_end_same frames at negative value note n k found ok

name_same : (frames : List Frame) (s : ShapeTree) (same : Bool) → cond same (NeedEqual frames s) NoValue ≢ NoValue → value_least (cond same (NeedEqual frames s) NoValue) ≡ frames_height frames
name_same frames s true ok = refl
name_same frames s false ok = absurd (ok refl)

named_same : (frames : List Frame) (f : FieldTree) (k : Kind) → named frames f k ≢ NoValue → value_least (named frames f k) ≡ frames_height frames
named_same frames f (kind.Name x) ok = name_same frames (type_shape f.type) (bytes_eq x f.name) ok
named_same frames f _ ok = absurd (ok refl)

equal_same : (frames : List Frame) (s : ShapeTree) (k : Kind) → equal_act frames s k ≢ NoValue → value_least (equal_act frames s k) ≡ frames_height frames
equal_same frames s (kind.Sign symbol.Equal) ok = refl
equal_same frames s _ ok = absurd (ok refl)

-- ---- any state

pub own_same : (records : List RecordTree) (st : ValueState) (k : Kind) (at : ℕ) (glued : Bool) → own_act records st k at glued ≢ NoValue → value_least (own_act records st k at glued) ≡ value_least st
own_same records (Need frames s) k at glued ok = begin_same records frames s k at ok
own_same records (Begun frames t) k at glued ok = begun_same records frames t k at ok
own_same records (Negative frames) k at glued ok = negative_same frames k at ok
own_same records (Counted frames place negative value) k at glued ok = counted_same frames place negative value k glued ok
own_same records (InNote frames place negative value note) k at glued ok = note_ends_same frames place negative value note (note_finish note) k refl ok
own_same records (NeedName frames f) k at glued ok = named_same frames f k ok
own_same records (NeedEqual frames s) k at glued ok = equal_same frames s k ok
own_same records (Have frames v) k at glued ok = ended_same frames v k ok
own_same records NoValue k at glued ok = absurd (ok refl)

same_up : (m n : ℕ) → m ≡ n → n ≤ m
same_up m n e = omega (arith, e)

note_in_up : (frames : List Frame) (at : ℕ) (negative : Bool) (value : Frac) (note next : NoteState) (x : Token) → note_step note x ≡ next → next ≢ NoNote
    → value_least (InNote frames at negative value note) ≤ value_least (InNote frames at negative value next)
note_in_up frames at negative value note next x is ok = let up = note_up note x (λ h. ok (sym is ∙ h)) in let e = ap note_least is in omega (arith, up, e)

note_goes_up : (records : List RecordTree) (frames : List Frame) (at : ℕ) (negative : Bool) (value : Frac) (note next : NoteState) (x : Token) → note_step note x ≡ next
    → note_goes frames at negative value next (note_ends frames at negative value (note_finish note) x.kind) ≢ NoValue
    → value_least (InNote frames at negative value note) ≤ value_least (note_goes frames at negative value next (note_ends frames at negative value (note_finish note) x.kind))
note_goes_up records frames at negative value note NeedNote x is ok = note_in_up frames at negative value note NeedNote x is (λ h. cc)
note_goes_up records frames at negative value note (HaveHole place) x is ok = note_in_up frames at negative value note (HaveHole place) x is (λ h. cc)
note_goes_up records frames at negative value note (InUnit place u) x is ok = note_in_up frames at negative value note (InUnit place u) x is (λ h. cc)
note_goes_up records frames at negative value note NoNote x is ok = same_up _ _ (own_same records (InNote frames at negative value note) x.kind x.start x.glued ok)

-- a token never lowers it
pub value_up : (records : List RecordTree) (st : ValueState) (x : Token) → value_step records st x ≢ NoValue → value_least st ≤ value_least (value_step records st x)
value_up records (InNote frames at negative value note) x ok = note_goes_up records frames at negative value note (note_step note x) x refl ok
value_up records (Need frames s) x ok = same_up _ _ (own_same records (Need frames s) x.kind x.start x.glued ok)
value_up records (Begun frames t) x ok = same_up _ _ (own_same records (Begun frames t) x.kind x.start x.glued ok)
value_up records (Negative frames) x ok = same_up _ _ (own_same records (Negative frames) x.kind x.start x.glued ok)
value_up records (Counted frames at negative value) x ok = same_up _ _ (own_same records (Counted frames at negative value) x.kind x.start x.glued ok)
value_up records (NeedName frames f) x ok = same_up _ _ (own_same records (NeedName frames f) x.kind x.start x.glued ok)
value_up records (NeedEqual frames s) x ok = same_up _ _ (own_same records (NeedEqual frames s) x.kind x.start x.glued ok)
value_up records (Have frames v) x ok = same_up _ _ (own_same records (Have frames v) x.kind x.start x.glued ok)
value_up records NoValue x ok = absurd (ok refl)

whole_height : (frames : List Frame) (v u : ValueSyntax) → whole frames v ≡ Some u → value_height u ≡ max (frames_height frames) (value_height v)
whole_height [] v u e = let same = ap value_height (some_same v u e) in omega (arith, same)
whole_height (f ∷ frames) v u e = absurd (none_some u e)

-- what is found has it
pub value_found_height : (st : ValueState) (u : ValueSyntax) → value_finish st ≡ Some u → value_height u ≡ value_least st
value_found_height (Counted frames at negative value) u e = let h = whole_height frames (raw_number at negative value None) u e in omega (arith, h)
value_found_height (Have frames v) u e = whole_height frames v u e
value_found_height (Need frames s) u e = absurd (none_some u e)
value_found_height (Begun frames t) u e = absurd (none_some u e)
value_found_height (Negative frames) u e = absurd (none_some u e)
value_found_height (InNote frames at negative value n) u e = absurd (none_some u e)
value_found_height (NeedName frames f) u e = absurd (none_some u e)
value_found_height (NeedEqual frames s) u e = absurd (none_some u e)
value_found_height NoValue u e = absurd (none_some u e)
