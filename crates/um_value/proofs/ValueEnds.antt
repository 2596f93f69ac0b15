-- What isn't refused can be completed, to the least height.
use Rattle.std.proofs.Common.{◌≡◌, ◌≢◌, ℕ, max, Bool, true, false, cond, List, [], ◌∷◌, ◌++◌, slice_get, Option, Some, None, refl, sym, ap, ◌∙◌, arith}
use Rattle.std.specs.Str.{bytes_eq}
use Rattle.um_frac.specs.declared.number.Frac.{Frac}
use Rattle.um_syntax.specs.declared.token.Token.{Token}
use Rattle.um_syntax.specs.declared.token.Kind.{Kind}
use Rattle.um_syntax.specs.declared.token.Kind.TheVariants as kind
use Rattle.um_vocabulary.specs.declared.vocabulary.Keyword.TheVariants as keyword
use Rattle.um_vocabulary.specs.declared.vocabulary.Symbol.TheVariants as symbol
use Rattle.um_tree.specs.RawTree.{NoteSyntax}
use Rattle.um_tree.specs.TypeTree.{ShapeTree, bool_shape, num_shape, list_shape, record_shape}
use Rattle.um_tree.specs.ProgramTree.{FieldTree, RecordTree}
use Rattle.um_tree.specs.Shapes.{type_shape}
use Rattle.um_reader.specs.Machine.{runs}
use Rattle.um_reader.proofs.Reaching.{runs_append}
use Rattle.um_reader.proofs.Readers.{one_more}
use Rattle.um_types.specs.NoteMachine.{NoteState, NeedNote, HaveHole, InUnit, NoNote, note_step, note_finish, machine_of_notes}
use Rattle.um_types.proofs.ReaderLaws.{notes_read}
use Rattle.um_value.specs.ValueSyntax.{ValueSyntax, raw_number, raw_list, raw_record, raw_none, raw_more, behind}
use Rattle.um_value.specs.ValueGrammar.{IsShapeIn, value_height}
use Rattle.um_value.specs.ValueMachine.{Frame, InList, InRecord, ValueState, Need, Begun, Negative, Counted, InNote, NeedName, NeedEqual, Have, NoValue, truth_begin, number_begin, list_begin, open_fields, open_record, record_begin, begin, begun, negative_act, named, equal_act, item_end, next_end, last_end, ended, counted, note_end, note_ends, note_goes, value_step, frames_height, value_least}
use Rattle.um_value.proofs.ValueFrom.{Closes, From}
use Rattle.um_value.proofs.ValueHeights.{behind_height}
use Rattle.um_value.proofs.ValueTexts.{sign_token, name_token, number_token, zero_number, HasText, ShapesIn, FieldsHave, named_spells, MoreFields, more_fields}

module _ (records : List RecordTree) where
  abbrev FramesIn : List Frame → Type 0
  FramesIn [] = Unit {0}
  FramesIn (InList t earlier ∷ frames) = IsShapeIn records t × FramesIn frames
  FramesIn (InRecord r earlier fs ∷ frames) = ShapesIn records fs × FramesIn frames

  -- the state of a note that tokens have begun
  abbrev NoteBegun : NoteState → Type 0
  NoteBegun note = (read : List Token) × (note ≡ runs note_step NeedNote read) × (note ≢ NoNote)

  -- all records that the state waits for are there
  abbrev pub StateIn : ValueState → Type 0
  StateIn (Need frames s) = IsShapeIn records s × FramesIn frames
  StateIn (Begun frames t) = IsShapeIn records t × FramesIn frames
  StateIn (Negative frames) = FramesIn frames
  StateIn (Counted frames at negative value) = FramesIn frames
  StateIn (InNote frames at negative value note) = FramesIn frames × NoteBegun note
  StateIn (NeedName frames f) = IsShapeIn records (type_shape f.type) × FramesIn frames
  StateIn (NeedEqual frames s) = IsShapeIn records s × FramesIn frames
  StateIn (Have frames v) = FramesIn frames
  StateIn NoValue = Unit {0}

  -- ---- a token keeps this

  item_in : (frames : List Frame) (t : ShapeTree) (items : List ValueSyntax) (k : Kind) → IsShapeIn records t → FramesIn frames → StateIn (item_end frames t items k)
  item_in frames t items (kind.Sign symbol.Semicolon) is h = (is, (is, h))
  item_in frames t items (kind.Sign symbol.RightBracket) is h = h
  item_in frames t items _ is h = tt

  next_in : (frames : List Frame) (r : ℕ) (parts : List ValueSyntax) (f : FieldTree) (fs : List FieldTree) (k : Kind) → IsShapeIn records (type_shape f.type) → ShapesIn records fs → FramesIn frames → StateIn (next_end frames r parts f fs k)
  next_in frames r parts f fs (kind.Sign symbol.Semicolon) is are h = (is, (are, h))
  next_in frames r parts f fs _ is are h = tt

  last_in : (frames : List Frame) (r : ℕ) (parts : List ValueSyntax) (k : Kind) → FramesIn frames → StateIn (last_end frames r parts k)
  last_in frames r parts (kind.Sign symbol.RightBrace) h = h
  last_in frames r parts _ h = tt

  ended_in : (frames : List Frame) (v : ValueSyntax) (k : Kind) → FramesIn frames → StateIn (ended frames v k)
  ended_in [] v k h = tt
  ended_in (InList t earlier ∷ frames) v k h = item_in frames t (earlier ++ v ∷ []) k h.0 h.1
  ended_in (InRecord r earlier [] ∷ frames) v k h = last_in frames r (earlier ++ v ∷ []) k h.1
  ended_in (InRecord r earlier (f ∷ fs) ∷ frames) v k h = next_in frames r (earlier ++ v ∷ []) f fs k h.0.0 h.0.1 h.1

  truth_in : (frames : List Frame) (k : Kind) → FramesIn frames → StateIn (truth_begin frames k)
  truth_in frames (kind.Word keyword.True) h = h
  truth_in frames (kind.Word keyword.False) h = h
  truth_in frames _ h = tt

  number_in : (frames : List Frame) (k : Kind) (at : ℕ) → FramesIn frames → StateIn (number_begin frames k at)
  number_in frames (kind.Number value digits one) at h = h
  number_in frames (kind.Sign symbol.Minus) at h = h
  number_in frames _ at h = tt

  list_in : (frames : List Frame) (t : ShapeTree) (k : Kind) → IsShapeIn records t → FramesIn frames → StateIn (list_begin frames t k)
  list_in frames t (kind.Sign symbol.LeftBracket) is h = (is, h)
  list_in frames t _ is h = tt

  negative_in : (frames : List Frame) (k : Kind) (at : ℕ) → FramesIn frames → StateIn (negative_act frames k at)
  negative_in frames (kind.Number value digits one) at h = h
  negative_in frames _ at h = tt

  angle_in : (frames : List Frame) (at : ℕ) (negative : Bool) (value : Frac) (glued : Bool) → FramesIn frames → StateIn (cond glued (InNote frames at negative value NeedNote) NoValue)
  angle_in frames at negative value true h = (h, ([], refl, (λ e. cc)))
  angle_in frames at negative value false h = tt

  counted_in : (frames : List Frame) (at : ℕ) (negative : Bool) (value : Frac) (k : Kind) (glued : Bool) → FramesIn frames → StateIn (counted frames at negative value k glued)
  counted_in frames at negative value (kind.Sign symbol.Less) glued h = angle_in frames at negative value glued h
  counted_in frames at negative value k glued h = ended_in frames (raw_number at negative value None) k h

  note_end_in : (frames : List Frame) (at : ℕ) (negative : Bool) (value : Frac) (n : NoteSyntax) (k : Kind) → FramesIn frames → StateIn (note_end frames at negative value n k)
  note_end_in frames at negative value n (kind.Sign symbol.Greater) h = h
  note_end_in frames at negative value n _ h = tt

  note_ends_in : (frames : List Frame) (at : ℕ) (negative : Bool) (value : Frac) (o : Option NoteSyntax) (k : Kind) → FramesIn frames → StateIn (note_ends frames at negative value o k)
  note_ends_in frames at negative value None k h = tt
  note_ends_in frames at negative value (Some n) k h = note_end_in frames at negative value n k h

  on_in : (note next : NoteState) (x : Token) → note_step note x ≡ next → next ≢ NoNote → NoteBegun note → NoteBegun next
  on_in note next x is ok h = (h.0 ++ x ∷ [], sym is ∙ ap (λ m. note_step m x) h.1 ∙ one_more machine_of_notes h.0 x, ok)

  note_in : (frames : List Frame) (at : ℕ) (negative : Bool) (value : Frac) (note next : NoteState) (x : Token) → note_step note x ≡ next → FramesIn frames → NoteBegun note
      → StateIn (note_goes frames at negative value next (note_ends frames at negative value (note_finish note) x.kind))
  note_in frames at negative value note NeedNote x is h b = (h, on_in note NeedNote x is (λ e. cc) b)
  note_in frames at negative value note (HaveHole place) x is h b = (h, on_in note (HaveHole place) x is (λ e. cc) b)
  note_in frames at negative value note (InUnit place u) x is h b = (h, on_in note (InUnit place u) x is (λ e. cc) b)
  note_in frames at negative value note NoNote x is h b = note_ends_in frames at negative value (note_finish note) x.kind h

  name_in : (frames : List Frame) (s : ShapeTree) (same : Bool) → IsShapeIn records s → FramesIn frames → StateIn (cond same (NeedEqual frames s) NoValue)
  name_in frames s true is h = (is, h)
  name_in frames s false is h = tt

  named_in : (frames : List Frame) (f : FieldTree) (k : Kind) → IsShapeIn records (type_shape f.type) → FramesIn frames → StateIn (named frames f k)
  named_in frames f (kind.Name x) is h = name_in frames (type_shape f.type) (bytes_eq x f.name) is h
  named_in frames f _ is h = tt

  equal_in : (frames : List Frame) (s : ShapeTree) (k : Kind) → IsShapeIn records s → FramesIn frames → StateIn (equal_act frames s k)
  equal_in frames s (kind.Sign symbol.Equal) is h = (is, h)
  equal_in frames s _ is h = tt

  module _ (declared : (r : ℕ) (d : RecordTree) → slice_get records r ≡ Some d → ShapesIn records d.fields) where
    fields_in : (frames : List Frame) (r : ℕ) (fs : List FieldTree) → ShapesIn records fs → FramesIn frames → StateIn (open_fields frames r fs)
    fields_in frames r [] are h = tt
    fields_in frames r (f ∷ fs) are h = (are.0, (are.1, h))

    open_in : (frames : List Frame) (r : ℕ) (o : Option RecordTree) → slice_get records r ≡ o → FramesIn frames → StateIn (open_record frames r o)
    open_in frames r None is h = tt
    open_in frames r (Some d) is h = fields_in frames r d.fields (declared r d is) h

    record_in : (frames : List Frame) (r : ℕ) (k : Kind) → FramesIn frames → StateIn (record_begin frames r (slice_get records r) k)
    record_in frames r (kind.Sign symbol.LeftBrace) h = open_in frames r (slice_get records r) refl h
    record_in frames r _ h = tt

    begin_in : (frames : List Frame) (s : ShapeTree) (k : Kind) (at : ℕ) → IsShapeIn records s → FramesIn frames → StateIn (begin records frames s k at)
    begin_in frames bool_shape k at is h = truth_in frames k h
    begin_in frames num_shape k at is h = number_in frames k at h
    begin_in frames (list_shape t) k at is h = list_in frames t k is h
    begin_in frames (record_shape r) k at is h = record_in frames r k h

    begun_in : (frames : List Frame) (t : ShapeTree) (k : Kind) (at : ℕ) → IsShapeIn records t → FramesIn frames → StateIn (begun records frames t k at)
    begun_in frames t (kind.Sign symbol.RightBracket) at is h = h
    begun_in frames t k at is h = begin_in (InList t [] ∷ frames) t k at is (is, h)

    pub step_in : (st : ValueState) (x : Token) → StateIn st → StateIn (value_step records st x)
    step_in (Need frames s) x h = begin_in frames s x.kind x.start h.0 h.1
    step_in (Begun frames t) x h = begun_in frames t x.kind x.start h.0 h.1
    step_in (Negative frames) x h = negative_in frames x.kind x.start h
    step_in (Counted frames at negative value) x h = counted_in frames at negative value x.kind x.glued h
    step_in (InNote frames at negative value note) x h = note_in frames at negative value note (note_step note x) x refl h.0 h.1
    step_in (NeedName frames f) x h = named_in frames f x.kind h.0 h.1
    step_in (NeedEqual frames s) x h = equal_in frames s x.kind h.0 h.1
    step_in (Have frames v) x h = ended_in frames v x.kind h
    step_in NoValue x h = tt

    pub runs_in : (read : List Token) (st : ValueState) → StateIn st → StateIn (runs (value_step records) st read)
    runs_in [] st h = h
    runs_in (x ∷ read) st h = runs_in read (value_step records st x) (step_in st x h)

  -- ---- and what waits for records that are there can be completed

  module _ (texts : (s : ShapeTree) → IsShapeIn records s → HasText records s) where
    fields_have : (fs : List FieldTree) → ShapesIn records fs → FieldsHave records fs
    fields_have [] are = tt
    fields_have (f ∷ fs) are = (texts (type_shape f.type) are.0, fields_have fs are.1)

    abbrev Closing : List Frame → ValueSyntax → Type 0
    Closing frames v = (more : List Token) × (u : ValueSyntax) × Closes records frames v more u × (value_height u ≡ max (frames_height frames) (value_height v))

    closing : (frames : List Frame) (v : ValueSyntax) → FramesIn frames → Closing frames v
    closing [] v h = ([], v, (refl, refl), omega arith)
    closing (InList t earlier ∷ frames) v h =
        let p = closing frames (raw_list (behind earlier (raw_more v raw_none))) h.1 in
        let same = p.3 in
        let high = behind_height earlier (raw_more v raw_none) in
        (sign_token symbol.RightBracket ∷ p.0, p.1, (raw_none, p.0, (sign_token symbol.RightBracket, refl, refl), p.2), omega (arith, same, high))
    closing (InRecord r earlier fs ∷ frames) v h =
        let q : MoreFields records fs = more_fields records fs (fields_have fs h.0) in
        let p = closing frames (raw_record r (behind earlier (raw_more v q.0))) h.1 in
        let same = p.3 in
        let none = q.3 in
        let high = behind_height earlier (raw_more v q.0) in
        (q.1 ++ p.0, p.1, (q.0, p.0, q.2 p.0, p.2), omega (arith, same, none, high))

    abbrev Completion : ValueState → Type 0
    Completion st = (more : List Token) × (u : ValueSyntax) × From records st more u × (value_height u ≡ value_least st)

    need_ends : (frames : List Frame) (s : ShapeTree) → IsShapeIn records s → FramesIn frames → Completion (Need frames s)
    need_ends frames s is h =
        let t : HasText records s = texts s is in
        let p = closing frames t.0 h in
        let same = p.3 in
        let none = t.3 in
        (t.1 ++ p.0, p.1, (t.0, p.0, t.2 p.0, p.2), omega (arith, same, none))

    note_ends_so : (frames : List Frame) (at : ℕ) (negative : Bool) (value : Frac) (note : NoteState) → FramesIn frames → NoteBegun note → Completion (InNote frames at negative value note)
    note_ends_so frames at negative value note h b =
        let e = notes_read.completed b.0 (λ g. b.2 (b.1 ∙ g)) in
        let found : note_finish (runs note_step note e.0) ≡ Some e.1 =
        ap (λ m. note_finish (runs note_step m e.0)) b.1 ∙ ap note_finish (sym (runs_append note_step b.0 e.0 NeedNote)) ∙ notes_read.finds (b.0 ++ e.0) e.1 e.2 in
        let p = closing frames (raw_number at negative value (Some e.1)) h in
        let same = p.3 in
        let high = e.3 in
        let least = ap (λ m. value_least (InNote frames at negative value m)) b.1 in (
          e.0 ++ sign_token symbol.Greater ∷ p.0,
          p.1,
          (e.0, sign_token symbol.Greater ∷ p.0, p.0, e.1, refl, found, (sign_token symbol.Greater, refl, refl), p.2),
          omega (arith, same, high, least),
        )

    pub completion : (st : ValueState) → StateIn st → st ≢ NoValue → Completion st
    completion (Need frames s) h ok = need_ends frames s h.0 h.1
    completion (Begun frames t) h ok =
        let p = closing frames (raw_list raw_none) h.1 in
        let same = p.3 in
        (sign_token symbol.RightBracket ∷ p.0, p.1, (raw_none, p.0, (sign_token symbol.RightBracket, refl, refl), p.2), omega (arith, same))
    completion (Negative frames) h ok =
        let p = closing frames (raw_number 0 true zero_number None) h in
        let same = p.3 in
        (number_token ∷ p.0, p.1, (0, zero_number, None, p.0, (p.0, (number_token, true, false, refl, refl, refl), refl), p.2), omega (arith, same))
    completion (Counted frames at negative value) h ok =
        let p = closing frames (raw_number at negative value None) h in
        let same = p.3 in
        (p.0, p.1, (None, p.0, refl, p.2), omega (arith, same))
    completion (InNote frames at negative value note) h ok = note_ends_so frames at negative value note h.0 h.1
    completion (NeedName frames f) h ok =
        let t : HasText records (type_shape f.type) = texts (type_shape f.type) h.0 in
        let p = closing frames t.0 h.1 in
        let same = p.3 in
        let none = t.3 in
        (name_token f.name ∷ sign_token symbol.Equal ∷ (t.1 ++ p.0), p.1, (t.0, p.0, named_spells records f t p.0, p.2), omega (arith, same, none))
    completion (NeedEqual frames s) h ok =
        let t : HasText records s = texts s h.0 in
        let p = closing frames t.0 h.1 in
        let same = p.3 in
        let none = t.3 in
        (sign_token symbol.Equal ∷ (t.1 ++ p.0), p.1, (t.0, t.1 ++ p.0, p.0, (sign_token symbol.Equal, refl, refl), t.2 p.0, p.2), omega (arith, same, none))
    completion (Have frames v) h ok = closing frames v h
    completion NoValue h ok = absurd (ok refl)
