-- What the tokens behind a state are goes over to the next state with the first of them.
use Rattle.std.proofs.Common.{◌≡◌, ◌≢◌, ℕ, Bool, true, false, cond, List, [], ◌∷◌, ◌++◌, slice_get, Option, Some, None, refl, sym, ap, subst, ◌∙◌}
use Rattle.std.specs.Str.{bytes_eq}
use Rattle.std.proofs.lemmas.Slice.Eq.{bytes_eq-Decides}
use Rattle.um_frac.specs.declared.number.Frac.{Frac}
use Rattle.um_syntax.specs.declared.token.Token.{Token}
use Rattle.um_syntax.specs.declared.token.Kind.{Kind}
use Rattle.um_syntax.specs.declared.token.Kind.TheVariants as kind
use Rattle.um_vocabulary.specs.declared.vocabulary.Keyword.TheVariants as keyword
use Rattle.um_vocabulary.specs.declared.vocabulary.Symbol.TheVariants as symbol
use Rattle.um_tree.specs.RawTree.{NoteSyntax}
use Rattle.um_tree.specs.TypeTree.{ShapeTree, bool_shape, num_shape, list_shape, record_shape}
use Rattle.um_tree.specs.ProgramTree.{FieldTree, RecordTree}
use Rattle.um_tree.specs.Shapes.{type_shape}
use Rattle.um_reader.specs.Machine.{runs}
use Rattle.um_reader.proofs.Reaching.{runs_refused}
use Rattle.um_reader.proofs.Readers.{none_some}
use Rattle.um_types.specs.TypeGrammar.{FirstSign}
use Rattle.um_unit_texts.specs.UnitTokens.{sign}
use Rattle.um_types.specs.NoteMachine.{NoteState, NeedNote, HaveHole, InUnit, NoNote, unit_goes, note_act, note_step, note_finish}
use Rattle.um_unit_texts.proofs.ForeignTokens.{foreign_refused}
use Rattle.um_types.proofs.ReaderLaws.{notes_read}
use Rattle.um_value.specs.ValueSyntax.{ValueSyntax, ValueSyntaxes, raw_truth, raw_number, raw_list, raw_record, raw_none, raw_more, behind}
use Rattle.um_value.specs.ValueGrammar.{WrittenSpells, PlainSpells, NamedSpells, Spells, ItemsSpell, FieldsSpell}
use Rattle.um_value.specs.ValueMachine.{Frame, InList, InRecord, ValueState, Need, Begun, Negative, Counted, InNote, NeedName, NeedEqual, Have, NoValue, truth_begin, number_begin, list_begin, open_fields, open_record, record_begin, begin, begun, negative_act, named, equal_act, item_end, next_end, last_end, ended, counted, note_end, note_ends, note_goes, value_step, whole, value_finish}
use Rattle.um_value.proofs.ValueFrom.{Closes, From, no_first, nothing_behind, same_head, same_tail, first_kind, first_number, first_glued, behind_last, note_goes_on}

-- `>` stands in no note
greater_refused : (n : NoteState) (at : ℕ) → note_act n (kind.Sign symbol.Greater) at ≡ NoNote
greater_refused NeedNote at = refl
greater_refused (HaveHole place) at = refl
greater_refused (InUnit place u) at = ap (unit_goes place) (foreign_refused u (sign symbol.Greater) at refl)
greater_refused NoNote at = refl

pub no_bracket : (records : List RecordTree) (frames : List Frame) (t : ShapeTree) (at : ℕ) → begin records frames t (kind.Sign symbol.RightBracket) at ≡ NoValue
no_bracket records frames bool_shape at = refl
no_bracket records frames num_shape at = refl
no_bracket records frames (list_shape t) at = refl
no_bracket records frames (record_shape r) at = refl

pub no_angle : (frames : List Frame) (v : ValueSyntax) → ended frames v (kind.Sign symbol.Less) ≡ NoValue
no_angle [] v = refl
no_angle (InList t earlier ∷ frames) v = refl
no_angle (InRecord r earlier [] ∷ frames) v = refl
no_angle (InRecord r earlier (f ∷ fs) ∷ frames) v = refl

module _ (records : List RecordTree) where
  -- ---- a value ends

  pub ended_goes : (frames : List Frame) (v : ValueSyntax) (x : Token) (tokens : List Token) (u : ValueSyntax) → Closes records frames v (x ∷ tokens) u → From records (ended frames v x.kind) tokens u
  ended_goes [] v x tokens u h = absurd (no_first x tokens (sym h.0))
  ended_goes (InList t earlier ∷ frames) v x tokens u (raw_none, rest, f, c) =
      let k = first_kind (kind.Sign symbol.RightBracket) x tokens rest f in
      subst (λ w. From records (item_end frames t (earlier ++ v ∷ []) w) tokens u) (sym k.0)
      (subst (λ us. Closes records frames (raw_list us) tokens u) (sym (behind_last earlier v raw_none)) (subst (λ w. Closes records frames (raw_list (behind earlier (raw_more v raw_none))) w u) (sym k.1) c))
  ended_goes (InList t earlier ∷ frames) v x tokens u (raw_more w ws, rest, m, c) =
      let k = first_kind (kind.Sign symbol.Semicolon) x tokens m.0 m.2 in
      let spelled : Spells records w t tokens m.1 = subst (λ y. Spells records w t y m.1) (sym k.1) m.3 in
      let closed : Closes records frames (raw_list (behind (earlier ++ v ∷ []) (raw_more w ws))) rest u = subst (λ us. Closes records frames (raw_list us) rest u) (sym (behind_last earlier v (raw_more w ws))) c in
      subst (λ y. From records (item_end frames t (earlier ++ v ∷ []) y) tokens u) (sym k.0) (w, m.1, spelled, (ws, rest, m.4, closed))
  ended_goes (InRecord r earlier [] ∷ frames) v x tokens u (raw_none, rest, f, c) =
      let k = first_kind (kind.Sign symbol.RightBrace) x tokens rest f in
      subst (λ w. From records (last_end frames r (earlier ++ v ∷ []) w) tokens u) (sym k.0)
      (subst (λ us. Closes records frames (raw_record r us) tokens u) (sym (behind_last earlier v raw_none)) (subst (λ w. Closes records frames (raw_record r (behind earlier (raw_more v raw_none))) w u) (sym k.1) c))
  ended_goes (InRecord r earlier [] ∷ frames) v x tokens u (raw_more w ws, rest, m, c) = absurd m
  ended_goes (InRecord r earlier (f ∷ fs) ∷ frames) v x tokens u (raw_none, rest, m, c) = absurd m
  ended_goes (InRecord r earlier (f ∷ fs) ∷ frames) v x tokens u (raw_more w ws, rest, m, c) =
      let k = first_kind (kind.Sign symbol.Semicolon) x tokens m.0 m.2 in
      let spelled : NamedSpells f (Spells records w (type_shape f.type)) tokens m.1 = subst (λ y. NamedSpells f (Spells records w (type_shape f.type)) y m.1) (sym k.1) m.3 in
      let closed : Closes records frames (raw_record r (behind (earlier ++ v ∷ []) (raw_more w ws))) rest u = subst (λ us. Closes records frames (raw_record r us) rest u) (sym (behind_last earlier v (raw_more w ws))) c in
      subst (λ y. From records (next_end frames r (earlier ++ v ∷ []) f fs y) tokens u) (sym k.0) (w, m.1, spelled, (ws, rest, m.4, closed))

  -- ---- a value begins

  fields_go : (frames : List Frame) (r : ℕ) (vs : ValueSyntaxes) (fs : List FieldTree) (tokens mid : List Token) (u : ValueSyntax) → FieldsSpell records vs fs tokens mid → Closes records frames (raw_record r vs) mid u
      → From records (open_fields frames r fs) tokens u
  fields_go frames r raw_none fs tokens mid u h c = absurd h
  fields_go frames r (raw_more v vs) [] tokens mid u h c = absurd h
  fields_go frames r (raw_more v vs) (f ∷ fs) tokens mid u h c = (v, h.0, h.1, (vs, mid, h.2, c))

  number_goes : (frames : List Frame) (at : ℕ) (value : Frac) (n : Option NoteSyntax) (x : Token) (tokens mid : List Token) (u : ValueSyntax) → PlainSpells at value n (x ∷ tokens) mid → Closes records frames (raw_number at false value n) mid u
      → From records (number_begin frames x.kind x.start) tokens u
  number_goes frames at value n x tokens mid u h c =
      let k = first_number at value x tokens h.0 h.1 in
      subst (λ w. From records (number_begin frames w x.start) tokens u) (sym k.2)
      (subst (λ a. From records (Counted frames a false value) tokens u) (sym k.3) (n, mid, subst (λ y. WrittenSpells n y mid) (sym k.4) h.2, c))

  pub need_goes : (frames : List Frame) (v : ValueSyntax) (s : ShapeTree) (x : Token) (tokens mid : List Token) (u : ValueSyntax) → Spells records v s (x ∷ tokens) mid → Closes records frames v mid u
      → From records (begin records frames s x.kind x.start) tokens u
  need_goes frames (raw_truth true) s x tokens mid u h c =
      let k = first_kind (kind.Word keyword.True) x tokens mid h.1 in
      subst (λ t. From records (begin records frames t x.kind x.start) tokens u) (sym h.0)
      (subst (λ w. From records (truth_begin frames w) tokens u) (sym k.0) (subst (λ y. Closes records frames (raw_truth true) y u) (sym k.1) c))
  need_goes frames (raw_truth false) s x tokens mid u h c =
      let k = first_kind (kind.Word keyword.False) x tokens mid h.1 in
      subst (λ t. From records (begin records frames t x.kind x.start) tokens u) (sym h.0)
      (subst (λ w. From records (truth_begin frames w) tokens u) (sym k.0) (subst (λ y. Closes records frames (raw_truth false) y u) (sym k.1) c))
  need_goes frames (raw_number at false value n) s x tokens mid u h c =
      subst (λ t. From records (begin records frames t x.kind x.start) tokens u) (sym h.0) (number_goes frames at value n x tokens mid u h.1 c)
  need_goes frames (raw_number at true value n) s x tokens mid u h c =
      let k = first_kind (kind.Sign symbol.Minus) x tokens h.1.0 h.1.1 in
      subst (λ t. From records (begin records frames t x.kind x.start) tokens u) (sym h.0)
      (subst (λ w. From records (number_begin frames w x.start) tokens u) (sym k.0) (at, value, n, mid, subst (λ y. PlainSpells at value n y mid) (sym k.1) h.1.2, c))
  need_goes frames (raw_list vs) s x tokens mid u h c =
      let k = first_kind (kind.Sign symbol.LeftBracket) x tokens h.1 h.3 in
      subst (λ t. From records (begin records frames t x.kind x.start) tokens u) (sym h.2)
      (subst (λ w. From records (list_begin frames h.0 w) tokens u) (sym k.0) (vs, mid, subst (λ y. ItemsSpell records vs h.0 y mid) (sym k.1) h.4, c))
  need_goes frames (raw_record r vs) s x tokens mid u h c =
      let k = first_kind (kind.Sign symbol.LeftBrace) x tokens h.1 h.4 in
      let d : RecordTree = h.0 in
      let spelled : FieldsSpell records vs d.fields tokens mid = subst (λ y. FieldsSpell records vs d.fields y mid) (sym k.1) h.5 in
      subst (λ t. From records (begin records frames t x.kind x.start) tokens u) (sym h.2)
      (subst (λ w. From records (record_begin frames r (slice_get records r) w) tokens u) (sym k.0)
      (subst (λ o. From records (open_record frames r o) tokens u) (sym h.3) (fields_go frames r vs d.fields tokens mid u spelled c)))

  -- an item that begins is no `]`
  begun_goes : (frames : List Frame) (t : ShapeTree) (k : Kind) (at : ℕ) (tokens : List Token) (u : ValueSyntax) → From records (begin records (InList t [] ∷ frames) t k at) tokens u → From records (begun records frames t k at) tokens u
  begun_goes frames t (kind.Sign symbol.RightBracket) at tokens u h = absurd (subst (λ st. From records st tokens u) (no_bracket records (InList t [] ∷ frames) t at) h)
  begun_goes frames t _ at tokens u h = h

  -- what ends a number is no `<`
  counted_goes : (frames : List Frame) (at : ℕ) (negative : Bool) (value : Frac) (k : Kind) (glued : Bool) (tokens : List Token) (u : ValueSyntax) → From records (ended frames (raw_number at negative value None) k) tokens u
      → From records (counted frames at negative value k glued) tokens u
  counted_goes frames at negative value (kind.Sign symbol.Less) glued tokens u h = absurd (subst (λ st. From records st tokens u) (no_angle frames (raw_number at negative value None)) h)
  counted_goes frames at negative value _ glued tokens u h = h

  -- ---- a note

  -- a note that has refused ends as nothing
  gone : (ys : List Token) (n : NoteSyntax) → note_finish (runs note_step NoNote ys) ≡ Some n → ⊥
  gone ys n e = none_some n (sym (ap note_finish (runs_refused note_step NoNote (λ t. refl) ys)) ∙ e)

  in_note : (frames : List Frame) (at : ℕ) (negative : Bool) (value : Frac) (note : NoteState) (x : Token) (tokens : List Token) (u : ValueSyntax) → From records (InNote frames at negative value note) (x ∷ tokens) u
      → From records (value_step records (InNote frames at negative value note) x) tokens u
  in_note frames at negative value note x tokens u ([], last, rest, n, e, found, f, c) =
      let k = first_kind (kind.Sign symbol.Greater) x tokens rest (subst (λ w. FirstSign symbol.Greater w rest) (sym e) f) in
      let refused : note_act note x.kind x.start ≡ NoNote = ap (λ w. note_act note w x.start) k.0 ∙ greater_refused note x.start in
      subst (λ m. From records (note_goes frames at negative value m (note_ends frames at negative value (note_finish note) x.kind)) tokens u) (sym refused)
      (subst (λ o. From records (note_ends frames at negative value o x.kind) tokens u) (sym found)
      (subst (λ w. From records (note_end frames at negative value n w) tokens u) (sym k.0) (subst (λ y. Closes records frames (raw_number at negative value (Some n)) y u) (sym k.1) c)))
  in_note frames at negative value note x tokens u (y ∷ ys, last, rest, n, e, found, f, c) =
      let same : x ≡ y = same_head x y tokens (ys ++ last) e in
      let next : NoteState = note_step note x in
      let is : note_finish (runs note_step next ys) ≡ Some n = ap (λ w. note_finish (runs note_step (note_step note w) ys)) same ∙ found in
      let goes : next ≢ NoNote = λ h. gone ys n (sym (ap (λ m. note_finish (runs note_step m ys)) h) ∙ is) in
      subst (λ st. From records st tokens u) (sym (note_goes_on frames at negative value next (note_ends frames at negative value (note_finish note) x.kind) goes))
      (ys, last, rest, n, same_tail x y tokens (ys ++ last) e, is, f, c)

  -- ---- any state

  pub step_goes : (st : ValueState) (x : Token) (tokens : List Token) (u : ValueSyntax) → From records st (x ∷ tokens) u → From records (value_step records st x) tokens u
  step_goes (Need frames s) x tokens u h = need_goes frames h.0 s x tokens h.1 u h.2 h.3
  step_goes (Begun frames t) x tokens u (raw_none, rest, f, c) =
      let k = first_kind (kind.Sign symbol.RightBracket) x tokens rest f in
      subst (λ w. From records (begun records frames t w x.start) tokens u) (sym k.0) (subst (λ y. Closes records frames (raw_list raw_none) y u) (sym k.1) c)
  step_goes (Begun frames t) x tokens u (raw_more v vs, rest, m, c) =
      begun_goes frames t x.kind x.start tokens u (need_goes (InList t [] ∷ frames) v t x tokens m.0 u m.1 (vs, rest, m.2, c))
  step_goes (Negative frames) x tokens u (at, value, n, rest, p, c) =
      let k = first_number at value x tokens p.0 p.1 in
      subst (λ w. From records (negative_act frames w x.start) tokens u) (sym k.2)
      (subst (λ a. From records (Counted frames a true value) tokens u) (sym k.3) (n, rest, subst (λ y. WrittenSpells n y rest) (sym k.4) p.2, c))
  step_goes (Counted frames at negative value) x tokens u (None, rest, e, c) =
      counted_goes frames at negative value x.kind x.glued tokens u (ended_goes frames (raw_number at negative value None) x tokens u (subst (λ y. Closes records frames (raw_number at negative value None) y u) (sym e) c))
  step_goes (Counted frames at negative value) x tokens u (Some n, rest, w, c) =
      let k = first_glued x tokens w.0 w.3 in
      subst (λ what. From records (counted frames at negative value what x.glued) tokens u) (sym k.0)
      (subst (λ g. From records (cond g (InNote frames at negative value NeedNote) NoValue) tokens u) (sym k.1) (w.1, w.2, rest, n, k.2 ∙ w.4, notes_read.finds w.1 n w.5, w.6, c))
  step_goes (InNote frames at negative value note) x tokens u h = in_note frames at negative value note x tokens u h
  step_goes (NeedName frames f) x tokens u (v, mid, p, c) =
      let k = first_kind (kind.Name f.name) x tokens p.0 p.2 in
      let same : bytes_eq f.name f.name ≡ true = (bytes_eq-Decides f.name f.name).1 refl in
      let after : FirstSign symbol.Equal tokens p.1 = subst (λ y. FirstSign symbol.Equal y p.1) (sym k.1) p.3 in
      subst (λ w. From records (named frames f w) tokens u) (sym k.0)
      (subst (λ b. From records (cond b (NeedEqual frames (type_shape f.type)) NoValue) tokens u) (sym same) (v, p.1, mid, after, p.4, c))
  step_goes (NeedEqual frames s) x tokens u (v, next, mid, f, p, c) =
      let k = first_kind (kind.Sign symbol.Equal) x tokens next f in
      subst (λ w. From records (equal_act frames s w) tokens u) (sym k.0) (v, mid, subst (λ y. Spells records v s y mid) (sym k.1) p, c)
  step_goes (Have frames v) x tokens u h = ended_goes frames v x tokens u h
  step_goes NoValue x tokens u h = absurd h

  pub runs_go : (read : List Token) (st : ValueState) (u : ValueSyntax) → From records st read u → From records (runs (value_step records) st read) [] u
  runs_go [] st u h = h
  runs_go (x ∷ read) st u h = runs_go read (value_step records st x) u (step_goes st x read u h)

  -- ---- where all is read

  no_spelled : (v : ValueSyntax) (s : ShapeTree) (mid : List Token) → Spells records v s [] mid → ⊥
  no_spelled (raw_truth b) s mid h = no_first h.1.0 mid h.1.2
  no_spelled (raw_number at false value n) s mid h = no_first h.1.1.0 h.1.0 h.1.1.5
  no_spelled (raw_number at true value n) s mid h = no_first h.1.1.0 h.1.0 h.1.1.2
  no_spelled (raw_list vs) s mid h = no_first h.3.0 h.1 h.3.2
  no_spelled (raw_record r vs) s mid h = no_first h.4.0 h.1 h.4.2

  closed : (frames : List Frame) (v u : ValueSyntax) → Closes records frames v [] u → whole frames v ≡ Some u
  closed [] v u h = ap (λ w. Some w) (sym h.1)
  closed (InList t earlier ∷ frames) v u (raw_none, rest, f, c) = absurd (no_first f.0 rest f.2)
  closed (InList t earlier ∷ frames) v u (raw_more w ws, rest, m, c) = absurd (no_first m.2.0 m.0 m.2.2)
  closed (InRecord r earlier [] ∷ frames) v u (raw_none, rest, f, c) = absurd (no_first f.0 rest f.2)
  closed (InRecord r earlier [] ∷ frames) v u (raw_more w ws, rest, m, c) = absurd m
  closed (InRecord r earlier (f ∷ fs) ∷ frames) v u (raw_none, rest, m, c) = absurd m
  closed (InRecord r earlier (f ∷ fs) ∷ frames) v u (raw_more w ws, rest, m, c) = absurd (no_first m.2.0 m.0 m.2.2)

  pub at_end : (st : ValueState) (u : ValueSyntax) → From records st [] u → value_finish st ≡ Some u
  at_end (Need frames s) u h = absurd (no_spelled h.0 s h.1 h.2)
  at_end (Begun frames t) u (raw_none, rest, f, c) = absurd (no_first f.0 rest f.2)
  at_end (Begun frames t) u (raw_more v vs, rest, m, c) = absurd (no_spelled v t m.0 m.1)
  at_end (Negative frames) u (at, value, n, rest, p, c) = absurd (no_first p.1.0 p.0 p.1.5)
  at_end (Counted frames at negative value) u (None, rest, e, c) =
      closed frames (raw_number at negative value None) u (subst (λ y. Closes records frames (raw_number at negative value None) y u) (sym e) c)
  at_end (Counted frames at negative value) u (Some n, rest, w, c) = absurd (no_first w.3.0 w.0 w.3.3)
  at_end (InNote frames at negative value note) u (inside, last, rest, n, e, found, f, c) = absurd (nothing_behind inside f.0 rest (e ∙ ap (λ w. inside ++ w) f.2))
  at_end (NeedName frames f) u (v, mid, p, c) = absurd (no_first p.2.0 p.0 p.2.2)
  at_end (NeedEqual frames s) u (v, next, mid, f, p, c) = absurd (no_first f.0 next f.2)
  at_end (Have frames v) u h = closed frames v u h
  at_end NoValue u h = absurd h
