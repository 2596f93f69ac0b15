-- What the tokens behind the next state are goes back to the state before, with the token between.
use Rattle.std.proofs.Common.{◌≡◌, ℕ, Bool, true, false, cond, List, [], ◌∷◌, ◌++◌, slice_get, Option, Some, None, refl, sym, ap, subst, ◌∙◌}
use Rattle.std.specs.Str.{bytes_eq}
use Rattle.std.proofs.lemmas.Slice.Eq.{bytes_eq-Decides}
use Rattle.um_frac.specs.declared.number.Frac.{Frac}
use Rattle.um_syntax.specs.declared.token.Token.{Token}
use Rattle.um_syntax.specs.declared.token.Kind.{Kind}
use Rattle.um_syntax.specs.declared.token.Kind.TheVariants as kind
use Rattle.um_vocabulary.specs.declared.vocabulary.Keyword.TheVariants as keyword
use Rattle.um_vocabulary.specs.declared.vocabulary.Symbol.TheVariants as symbol
use Rattle.um_tree.specs.RawTree.{NoteSyntax}
use Rattle.um_tree.specs.TypeTree.{ShapeTree, bool_shape, num_shape, list_shape, record_shape}
use Rattle.um_tree.specs.ProgramTree.{FieldTree, RecordTree}
use Rattle.um_tree.specs.Shapes.{type_shape}
use Rattle.um_reader.specs.Machine.{runs}
use Rattle.um_reader.proofs.Readers.{none_some, some_same}
use Rattle.um_types.specs.NoteMachine.{NoteState, NeedNote, HaveHole, InUnit, NoNote, note_step, note_finish}
use Rattle.um_types.proofs.ReaderLaws.{notes_read}
use Rattle.um_value.specs.ValueSyntax.{ValueSyntax, ValueSyntaxes, raw_truth, raw_number, raw_list, raw_record, raw_none, raw_more}
use Rattle.um_value.specs.ValueGrammar.{FieldsSpell}
use Rattle.um_value.specs.ValueMachine.{Frame, InList, InRecord, ValueState, Need, Begun, Negative, Counted, InNote, NeedName, NeedEqual, Have, NoValue, truth_begin, number_begin, list_begin, open_fields, open_record, record_begin, begin, begun, negative_act, named, equal_act, item_end, next_end, last_end, ended, counted, note_end, note_ends, note_goes, value_step, whole, value_finish}
use Rattle.um_value.proofs.ValueFrom.{Closes, From, behind_last}

module _ (records : List RecordTree) where
  -- ---- a value ends

  item_back : (frames : List Frame) (t : ShapeTree) (earlier : List ValueSyntax) (v : ValueSyntax) (k : Kind) (x : Token) (tokens : List Token) (u : ValueSyntax) → x.kind ≡ k
      → From records (item_end frames t (earlier ++ v ∷ []) k) tokens u → Closes records (InList t earlier ∷ frames) v (x ∷ tokens) u
  item_back frames t earlier v (kind.Sign symbol.Semicolon) x tokens u e (w, mid, s, (ws, rest, m, c)) =
      (raw_more w ws, rest, (tokens, mid, (x, e, refl), s, m), subst (λ us. Closes records frames (raw_list us) rest u) (behind_last earlier v (raw_more w ws)) c)
  item_back frames t earlier v (kind.Sign symbol.RightBracket) x tokens u e c =
      (raw_none, tokens, (x, e, refl), subst (λ us. Closes records frames (raw_list us) tokens u) (behind_last earlier v raw_none) c)
  item_back frames t earlier v _ x tokens u e h = absurd h

  next_back : (frames : List Frame) (r : ℕ) (earlier : List ValueSyntax) (v : ValueSyntax) (f : FieldTree) (fs : List FieldTree) (k : Kind) (x : Token) (tokens : List Token) (u : ValueSyntax) → x.kind ≡ k
      → From records (next_end frames r (earlier ++ v ∷ []) f fs k) tokens u → Closes records (InRecord r earlier (f ∷ fs) ∷ frames) v (x ∷ tokens) u
  next_back frames r earlier v f fs (kind.Sign symbol.Semicolon) x tokens u e (w, mid, s, (ws, rest, m, c)) =
      (raw_more w ws, rest, (tokens, mid, (x, e, refl), s, m), subst (λ us. Closes records frames (raw_record r us) rest u) (behind_last earlier v (raw_more w ws)) c)
  next_back frames r earlier v f fs _ x tokens u e h = absurd h

  last_back : (frames : List Frame) (r : ℕ) (earlier : List ValueSyntax) (v : ValueSyntax) (k : Kind) (x : Token) (tokens : List Token) (u : ValueSyntax) → x.kind ≡ k
      → From records (last_end frames r (earlier ++ v ∷ []) k) tokens u → Closes records (InRecord r earlier [] ∷ frames) v (x ∷ tokens) u
  last_back frames r earlier v (kind.Sign symbol.RightBrace) x tokens u e c =
      (raw_none, tokens, (x, e, refl), subst (λ us. Closes records frames (raw_record r us) tokens u) (behind_last earlier v raw_none) c)
  last_back frames r earlier v _ x tokens u e h = absurd h

  ended_back : (frames : List Frame) (v : ValueSyntax) (k : Kind) (x : Token) (tokens : List Token) (u : ValueSyntax) → x.kind ≡ k → From records (ended frames v k) tokens u → Closes records frames v (x ∷ tokens) u
  ended_back [] v k x tokens u e h = absurd h
  ended_back (InList t earlier ∷ frames) v k x tokens u e h = item_back frames t earlier v k x tokens u e h
  ended_back (InRecord r earlier [] ∷ frames) v k x tokens u e h = last_back frames r earlier v k x tokens u e h
  ended_back (InRecord r earlier (f ∷ fs) ∷ frames) v k x tokens u e h = next_back frames r earlier v f fs k x tokens u e h

  -- ---- a value begins

  truth_back : (frames : List Frame) (k : Kind) (x : Token) (tokens : List Token) (u : ValueSyntax) → x.kind ≡ k → From records (truth_begin frames k) tokens u → From records (Need frames bool_shape) (x ∷ tokens) u
  truth_back frames (kind.Word keyword.True) x tokens u e c = (raw_truth true, tokens, (refl, (x, e, refl)), c)
  truth_back frames (kind.Word keyword.False) x tokens u e c = (raw_truth false, tokens, (refl, (x, e, refl)), c)
  truth_back frames _ x tokens u e h = absurd h

  number_back : (frames : List Frame) (k : Kind) (x : Token) (tokens : List Token) (u : ValueSyntax) → x.kind ≡ k → From records (number_begin frames k x.start) tokens u → From records (Need frames num_shape) (x ∷ tokens) u
  number_back frames (kind.Number value digits one) x tokens u e (n, rest, w, c) =
      (raw_number x.start false value n, rest, (refl, (tokens, (x, digits, one, e, refl, refl), w)), c)
  number_back frames (kind.Sign symbol.Minus) x tokens u e (at, value, n, rest, p, c) = (raw_number at true value n, rest, (refl, (tokens, (x, e, refl), p)), c)
  number_back frames _ x tokens u e h = absurd h

  list_back : (frames : List Frame) (t : ShapeTree) (k : Kind) (x : Token) (tokens : List Token) (u : ValueSyntax) → x.kind ≡ k → From records (list_begin frames t k) tokens u → From records (Need frames (list_shape t)) (x ∷ tokens) u
  list_back frames t (kind.Sign symbol.LeftBracket) x tokens u e (vs, rest, m, c) = (raw_list vs, rest, (t, tokens, refl, (x, e, refl), m), c)
  list_back frames t _ x tokens u e h = absurd h

  fields_back : (frames : List Frame) (r : ℕ) (fs : List FieldTree) (tokens : List Token) (u : ValueSyntax) → From records (open_fields frames r fs) tokens u
      → (vs : ValueSyntaxes) × (rest : List Token) × FieldsSpell records vs fs tokens rest × Closes records frames (raw_record r vs) rest u
  fields_back frames r [] tokens u h = absurd h
  fields_back frames r (f ∷ fs) tokens u (v, mid, s, (vs, rest, m, c)) = (raw_more v vs, rest, (mid, s, m), c)

  open_back : (frames : List Frame) (r : ℕ) (o : Option RecordTree) (x : Token) (tokens : List Token) (u : ValueSyntax) → slice_get records r ≡ o → x.kind ≡ kind.Sign symbol.LeftBrace
      → From records (open_record frames r o) tokens u → From records (Need frames (record_shape r)) (x ∷ tokens) u
  open_back frames r None x tokens u is e h = absurd h
  open_back frames r (Some d) x tokens u is e h =
      let p = fields_back frames r d.fields tokens u h in (raw_record r p.0, p.1, (d, tokens, refl, is, (x, e, refl), p.2), p.3)

  record_back : (frames : List Frame) (r : ℕ) (k : Kind) (x : Token) (tokens : List Token) (u : ValueSyntax) → x.kind ≡ k → From records (record_begin frames r (slice_get records r) k) tokens u
      → From records (Need frames (record_shape r)) (x ∷ tokens) u
  record_back frames r (kind.Sign symbol.LeftBrace) x tokens u e h = open_back frames r (slice_get records r) x tokens u refl e h
  record_back frames r _ x tokens u e h = absurd h

  need_back : (frames : List Frame) (s : ShapeTree) (k : Kind) (x : Token) (tokens : List Token) (u : ValueSyntax) → x.kind ≡ k → From records (begin records frames s k x.start) tokens u → From records (Need frames s) (x ∷ tokens) u
  need_back frames bool_shape k x tokens u e h = truth_back frames k x tokens u e h
  need_back frames num_shape k x tokens u e h = number_back frames k x tokens u e h
  need_back frames (list_shape t) k x tokens u e h = list_back frames t k x tokens u e h
  need_back frames (record_shape r) k x tokens u e h = record_back frames r k x tokens u e h

  item_begins : (frames : List Frame) (t : ShapeTree) (tokens : List Token) (u : ValueSyntax) → From records (Need (InList t [] ∷ frames) t) tokens u → From records (Begun frames t) tokens u
  item_begins frames t tokens u (v, mid, s, (vs, rest, m, c)) = (raw_more v vs, rest, (mid, s, m), c)

  begun_back : (frames : List Frame) (t : ShapeTree) (k : Kind) (x : Token) (tokens : List Token) (u : ValueSyntax) → x.kind ≡ k → From records (begun records frames t k x.start) tokens u → From records (Begun frames t) (x ∷ tokens) u
  begun_back frames t (kind.Sign symbol.RightBracket) x tokens u e c = (raw_none, tokens, (x, e, refl), c)
  begun_back frames t k x tokens u e h = item_begins frames t (x ∷ tokens) u (need_back (InList t [] ∷ frames) t k x tokens u e h)

  negative_back : (frames : List Frame) (k : Kind) (x : Token) (tokens : List Token) (u : ValueSyntax) → x.kind ≡ k → From records (negative_act frames k x.start) tokens u → From records (Negative frames) (x ∷ tokens) u
  negative_back frames (kind.Number value digits one) x tokens u e (n, rest, w, c) = (x.start, value, n, rest, (tokens, (x, digits, one, e, refl, refl), w), c)
  negative_back frames _ x tokens u e h = absurd h

  -- ---- a number and its note

  angle_back : (frames : List Frame) (at : ℕ) (negative : Bool) (value : Frac) (glued : Bool) (x : Token) (tokens : List Token) (u : ValueSyntax) → x.kind ≡ kind.Sign symbol.Less → x.glued ≡ glued
      → From records (cond glued (InNote frames at negative value NeedNote) NoValue) tokens u → From records (Counted frames at negative value) (x ∷ tokens) u
  angle_back frames at negative value true x tokens u e g (inside, last, rest, n, parts, found, f, c) =
      (Some n, rest, (tokens, inside, last, (x, e, g, refl), parts, notes_read.found inside n found, f), c)
  angle_back frames at negative value false x tokens u e g h = absurd h

  plain_back : (frames : List Frame) (at : ℕ) (negative : Bool) (value : Frac) (k : Kind) (x : Token) (tokens : List Token) (u : ValueSyntax) → x.kind ≡ k → From records (ended frames (raw_number at negative value None) k) tokens u
      → From records (Counted frames at negative value) (x ∷ tokens) u
  plain_back frames at negative value k x tokens u e h = (None, x ∷ tokens, refl, ended_back frames (raw_number at negative value None) k x tokens u e h)

  counted_back : (frames : List Frame) (at : ℕ) (negative : Bool) (value : Frac) (k : Kind) (x : Token) (tokens : List Token) (u : ValueSyntax) → x.kind ≡ k → From records (counted frames at negative value k x.glued) tokens u
      → From records (Counted frames at negative value) (x ∷ tokens) u
  counted_back frames at negative value (kind.Sign symbol.Less) x tokens u e h = angle_back frames at negative value x.glued x tokens u e refl h
  counted_back frames at negative value k x tokens u e h = plain_back frames at negative value k x tokens u e h

  note_end_back : (frames : List Frame) (at : ℕ) (negative : Bool) (value : Frac) (note : NoteState) (n : NoteSyntax) (k : Kind) (x : Token) (tokens : List Token) (u : ValueSyntax) → x.kind ≡ k → note_finish note ≡ Some n
      → From records (note_end frames at negative value n k) tokens u → From records (InNote frames at negative value note) (x ∷ tokens) u
  note_end_back frames at negative value note n (kind.Sign symbol.Greater) x tokens u e found c = ([], x ∷ tokens, tokens, n, refl, found, (x, e, refl), c)
  note_end_back frames at negative value note n _ x tokens u e found h = absurd h

  note_ends_back : (frames : List Frame) (at : ℕ) (negative : Bool) (value : Frac) (note : NoteState) (o : Option NoteSyntax) (x : Token) (tokens : List Token) (u : ValueSyntax) → note_finish note ≡ o
      → From records (note_ends frames at negative value o x.kind) tokens u → From records (InNote frames at negative value note) (x ∷ tokens) u
  note_ends_back frames at negative value note None x tokens u found h = absurd h
  note_ends_back frames at negative value note (Some n) x tokens u found h = note_end_back frames at negative value note n x.kind x tokens u refl found h

  on_back : (frames : List Frame) (at : ℕ) (negative : Bool) (value : Frac) (note next : NoteState) (x : Token) (tokens : List Token) (u : ValueSyntax) → note_step note x ≡ next
      → From records (InNote frames at negative value next) tokens u → From records (InNote frames at negative value note) (x ∷ tokens) u
  on_back frames at negative value note next x tokens u is (inside, last, rest, n, parts, found, f, c) =
      (x ∷ inside, last, rest, n, ap (λ w. x ∷ w) parts, ap (λ m. note_finish (runs note_step m inside)) is ∙ found, f, c)

  note_back : (frames : List Frame) (at : ℕ) (negative : Bool) (value : Frac) (note next : NoteState) (x : Token) (tokens : List Token) (u : ValueSyntax) → note_step note x ≡ next
      → From records (note_goes frames at negative value next (note_ends frames at negative value (note_finish note) x.kind)) tokens u → From records (InNote frames at negative value note) (x ∷ tokens) u
  note_back frames at negative value note NeedNote x tokens u is h = on_back frames at negative value note NeedNote x tokens u is h
  note_back frames at negative value note (HaveHole place) x tokens u is h = on_back frames at negative value note (HaveHole place) x tokens u is h
  note_back frames at negative value note (InUnit place v) x tokens u is h = on_back frames at negative value note (InUnit place v) x tokens u is h
  note_back frames at negative value note NoNote x tokens u is h = note_ends_back frames at negative value note (note_finish note) x tokens u refl h

  -- ---- a field

  name_back : (frames : List Frame) (f : FieldTree) (name : List ℕ) (same : Bool) (x : Token) (tokens : List Token) (u : ValueSyntax) → x.kind ≡ kind.Name name → bytes_eq name f.name ≡ same
      → From records (cond same (NeedEqual frames (type_shape f.type)) NoValue) tokens u → From records (NeedName frames f) (x ∷ tokens) u
  name_back frames f name true x tokens u e b (v, next, mid, q, s, c) =
      (v, mid, (tokens, next, (x, e ∙ ap (λ y. kind.Name y) ((bytes_eq-Decides name f.name).0 b), refl), q, s), c)
  name_back frames f name false x tokens u e b h = absurd h

  named_back : (frames : List Frame) (f : FieldTree) (k : Kind) (x : Token) (tokens : List Token) (u : ValueSyntax) → x.kind ≡ k → From records (named frames f k) tokens u → From records (NeedName frames f) (x ∷ tokens) u
  named_back frames f (kind.Name name) x tokens u e h = name_back frames f name (bytes_eq name f.name) x tokens u e refl h
  named_back frames f _ x tokens u e h = absurd h

  equal_back : (frames : List Frame) (s : ShapeTree) (k : Kind) (x : Token) (tokens : List Token) (u : ValueSyntax) → x.kind ≡ k → From records (equal_act frames s k) tokens u → From records (NeedEqual frames s) (x ∷ tokens) u
  equal_back frames s (kind.Sign symbol.Equal) x tokens u e (v, mid, p, c) = (v, tokens, mid, (x, e, refl), p, c)
  equal_back frames s _ x tokens u e h = absurd h

  -- ---- any state

  pub step_back : (st : ValueState) (x : Token) (tokens : List Token) (u : ValueSyntax) → From records (value_step records st x) tokens u → From records st (x ∷ tokens) u
  step_back (Need frames s) x tokens u h = need_back frames s x.kind x tokens u refl h
  step_back (Begun frames t) x tokens u h = begun_back frames t x.kind x tokens u refl h
  step_back (Negative frames) x tokens u h = negative_back frames x.kind x tokens u refl h
  step_back (Counted frames at negative value) x tokens u h = counted_back frames at negative value x.kind x tokens u refl h
  step_back (InNote frames at negative value note) x tokens u h = note_back frames at negative value note (note_step note x) x tokens u refl h
  step_back (NeedName frames f) x tokens u h = named_back frames f x.kind x tokens u refl h
  step_back (NeedEqual frames s) x tokens u h = equal_back frames s x.kind x tokens u refl h
  step_back (Have frames v) x tokens u h = ended_back frames v x.kind x tokens u refl h
  step_back NoValue x tokens u h = absurd h

  pub runs_back : (read more : List Token) (st : ValueState) (u : ValueSyntax) → From records (runs (value_step records) st read) more u → From records st (read ++ more) u
  runs_back [] more st u h = h
  runs_back (x ∷ read) more st u h = step_back st x (read ++ more) u (runs_back read more (value_step records st x) u h)

  -- ---- where all is read

  whole_back : (frames : List Frame) (v u : ValueSyntax) → whole frames v ≡ Some u → Closes records frames v [] u
  whole_back [] v u e = (refl, sym (some_same v u e))
  whole_back (f ∷ frames) v u e = absurd (none_some u e)

  pub end_back : (st : ValueState) (u : ValueSyntax) → value_finish st ≡ Some u → From records st [] u
  end_back (Need frames s) u e = absurd (none_some u e)
  end_back (Begun frames t) u e = absurd (none_some u e)
  end_back (Negative frames) u e = absurd (none_some u e)
  end_back (Counted frames at negative value) u e = (None, [], refl, whole_back frames (raw_number at negative value None) u e)
  end_back (InNote frames at negative value note) u e = absurd (none_some u e)
  end_back (NeedName frames f) u e = absurd (none_some u e)
  end_back (NeedEqual frames s) u e = absurd (none_some u e)
  end_back (Have frames v) u e = whole_back frames v u e
  end_back NoValue u e = absurd (none_some u e)
