-- A refused argument or signature is told where a token of its word begins, or where the word ends; of a word without
-- tokens, at a character.
use Rattle.std.proofs.Common.{◌≡◌, ℕ, true, false, inl, inr, Bool, List, [], ◌∷◌, ◌++◌, length, Option, Some, None, Ok, Err, subst}
use Rattle.std.specs.Str.{chars, IsUtf8}
use Rattle.um_frac.specs.declared.number.Frac.{Frac}
use Rattle.um_units.specs.PowerMap.{PowerMap}
use Rattle.um_syntax.specs.declared.token.Token.{Token}
use Rattle.um_syntax.specs.declared.token.Kind.{Kind}
use Rattle.um_syntax.specs.declared.token.LexStop.TheVariants.{BadChar, NumberRange, PowerText}
use Rattle.um_syntax.specs.Lexing.{HasTokens}
use Rattle.um_tree.specs.TypeTree.{ShapeTree}
use Rattle.um_tree.specs.ProgramTree.{FieldTree, RecordTree, ProgramTree}
use Rattle.um_tree.specs.Shapes.{type_shape}
use Rattle.um_tree.specs.RawTree.{NoteSyntax, hole_syntax, unit_note_syntax, TypeSyntax, bool_syntax, num_syntax, record_syntax, list_type_syntax, bracket_type_syntax}
use Rattle.um_types.specs.TypeGrammar.{FirstKind, at_most_one}
use Rattle.um_types.specs.SignatureGrammar.{TypesSpell, TypesFit}
use Rattle.um_measures.specs.declared.abbreviation.Abbreviation.{Abbreviation}
use Rattle.um_measures.specs.ClosedUnits.{given}
use Rattle.um_measures.specs.Faults.{unknown, twice, wrong_count, hole, range, Found, and_then}
use Rattle.um_measures.specs.Known.{Known, number_of, record_names, measure_unit}
use Rattle.um_measures.specs.UnitNames.{unknown_in, resolved_unit}
use Rattle.um_names.specs.TypeNames.{resolved_record, resolved_type, written_type}
use Rattle.um_sig.specs.SignatureNames.{SignatureTypes, unless_unknown, note_names, all_note_names, number_names, type_names, all_type_names, one_type, resolved_types, signature_variables, resolved_signature}
use Rattle.um_value.specs.declared.stop.InputStop.{InputStop}
use Rattle.um_value.specs.declared.stop.InputStop.TheVariants as input_stop
use Rattle.um_value.specs.ValueSyntax.{ValueSyntax, ValueSyntaxes, raw_truth, raw_number, raw_list, raw_record, raw_none, raw_more}
use Rattle.um_value.specs.ValueGrammar.{WrittenSpells, PlainSpells, NumberSpells, Spells, ItemsSpell, MoreItemsSpell, FieldsSpell, MoreFieldsSpell}
use Rattle.um_value.specs.ValueNames.{is_zero, fault_in, note_fault, name_fault, name_fault_among, note_range_fault, range_fault, range_fault_among}
use Rattle.um_value.specs.InputRead.{HasFaultAt, HasValueText, IsInputOf}
use Rattle.um_sig.specs.declared.stop.SigText.{SigText}
use Rattle.um_sig.specs.declared.stop.SigText.TheVariants as sig_text
use Rattle.um_sig.specs.Reading.{AreTypes, HasNameFaultAt, IsRead}
use Rattle.um_front.specs.Places.{BeginsToken, BeginsTokenOrEnds}
use Rattle.um_front.proofs.TokenPlaces.{AllStarts, lexical_faults_have_places}
use Rattle.um_front.proofs.NotePlaces.{all_after, NoteHolds, NotesHold, TypeHolds, note_holds, type_holds, after_type}
use Rattle.um_front.proofs.FaultPlaces.{FaultHolds, then_holds, last_holds, PlaceHolds, unless_holds, earlier_holds, unknown_holds, unit_fault, record_fault, type_fault}
use Rattle.um_front.proofs.BeginningTokens.{all_begin, token_or_end}
use Rattle.um_front.specs.Laws.{IsWordPlace, InputPlace, SignaturePlace, ArgumentsTellPlaces, SignaturesTellPlaces}

module _ (P : ℕ → Type 0) where
  abbrev Starts : List Token → Type 0
  Starts tokens = AllStarts P tokens

  all_before : (front rest : List Token) → Starts (front ++ rest) → Starts front
  all_before [] rest h = tt
  all_before (t ∷ ts) rest h = (h.0, all_before ts rest h.1)

  after_kind : (what : Kind) (tokens rest : List Token) → FirstKind what tokens rest → Starts tokens → Starts rest
  after_kind what tokens rest f h = (subst Starts f.2 h).1

  -- ---- value texts

  abbrev mutual
    ValueHolds : ValueSyntax → Type 0
    ValueHolds (raw_truth b) = Unit {0}
    ValueHolds (raw_number at negative c n) = P at × NotesHold P (at_most_one n)
    ValueHolds (raw_list vs) = ValuesHold vs
    ValueHolds (raw_record r vs) = ValuesHold vs

    ValuesHold : ValueSyntaxes → Type 0
    ValuesHold raw_none = Unit {0}
    ValuesHold (raw_more v vs) = ValueHolds v × ValuesHold vs

  note_written : (n : Option NoteSyntax) (tokens rest : List Token) → WrittenSpells n tokens rest → Starts tokens → NotesHold P (at_most_one n) × Starts rest
  note_written None tokens rest s h = (tt, subst Starts s h)
  note_written (Some n) tokens rest s h =
      let both = subst Starts s.4 (subst Starts s.3.3 h).1 in
      ((note_holds P n s.1 [] s.5.spelled s.5.fits (all_before s.1 s.2 both), tt), after_kind _ s.2 rest s.6 (all_after P s.1 s.2 both))

  plain_holds : (at : ℕ) (c : Frac) (n : Option NoteSyntax) (tokens rest : List Token) → PlainSpells at c n tokens rest → Starts tokens → (P at × NotesHold P (at_most_one n)) × Starts rest
  plain_holds at c n tokens rest s h =
      let all = subst Starts s.1.5 h in
      let w = note_written n s.0 rest s.2 all.1 in
      ((subst P s.1.4 all.0, w.0), w.1)

  number_holds : (at : ℕ) (negative : Bool) (c : Frac) (n : Option NoteSyntax) (tokens rest : List Token) → NumberSpells at negative c n tokens rest → Starts tokens → (P at × NotesHold P (at_most_one n)) × Starts rest
  number_holds at false c n tokens rest s h = plain_holds at c n tokens rest s h
  number_holds at true c n tokens rest s h = plain_holds at c n s.0 rest s.2 (after_kind _ tokens s.0 s.1 h)

  module _ (records : List RecordTree) where
    mutual
      value_holds : (v : ValueSyntax) (s : ShapeTree) (tokens rest : List Token) → Spells records v s tokens rest → Starts tokens → ValueHolds v × Starts rest
      value_holds (raw_truth b) s tokens rest w h = (tt, after_kind _ tokens rest w.1 h)
      value_holds (raw_number at negative c n) s tokens rest w h = number_holds at negative c n tokens rest w.1 h
      value_holds (raw_list vs) s tokens rest w h = items_hold vs w.0 w.1 rest w.4 (after_kind _ tokens w.1 w.3 h)
      value_holds (raw_record r vs) s tokens rest w h = fields_hold vs w.0.fields w.1 rest w.5 (after_kind _ tokens w.1 w.4 h)

      items_hold : (vs : ValueSyntaxes) (t : ShapeTree) (tokens rest : List Token) → ItemsSpell records vs t tokens rest → Starts tokens → ValuesHold vs × Starts rest
      items_hold raw_none t tokens rest w h = (tt, after_kind _ tokens rest w h)
      items_hold (raw_more v vs) t tokens rest w h =
          let one = value_holds v t tokens w.0 w.1 h in
          let others = more_items_hold vs t w.0 rest w.2 one.1 in
          ((one.0, others.0), others.1)

      more_items_hold : (vs : ValueSyntaxes) (t : ShapeTree) (tokens rest : List Token) → MoreItemsSpell records vs t tokens rest → Starts tokens → ValuesHold vs × Starts rest
      more_items_hold raw_none t tokens rest w h = (tt, after_kind _ tokens rest w h)
      more_items_hold (raw_more v vs) t tokens rest w h =
          let one = value_holds v t w.0 w.1 w.3 (after_kind _ tokens w.0 w.2 h) in
          let others = more_items_hold vs t w.1 rest w.4 one.1 in
          ((one.0, others.0), others.1)

      fields_hold : (vs : ValueSyntaxes) (fs : List FieldTree) (tokens rest : List Token) → FieldsSpell records vs fs tokens rest → Starts tokens → ValuesHold vs × Starts rest
      fields_hold raw_none fs tokens rest w h = absurd w
      fields_hold (raw_more v vs) [] tokens rest w h = absurd w
      fields_hold (raw_more v vs) (f ∷ fs) tokens rest w h =
          let n = w.1 in
          let one = value_holds v (type_shape f.type) n.1 w.0 n.4 (after_kind _ n.0 n.1 n.3 (after_kind _ tokens n.0 n.2 h)) in
          let others = more_fields_hold vs fs w.0 rest w.2 one.1 in
          ((one.0, others.0), others.1)

      more_fields_hold : (vs : ValueSyntaxes) (fs : List FieldTree) (tokens rest : List Token) → MoreFieldsSpell records vs fs tokens rest → Starts tokens → ValuesHold vs × Starts rest
      more_fields_hold raw_none [] tokens rest w h = (tt, after_kind _ tokens rest w h)
      more_fields_hold raw_none (f ∷ fs) tokens rest w h = absurd w
      more_fields_hold (raw_more v vs) [] tokens rest w h = absurd w
      more_fields_hold (raw_more v vs) (f ∷ fs) tokens rest w h =
          let n = w.3 in
          let one = value_holds v (type_shape f.type) n.1 w.1 n.4 (after_kind _ n.0 n.1 n.3 (after_kind _ w.0 n.0 n.2 (after_kind _ tokens w.0 w.2 h))) in
          let others = more_fields_hold vs fs w.1 rest w.4 one.1 in
          ((one.0, others.0), others.1)

  module _ (measures : List ℕ → Option PowerMap) where
    note_fault_holds : (at : ℕ) (c : Frac) (n : Option NoteSyntax) → P at → NotesHold P (at_most_one n) → PlaceHolds P (note_fault measures at c n)
    note_fault_holds at c None here h = tt
    note_fault_holds at c (Some (hole_syntax place)) here h = unless_holds P (is_zero c) at here
    note_fault_holds at c (Some (unit_note_syntax place u)) here h = unknown_holds P measures [] u h.0

    mutual
      name_fault_holds : (v : ValueSyntax) → ValueHolds v → PlaceHolds P (name_fault measures v)
      name_fault_holds (raw_truth b) h = tt
      name_fault_holds (raw_number at negative c n) h = note_fault_holds at c n h.0 h.1
      name_fault_holds (raw_list vs) h = name_faults_hold vs h
      name_fault_holds (raw_record r vs) h = name_faults_hold vs h

      name_faults_hold : (vs : ValueSyntaxes) → ValuesHold vs → PlaceHolds P (name_fault_among measures vs)
      name_faults_hold raw_none h = tt
      name_faults_hold (raw_more v vs) h = earlier_holds P (name_fault measures v) (name_fault_among measures vs) (name_fault_holds v h.0) (name_faults_hold vs h.1)

    fault_in_holds : {A : Type 0} (r : Found A) → FaultHolds P r → PlaceHolds P (fault_in r)
    fault_in_holds (Ok x) h = tt
    fault_in_holds (Err (unknown at)) h = h
    fault_in_holds (Err (twice at)) h = h
    fault_in_holds (Err (wrong_count at)) h = h
    fault_in_holds (Err (hole at)) h = h
    fault_in_holds (Err (range at)) h = h

    note_range_holds : (n : Option NoteSyntax) → NotesHold P (at_most_one n) → PlaceHolds P (note_range_fault measures n)
    note_range_holds None h = tt
    note_range_holds (Some (hole_syntax place)) h = tt
    note_range_holds (Some (unit_note_syntax place u)) h = fault_in_holds (resolved_unit measures [] u) (unit_fault P measures [] u h.0)

    mutual
      range_fault_holds : (v : ValueSyntax) → ValueHolds v → PlaceHolds P (range_fault measures v)
      range_fault_holds (raw_truth b) h = tt
      range_fault_holds (raw_number at negative c n) h = note_range_holds n h.1
      range_fault_holds (raw_list vs) h = range_faults_hold vs h
      range_fault_holds (raw_record r vs) h = range_faults_hold vs h

      range_faults_hold : (vs : ValueSyntaxes) → ValuesHold vs → PlaceHolds P (range_fault_among measures vs)
      range_faults_hold raw_none h = tt
      range_faults_hold (raw_more v vs) h = earlier_holds P (range_fault measures v) (range_fault_among measures vs) (range_fault_holds v h.0) (range_faults_hold vs h.1)

  -- ---- signatures

  abbrev TypesHold : List TypeSyntax → Type 0
  TypesHold [] = Unit {0}
  TypesHold (t ∷ ts) = TypeHolds P t × TypesHold ts

  types_hold : (ts : List TypeSyntax) (tokens rest : List Token) → TypesSpell ts tokens rest → TypesFit ts → Starts tokens → TypesHold ts
  types_hold [] tokens rest s fits h = tt
  types_hold (t ∷ []) tokens rest s fits h = (type_holds P t tokens rest s fits.0 h, tt)
  types_hold (t ∷ u ∷ us) tokens rest s fits h =
      (type_holds P t tokens s.0 s.2 fits.0 h, types_hold (u ∷ us) s.1 rest s.4 fits.1 (after_kind _ s.0 s.1 s.3 (after_type P t tokens s.0 s.2 fits.0 h)))

  module _ (known : Known) (variables : List (List ℕ)) where
    unknown_found : (o : Option ℕ) → PlaceHolds P o → FaultHolds P (unless_unknown o)
    unknown_found None h = tt
    unknown_found (Some at) h = h

    note_names_hold : (n : NoteSyntax) → NoteHolds P n → FaultHolds P (note_names known variables n)
    note_names_hold (hole_syntax at) h = h
    note_names_hold (unit_note_syntax at u) h = unknown_found (unknown_in (measure_unit known) variables u) (unknown_holds P (measure_unit known) variables u h)

    all_names_hold : (ns : List NoteSyntax) → NotesHold P ns → FaultHolds P (all_note_names known variables ns)
    all_names_hold [] h = tt
    all_names_hold (n ∷ ns) h = then_holds P (note_names known variables n) (λ _. all_note_names known variables ns) (note_names_hold n h.0) (λ _. all_names_hold ns h.1)

    number_names_hold : (n : Option NoteSyntax) → NotesHold P (at_most_one n) → FaultHolds P (number_names known variables n)
    number_names_hold None h = tt
    number_names_hold (Some n) h = note_names_hold n h.0

    type_names_hold : (t : TypeSyntax) → TypeHolds P t → FaultHolds P (type_names known variables t)
    type_names_hold bool_syntax h = tt
    type_names_hold (num_syntax n) h = number_names_hold n h
    type_names_hold (record_syntax at x ns) h =
        then_holds P (resolved_record known x (length ns) at) (λ _. all_note_names known variables ns)
        (record_fault P known.program.records (number_of (record_names known.program.records) x) (length ns) at h.0) (λ _. all_names_hold ns h.1)
    type_names_hold (list_type_syntax t) h = type_names_hold t h
    type_names_hold (bracket_type_syntax t) h = type_names_hold t h

    all_types_hold : (ts : List TypeSyntax) → TypesHold ts → FaultHolds P (all_type_names known variables ts)
    all_types_hold [] h = tt
    all_types_hold (t ∷ ts) h = then_holds P (type_names known variables t) (λ _. all_type_names known variables ts) (type_names_hold t h.0) (λ _. all_types_hold ts h.1)

    resolved_hold : (ts : List TypeSyntax) → TypesHold ts → FaultHolds P (resolved_types known variables ts)
    resolved_hold [] h = tt
    resolved_hold (t ∷ ts) h =
        then_holds P (one_type known variables t) (λ y. and_then (resolved_types known variables ts) (λ ys. Ok (y ∷ ys))) (last_holds P (resolved_type known variables false t) written_type (type_fault P known variables false t h.0))
        (λ y. last_holds P (resolved_types known variables ts) (λ ys. y ∷ ys) (resolved_hold ts h.1))

  signature_holds : (known : Known) (ts : List TypeSyntax) → TypesHold ts → FaultHolds P (resolved_signature known ts)
  unfolding resolved_signature
  signature_holds known ts h =
      let variables = signature_variables ts in
      then_holds P (all_type_names known variables ts) (λ _. and_then (resolved_types known variables ts) (λ types. Ok (record { types = types; vars = length variables }))) (all_types_hold known variables ts h)
      (λ _. last_holds P {B = SignatureTypes} (resolved_types known variables ts) (λ types. record { types = types; vars = length variables }) (resolved_hold known variables ts h))

-- ---- words

module _ (word : List ℕ) (utf8 : IsUtf8 word) where
  lexical : (at : ℕ) → HasFaultAt (chars word) at → IsWordPlace word at
  lexical at (inl f) = inl (utf8, (BadChar at, f), lexical_faults_have_places word (BadChar at) utf8 f)
  lexical at (inr (inl f)) = inl (utf8, (NumberRange at, f), lexical_faults_have_places word (NumberRange at) utf8 f)
  lexical at (inr (inr f)) = inl (utf8, (PowerText at, f), lexical_faults_have_places word (PowerText at) utf8 f)

  at_place : (tokens : List Token) (at : ℕ) → HasTokens (chars word) tokens → BeginsTokenOrEnds tokens (length word) at → IsWordPlace word at
  at_place tokens at lexed begins = inr (tokens, (utf8, lexed), begins)

  -- the place of a fault of a value text
  value_place : (known : Known) (s : ShapeTree) (v : ValueSyntax) (at : ℕ) → HasValueText known s word v → (o : Option ℕ) → ((P : ℕ → Type 0) → ValueHolds P v → PlaceHolds P o) → o ≡ Some at → IsWordPlace word at
  value_place known s v at has o holds is =
      let begins = BeginsToken has.tokens in
      let values = (value_holds begins known.program.records v s has.tokens [] has.is (all_begin has.tokens)).0 in
      at_place has.tokens at has.lexed (inl (subst (PlaceHolds begins) is (holds begins values)))

  argument_place : (known : Known) (s : ShapeTree) (stop : InputStop) → IsInputOf known s word (Err stop) → InputPlace (IsWordPlace word) stop
  argument_place known s (input_stop.Text at) is = lexical at is
  argument_place known s (input_stop.Shape at) is = at_place is.tokens at is.lexed (token_or_end is.tokens is.k (length word) at is.place)
  argument_place known s (input_stop.Names at) is = value_place known s is.0 at is.1 (name_fault (measure_unit known) is.0) (λ P h. name_fault_holds P (measure_unit known) is.0 h) is.2
  argument_place known s (input_stop.PowerRange at) is = value_place known s is.0 at is.1 (range_fault (measure_unit known) is.0) (λ P h. range_fault_holds P (measure_unit known) is.0 h) is.3
  argument_place known s input_stop.NoMemory is = tt

  -- the place of a fault of a signature text
  module _ (known : Known) (ts : List TypeSyntax) (are : AreTypes (chars word) ts) where
    found : FaultHolds (BeginsToken are.tokens) (resolved_signature known ts)
    found = signature_holds (BeginsToken are.tokens) known ts (types_hold (BeginsToken are.tokens) ts are.tokens [] are.parsed.spelled are.parsed.fits (all_begin are.tokens))

    moved : (r : Found SignatureTypes) → resolved_signature known ts ≡ r → FaultHolds (BeginsToken are.tokens) r
    moved r e = subst (λ (q : Found SignatureTypes). FaultHolds (BeginsToken are.tokens) q) e found

    names_place : (at : ℕ) → HasNameFaultAt (resolved_signature known ts) at → IsWordPlace word at
    names_place at (inl e) = at_place are.tokens at are.lexed (inl (moved (Err (unknown at)) e))
    names_place at (inr (inl e)) = at_place are.tokens at are.lexed (inl (moved (Err (wrong_count at)) e))
    names_place at (inr (inr e)) = at_place are.tokens at are.lexed (inl (moved (Err (hole at)) e))

    range_place : (at : ℕ) → resolved_signature known ts ≡ Err (range at) → IsWordPlace word at
    range_place at e = at_place are.tokens at are.lexed (inl (moved (Err (range at)) e))

  signature_place : (p : ProgramTree) (shorts : List Abbreviation) (stop : SigText) → IsRead p shorts (chars word) (length word) (Err stop) → SignaturePlace (IsWordPlace word) stop
  signature_place p shorts (sig_text.Text at) is = lexical at is
  signature_place p shorts (sig_text.Syntax at) is = at_place is.0 at is.2 (token_or_end is.0 is.1 (length word) at is.3)
  signature_place p shorts (sig_text.Height at) is = at_place is.0 at is.2 (token_or_end is.0 is.1 (length word) at is.3)
  signature_place p shorts (sig_text.Names at) is = names_place (given p shorts) is.0 is.1 at is.2
  signature_place p shorts (sig_text.PowerRange at) is = range_place (given p shorts) is.0 is.1 at is.2
  signature_place p shorts sig_text.NoMemory is = tt

pub arguments_tell_places : ArgumentsTellPlaces
arguments_tell_places word utf8 known s stop is = argument_place word utf8 known s stop is

pub signatures_tell_places : SignaturesTellPlaces
signatures_tell_places word utf8 p shorts stop is = signature_place word utf8 p shorts stop is
