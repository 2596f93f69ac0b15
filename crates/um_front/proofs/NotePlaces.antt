-- What holds of the place of each token holds of the places in units, notes and types that are read from the tokens.
use Rattle.std.proofs.Common.{ℕ, List, [], ◌∷◌, ◌++◌, subst}
use Rattle.um_syntax.specs.declared.token.Token.{Token}
use Rattle.um_tree.specs.RawTree.{UnitSyntax, UnitSyntaxes, one_syntax, measure_syntax, variable_syntax, power_syntax, side_syntax, times_syntax, over_syntax, inverse_syntax, bracket_syntax, no_units, more_units}
use Rattle.um_tree.specs.RawTree.{NoteSyntax, hole_syntax, unit_note_syntax, TypeSyntax, bool_syntax, num_syntax, record_syntax, list_type_syntax, bracket_type_syntax}
use Rattle.um_unit_texts.specs.UnitTokens.{UnitToken}
use Rattle.um_unit_texts.specs.UnitGrammar.{Spells as UnitSpells, AllSpell as UnitsSpell, Fits as UnitFits, ArePowers, First as UnitFirst, FirstAt as UnitFirstAt}
use Rattle.um_types.specs.TypeGrammar.{FirstKind, FirstKindAt, NoteSpells, NotesSpell, AngledSpell, at_most_one, TypeSpells, NoteFits, NotesFit, TypeFits}
use Rattle.um_unit_texts.proofs.UnitNested.{unit_reaches}
use Rattle.um_syntax.specs.declared.token.Kind.{Kind}
use Rattle.um_measures.specs.UnitNames.{first_place, first_of}
use Rattle.um_front.proofs.TokensLeft.{Leaves, note_leaves, type_leaves}
use Rattle.um_front.proofs.TokenPlaces.{AllStarts}

module _ (P : ℕ → Type 0) where
  abbrev Starts : List Token → Type 0
  Starts tokens = AllStarts P tokens

  -- ---- what is left of the tokens

  pub all_after : (read rest : List Token) → Starts (read ++ rest) → Starts rest
  all_after [] rest h = h
  all_after (t ∷ ts) rest h = all_after ts rest h.1

  pub leaves_starts : (tokens rest : List Token) → Leaves tokens rest → Starts tokens → Starts rest
  leaves_starts tokens rest l h = all_after l.0 rest (subst Starts l.1 h)

  -- ---- units

  abbrev mutual
    -- P holds of each place in the unit
    pub UnitHolds : UnitSyntax → Type 0
    UnitHolds (one_syntax at) = P at
    UnitHolds (measure_syntax at x) = P at
    UnitHolds (variable_syntax at x) = P at
    UnitHolds (power_syntax u k) = UnitHolds u
    UnitHolds (side_syntax us) = P (first_of us) × UnitsHold us
    UnitHolds (times_syntax u v) = UnitHolds u × UnitHolds v
    UnitHolds (over_syntax u v) = UnitHolds u × UnitHolds v
    UnitHolds (inverse_syntax at u) = P at × UnitHolds u
    UnitHolds (bracket_syntax at u) = P at × UnitHolds u

    pub UnitsHold : UnitSyntaxes → Type 0
    UnitsHold no_units = Unit {0}
    UnitsHold (more_units u us) = UnitHolds u × UnitsHold us

  pub first_holds : (u : UnitSyntax) → UnitHolds u → P (first_place u)
  first_holds (one_syntax at) h = h
  first_holds (measure_syntax at x) h = h
  first_holds (variable_syntax at x) h = h
  first_holds (power_syntax u k) h = first_holds u h
  first_holds (side_syntax us) h = h.0
  first_holds (times_syntax u v) h = first_holds u h.0
  first_holds (over_syntax u v) h = first_holds u h.0
  first_holds (inverse_syntax at u) h = h.0
  first_holds (bracket_syntax at u) h = h.0

  unit_at : (what : UnitToken) (at : ℕ) (tokens rest : List Token) → UnitFirstAt what at tokens rest → Starts tokens → P at
  unit_at what at tokens rest f h = subst P f.2 (subst Starts f.3 h).0

  after_unit_at : (what : UnitToken) (at : ℕ) (tokens rest : List Token) → UnitFirstAt what at tokens rest → Starts tokens → Starts rest
  after_unit_at what at tokens rest f h = (subst Starts f.3 h).1

  after_unit_token : (what : UnitToken) (tokens rest : List Token) → UnitFirst what tokens rest → Starts tokens → Starts rest
  after_unit_token what tokens rest f h = (subst Starts f.2 h).1

  after_unit : (u : UnitSyntax) (tokens rest : List Token) → UnitSpells u tokens rest → UnitFits u → Starts tokens → Starts rest
  after_unit u tokens rest s fits h = let r = unit_reaches u tokens rest s fits in leaves_starts tokens rest (r.0, r.1) h

  mutual
    pub unit_holds : (u : UnitSyntax) (tokens rest : List Token) → UnitSpells u tokens rest → UnitFits u → Starts tokens → UnitHolds u
    unit_holds (one_syntax at) tokens rest s fits h = unit_at _ at tokens rest s.1 h
    unit_holds (measure_syntax at x) tokens rest s fits h = unit_at _ at tokens rest s h
    unit_holds (variable_syntax at x) tokens rest s fits h = unit_at _ at tokens rest s h
    unit_holds (power_syntax u k) tokens rest s fits h = unit_holds u tokens s.0 s.2 fits.1 h
    unit_holds (side_syntax no_units) tokens rest s fits h = absurd fits.0
    unit_holds (side_syntax (more_units u us)) tokens rest s fits h =
        let all = units_hold (more_units u us) tokens rest s fits.1 h in
        (first_holds u all.0, all)
    unit_holds (times_syntax u v) tokens rest s fits h =
        let behind = after_unit_token _ s.0 s.1 s.3 (after_unit u tokens s.0 s.2 fits.1 h) in
        (unit_holds u tokens s.0 s.2 fits.1 h, unit_holds v s.1 rest s.4 fits.2 behind)
    unit_holds (over_syntax u v) tokens rest s fits h =
        let behind = after_unit_token _ s.0 s.1 s.3 (after_unit u tokens s.0 s.2 fits.1 h) in
        (unit_holds u tokens s.0 s.2 fits.1 h, unit_holds v s.1 rest s.4 fits.2 behind)
    unit_holds (inverse_syntax at u) tokens rest s fits h = (unit_at _ at tokens s.0 s.1 h, unit_holds u s.0 rest s.2 fits.1 (after_unit_at _ at tokens s.0 s.1 h))
    unit_holds (bracket_syntax at u) tokens rest s fits h = (unit_at _ at tokens s.0 s.2 h, unit_holds u s.0 s.1 s.3 fits (after_unit_at _ at tokens s.0 s.2 h))

    units_hold : (us : UnitSyntaxes) (tokens rest : List Token) → UnitsSpell us tokens rest → ArePowers us → Starts tokens → UnitsHold us
    units_hold no_units tokens rest s fits h = tt
    units_hold (more_units u us) tokens rest s fits h = (unit_holds u tokens s.0 s.1 fits.1 h, units_hold us s.0 rest s.2 fits.2 (after_unit u tokens s.0 s.1 fits.1 h))

  -- ---- notes and types

  abbrev pub NoteHolds : NoteSyntax → Type 0
  NoteHolds (hole_syntax at) = P at
  NoteHolds (unit_note_syntax at u) = UnitHolds u

  abbrev pub NotesHold : List NoteSyntax → Type 0
  NotesHold [] = Unit {0}
  NotesHold (n ∷ ns) = NoteHolds n × NotesHold ns

  abbrev pub TypeHolds : TypeSyntax → Type 0
  TypeHolds bool_syntax = Unit {0}
  TypeHolds (num_syntax n) = NotesHold (at_most_one n)
  TypeHolds (record_syntax at x ns) = P at × NotesHold ns
  TypeHolds (list_type_syntax t) = TypeHolds t
  TypeHolds (bracket_type_syntax t) = TypeHolds t

  after_kind : (what : Kind) (tokens rest : List Token) → FirstKind what tokens rest → Starts tokens → Starts rest
  after_kind what tokens rest f h = (subst Starts f.2 h).1

  kind_at : (what : Kind) (at : ℕ) (tokens rest : List Token) → FirstKindAt what at tokens rest → Starts tokens → P at × Starts rest
  kind_at what at tokens rest f h = let all = subst Starts f.3 h in (subst P f.2 all.0, all.1)

  pub note_holds : (n : NoteSyntax) (tokens rest : List Token) → NoteSpells n tokens rest → NoteFits n → Starts tokens → NoteHolds n
  note_holds (hole_syntax at) tokens rest s fits h = (kind_at _ at tokens rest s h).0
  note_holds (unit_note_syntax at u) tokens rest s fits h = unit_holds u tokens rest s.1 fits h

  notes_hold : (ns : List NoteSyntax) (tokens rest : List Token) → NotesSpell ns tokens rest → NotesFit ns → Starts tokens → NotesHold ns
  notes_hold [] tokens rest s fits h = tt
  notes_hold (n ∷ []) tokens rest s fits h = (note_holds n tokens rest s fits.0 h, tt)
  notes_hold (n ∷ m ∷ ns) tokens rest s fits h =
      let behind = after_kind _ s.0 s.1 s.3 (leaves_starts tokens s.0 (note_leaves n tokens s.0 s.2 fits.0) h) in
      (note_holds n tokens s.0 s.2 fits.0 h, notes_hold (m ∷ ns) s.1 rest s.4 fits.1 behind)

  angled_hold : (ns : List NoteSyntax) (tokens rest : List Token) → AngledSpell ns tokens rest → NotesFit ns → Starts tokens → NotesHold ns
  angled_hold [] tokens rest s fits h = tt
  angled_hold (n ∷ ns) tokens rest s fits h = notes_hold (n ∷ ns) s.0 s.1 s.3 fits (after_kind _ tokens s.0 s.2 h)

  pub type_holds : (t : TypeSyntax) (tokens rest : List Token) → TypeSpells t tokens rest → TypeFits t → Starts tokens → TypeHolds t
  type_holds bool_syntax tokens rest s fits h = tt
  type_holds (num_syntax n) tokens rest s fits h = angled_hold (at_most_one n) s.0 rest s.2 fits (after_kind _ tokens s.0 s.1 h)
  type_holds (record_syntax at x ns) tokens rest s fits h = let k = kind_at _ at tokens s.0 s.1 h in (k.0, angled_hold ns s.0 rest s.2 fits k.1)
  type_holds (list_type_syntax t) tokens rest s fits h = type_holds t tokens s.0 s.1 fits h
  type_holds (bracket_type_syntax t) tokens rest s fits h = type_holds t s.0 s.1 s.3 fits (after_kind _ tokens s.0 s.2 h)

  pub after_type : (t : TypeSyntax) (tokens rest : List Token) → TypeSpells t tokens rest → TypeFits t → Starts tokens → Starts rest
  after_type t tokens rest s fits h = leaves_starts tokens rest (type_leaves t tokens rest s fits) h
