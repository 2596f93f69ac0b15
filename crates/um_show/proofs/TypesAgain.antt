-- The tokens of the layout of a note or of a type text are those of the same, places aside.
use Rattle.std.proofs.Common.{◌≡◌, ℕ, Bool, List, [], ◌∷◌, ◌++◌, Option, Some, None, map, refl, sym, ap, ◌∙◌, subst}
use Rattle.std.specs.List.{flat_map}
use Rattle.um_syntax.specs.declared.token.Token.{Token}
use Rattle.um_tree.specs.RawTree.{UnitSyntax, NoteSyntax, hole_syntax, unit_note_syntax, TypeSyntax, bool_syntax, num_syntax, record_syntax, list_type_syntax, bracket_type_syntax, one_syntax, measure_syntax, variable_syntax, power_syntax, side_syntax, times_syntax, over_syntax, inverse_syntax, bracket_syntax, no_units, more_units}
use Rattle.um_unit_texts.specs.UnitGrammar.{Spells, Fits}
use Rattle.um_types.specs.TypeGrammar.{BeginsAt, NoteSpells, NotesSpell, AngledSpell, at_most_one, TypeSpells, NoteFits, NotesFit, TypeFits}
use Rattle.um_show.specs.Pieces.{Piece, hole, space, comma, greater, bool_word, list_word, bracket_close}
use Rattle.um_show.specs.Layout.{note_pieces, written_pieces, angled_pieces, type_pieces}
use Rattle.um_show.specs.Unplaced.{bare_note, bare_written, bare_type}
use Rattle.um_show.proofs.PieceTokens.{PiecesSpell, both, only}
use Rattle.um_show.proofs.UnitsAgain.{unit_again}

pub record NoteAgain (n : NoteSyntax) (tokens rest : List Token) : Type 0 where
  pub again : NoteSyntax
  pub spelled : NoteSpells again tokens rest
  pub fits : NoteFits again
  pub same : bare_note again ≡ bare_note n

pub record NotesAgain (ns : List NoteSyntax) (tokens rest : List Token) : Type 0 where
  pub first_note : NoteSyntax
  pub others : List NoteSyntax
  pub spelled : NotesSpell (first_note ∷ others) tokens rest
  pub fits : NotesFit (first_note ∷ others)
  pub same : map bare_note (first_note ∷ others) ≡ map bare_note ns

pub record TypeAgain (t : TypeSyntax) (tokens rest : List Token) : Type 0 where
  pub again : TypeSyntax
  pub spelled : TypeSpells again tokens rest
  pub fits : TypeFits again
  pub same : bare_type again ≡ bare_type t

-- a unit text has a first token
abbrev Begun : List Token → Type 0
Begun tokens = (at : ℕ) × BeginsAt at tokens

unit_begins : (u : UnitSyntax) (tokens rest : List Token) → Fits u → Spells u tokens rest → Begun tokens
unit_begins (one_syntax at) tokens rest f s = (s.1.0.start, (s.1.0, rest, refl, s.1.3))
unit_begins (measure_syntax at x) tokens rest f s = (s.0.start, (s.0, rest, refl, s.3))
unit_begins (variable_syntax at x) tokens rest f s = (s.0.start, (s.0, rest, refl, s.3))
unit_begins (power_syntax u k) tokens rest f s = unit_begins u tokens s.0 f.1 s.2
unit_begins (side_syntax no_units) tokens rest f s = absurd f.0
unit_begins (side_syntax (more_units u us)) tokens rest f s = unit_begins u tokens s.0 f.1.1 s.1
unit_begins (times_syntax u v) tokens rest f s = unit_begins u tokens s.0 f.1 s.2
unit_begins (over_syntax u v) tokens rest f s = unit_begins u tokens s.0 f.1 s.2
unit_begins (inverse_syntax at u) tokens rest f s = (s.1.0.start, (s.1.0, s.0, refl, s.1.3))
unit_begins (bracket_syntax at u) tokens rest f s = (s.2.0.start, (s.2.0, s.0, refl, s.2.3))

pub note_again : (n : NoteSyntax) → NoteFits n → (g : Bool) (tokens : List Token) (h : Bool) (rest : List Token) → PiecesSpell (note_pieces n) g tokens h rest → NoteAgain n tokens rest
note_again (hole_syntax at) f g tokens h rest s =
    let o = only hole g tokens h rest s in
    record { again = hole_syntax o.token.start; spelled = (o.token, o.kind, refl, o.first); fits = tt; same = refl }
note_again (unit_note_syntax at u) f g tokens h rest s =
    let r = unit_again u f g tokens h rest s in let b = unit_begins r.again tokens rest r.fits r.spelled in
    record { again = unit_note_syntax b.0 r.again; spelled = (b.1, r.spelled); fits = r.fits; same = ap (unit_note_syntax 0) r.same }

-- later notes, each with the comma before it
abbrev later_pieces : List NoteSyntax → List Piece
later_pieces ns = flat_map (λ n. (comma ∷ space ∷ []) ++ note_pieces n) ns

notes_again : (n : NoteSyntax) (ns : List NoteSyntax) → NotesFit (n ∷ ns) → (g : Bool) (tokens : List Token) (h : Bool) (rest : List Token) → PiecesSpell (note_pieces n ++ later_pieces ns) g tokens h rest → NotesAgain (n ∷ ns) tokens rest
notes_again n [] f g tokens h rest s =
    let b = both (note_pieces n) [] g tokens h rest s in let r = note_again n f.0 g tokens b.flag b.next b.here in
    record { first_note = r.again; others = []; spelled = subst (NoteSpells r.again tokens) b.later.same r.spelled; fits = (r.fits, tt); same = ap (λ m. m ∷ []) r.same }
notes_again n (m ∷ ns) f g tokens h rest s =
    let b = both (note_pieces n) (later_pieces (m ∷ ns)) g tokens h rest s in let r = note_again n f.0 g tokens b.flag b.next b.here in
    let o = b.later.here in let gap = b.later.later in
    let begun = subst (λ ts. PiecesSpell (note_pieces m ++ later_pieces ns) gap.flag ts h rest) (sym gap.here.none) gap.later in
    let q = notes_again m ns f.1 gap.flag b.later.next h rest begun in
    record { first_note = r.again; others = q.first_note ∷ q.others; spelled = (b.next, b.later.next, r.spelled, (o.token, o.kind, o.first), q.spelled); fits = (r.fits, q.fits); same = ap (λ a. a ∷ map bare_note (q.first_note ∷ q.others)) r.same ∙ ap (λ later. bare_note n ∷ later) q.same }

pub record AngledAgain (ns : List NoteSyntax) (tokens rest : List Token) : Type 0 where
  pub again : List NoteSyntax
  pub spelled : AngledSpell again tokens rest
  pub fits : NotesFit again
  pub same : map bare_note again ≡ map bare_note ns

angled_again : (ns : List NoteSyntax) → NotesFit ns → (g : Bool) (tokens : List Token) (h : Bool) (rest : List Token) → PiecesSpell (angled_pieces ns) g tokens h rest → AngledAgain ns tokens rest
angled_again [] f g tokens h rest s = record { again = []; spelled = s.same; fits = tt; same = refl }
angled_again (n ∷ ns) f g tokens h rest s =
    let o = s.here in let b = both (note_pieces n ++ later_pieces ns) (greater ∷ []) s.flag s.next h rest s.later in
    let r = notes_again n ns f s.flag s.next b.flag b.next b.here in let c = only greater b.flag b.next h rest b.later in
    record { again = r.first_note ∷ r.others; spelled = (s.next, b.next, (o.token, o.kind, o.first), r.spelled, (c.token, c.kind, c.first)); fits = r.fits; same = r.same }

pub record WrittenAgain (n : Option NoteSyntax) (tokens rest : List Token) : Type 0 where
  pub again : Option NoteSyntax
  pub spelled : AngledSpell (at_most_one again) tokens rest
  pub fits : NotesFit (at_most_one again)
  pub same : bare_written again ≡ bare_written n

pub written_again : (n : Option NoteSyntax) → NotesFit (at_most_one n) → (g : Bool) (tokens : List Token) (h : Bool) (rest : List Token) → PiecesSpell (written_pieces n) g tokens h rest → WrittenAgain n tokens rest
written_again None f g tokens h rest s = record { again = None; spelled = s.same; fits = tt; same = refl }
written_again (Some n) f g tokens h rest s =
    let o = s.here in let b = both (note_pieces n) (greater ∷ []) s.flag s.next h rest s.later in
    let r = note_again n f.0 s.flag s.next b.flag b.next b.here in let c = only greater b.flag b.next h rest b.later in
    record { again = Some r.again; spelled = (s.next, b.next, (o.token, o.kind, o.first), r.spelled, (c.token, c.kind, c.first)); fits = (r.fits, tt); same = ap (λ m. Some m) r.same }

pub type_again : (t : TypeSyntax) → TypeFits t → (g : Bool) (tokens : List Token) (h : Bool) (rest : List Token) → PiecesSpell (type_pieces t) g tokens h rest → TypeAgain t tokens rest
type_again bool_syntax f g tokens h rest s =
    let o = only bool_word g tokens h rest s in
    record { again = bool_syntax; spelled = (o.token, o.kind, o.first); fits = tt; same = refl }
type_again (num_syntax n) f g tokens h rest s =
    let o = s.here in let r = written_again n f s.flag s.next h rest s.later in
    record { again = num_syntax r.again; spelled = (s.next, (o.token, o.kind, o.first), r.spelled); fits = r.fits; same = ap num_syntax r.same }
type_again (record_syntax at x ns) f g tokens h rest s =
    let o = s.here in let r = angled_again ns f s.flag s.next h rest s.later in
    record { again = record_syntax o.token.start x r.again; spelled = (s.next, (o.token, o.kind, refl, o.first), r.spelled); fits = r.fits; same = ap (record_syntax 0 x) r.same }
type_again (list_type_syntax t) f g tokens h rest s =
    let b = both (type_pieces t) (space ∷ list_word ∷ []) g tokens h rest s in let r = type_again t f g tokens b.flag b.next b.here in
    let o = only list_word b.later.flag b.later.next h rest b.later.later in
    record { again = list_type_syntax r.again; spelled = (b.next, r.spelled, (o.token, o.kind, b.later.here.none ∙ o.first)); fits = r.fits; same = ap list_type_syntax r.same }
type_again (bracket_type_syntax t) f g tokens h rest s =
    let o = s.here in let b = both (type_pieces t) (bracket_close ∷ []) s.flag s.next h rest s.later in let r = type_again t f s.flag s.next b.flag b.next b.here in
    let c = only bracket_close b.flag b.next h rest b.later in
    record { again = bracket_type_syntax r.again; spelled = (s.next, b.next, (o.token, o.kind, o.first), r.spelled, (c.token, c.kind, c.first)); fits = r.fits; same = ap bracket_type_syntax r.same }
