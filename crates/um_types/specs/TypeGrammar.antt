-- The grammar of notes and types: relations between tokens and raw trees, by cases on the tree.
--   type = atom { "list" }
--   atom = "num" [ "<" note ">" ] | "bool" | Name [ "<" note { "," note } ">" ] | "(" type ")"
--   note = "_" | unit
-- Source: the F# specification, chapter Units Of Measure (measure annotations of types); the word `num` and the form of
-- records are this project's own.
use Rattle.std.specs.Prelude.{◌≡◌, ℕ, List, [], ◌∷◌, Option, Some, None}
use Rattle.um_syntax.specs.declared.token.Token.{Token}
use Rattle.um_syntax.specs.declared.token.Kind.{Kind}
use Rattle.um_syntax.specs.declared.token.Kind.TheVariants as kind
use Rattle.um_vocabulary.specs.declared.vocabulary.Keyword.{Keyword}
use Rattle.um_vocabulary.specs.declared.vocabulary.Keyword.TheVariants as keyword
use Rattle.um_vocabulary.specs.declared.vocabulary.Symbol.{Symbol}
use Rattle.um_vocabulary.specs.declared.vocabulary.Symbol.TheVariants as symbol
use Rattle.um_tree.specs.RawTree.{NoteSyntax, hole_syntax, unit_note_syntax, TypeSyntax, bool_syntax, num_syntax}
use Rattle.um_tree.specs.RawTree.{record_syntax, list_type_syntax, bracket_type_syntax}
use Rattle.um_unit_texts.specs.UnitGrammar.{Spells, Fits}

-- the first token is of this kind, and the others are the rest
abbrev pub FirstKind : Kind → List Token → List Token → Type 0
FirstKind what tokens rest = (token : Token) × (token.kind ≡ what) × (tokens ≡ token ∷ rest)

abbrev pub FirstSign : Symbol → List Token → List Token → Type 0
FirstSign what tokens rest = FirstKind (kind.Sign what) tokens rest

abbrev pub FirstWord : Keyword → List Token → List Token → Type 0
FirstWord what tokens rest = FirstKind (kind.Word what) tokens rest

-- the same, with its place
abbrev pub FirstKindAt : Kind → ℕ → List Token → List Token → Type 0
FirstKindAt what at tokens rest = (token : Token) × (token.kind ≡ what) × (token.start ≡ at) × (tokens ≡ token ∷ rest)

-- the first token is this name, at this place
abbrev pub FirstName : ℕ → List ℕ → List Token → List Token → Type 0
FirstName at x tokens rest = FirstKindAt (kind.Name x) at tokens rest

-- the first token is `_`, at this place
abbrev pub FirstHole : ℕ → List Token → List Token → Type 0
FirstHole at tokens rest = FirstKindAt kind.Hole at tokens rest

-- the first token stands at this place
abbrev pub BeginsAt : ℕ → List Token → Type 0
BeginsAt at tokens = (token : Token) × (more : List Token) × (token.start ≡ at) × (tokens ≡ token ∷ more)

-- the tokens are those of the note, and then the rest
abbrev pub NoteSpells : NoteSyntax → List Token → List Token → Type 0
NoteSpells (hole_syntax at) tokens rest = FirstHole at tokens rest
NoteSpells (unit_note_syntax at u) tokens rest = BeginsAt at tokens × Spells u tokens rest

-- one or more notes, with commas between them
abbrev pub NotesSpell : List NoteSyntax → List Token → List Token → Type 0
NotesSpell [] tokens rest = ⊥
NotesSpell (n ∷ []) tokens rest = NoteSpells n tokens rest
NotesSpell (n ∷ m ∷ ns) tokens rest =
    (mid next : List Token) × NoteSpells n tokens mid × FirstSign symbol.Comma mid next
    × NotesSpell (m ∷ ns) next rest

-- notes in angle brackets, or nothing if there are none
abbrev pub AngledSpell : List NoteSyntax → List Token → List Token → Type 0
AngledSpell [] tokens rest = tokens ≡ rest
AngledSpell (n ∷ ns) tokens rest =
    (next last : List Token) × FirstSign symbol.Less tokens next × NotesSpell (n ∷ ns) next last
    × FirstSign symbol.Greater last rest

abbrev pub at_most_one : Option NoteSyntax → List NoteSyntax
at_most_one None = []
at_most_one (Some n) = n ∷ []

-- the tokens are those of the type text, and then the rest
abbrev pub TypeSpells : TypeSyntax → List Token → List Token → Type 0
TypeSpells bool_syntax tokens rest = FirstWord keyword.Bool tokens rest
TypeSpells (num_syntax n) tokens rest =
    (next : List Token) × FirstWord keyword.Num tokens next × AngledSpell (at_most_one n) next rest
TypeSpells (record_syntax at x ns) tokens rest =
    (next : List Token) × FirstName at x tokens next × AngledSpell ns next rest
TypeSpells (list_type_syntax t) tokens rest =
    (mid : List Token) × TypeSpells t tokens mid × FirstWord keyword.List mid rest
TypeSpells (bracket_type_syntax t) tokens rest =
    (next last : List Token) × FirstSign symbol.LeftParen tokens next × TypeSpells t next last
    × FirstSign symbol.RightParen last rest

-- each unit text in it is one of the grammar; a type may stand at each place where the rules above put one
abbrev pub NoteFits : NoteSyntax → Type 0
NoteFits (hole_syntax at) = Unit {0}
NoteFits (unit_note_syntax at u) = Fits u

abbrev pub NotesFit : List NoteSyntax → Type 0
NotesFit [] = Unit {0}
NotesFit (n ∷ ns) = NoteFits n × NotesFit ns

abbrev pub TypeFits : TypeSyntax → Type 0
TypeFits bool_syntax = Unit {0}
TypeFits (num_syntax n) = NotesFit (at_most_one n)
TypeFits (record_syntax at x ns) = NotesFit ns
TypeFits (list_type_syntax t) = TypeFits t
TypeFits (bracket_type_syntax t) = TypeFits t

-- the tokens are this note; this type text
pub record IsNote (tokens : List Token) (n : NoteSyntax) : Type 0 where
  pub spelled : NoteSpells n tokens []
  pub fits : NoteFits n

pub record IsType (tokens : List Token) (t : TypeSyntax) : Type 0 where
  pub spelled : TypeSpells t tokens []
  pub fits : TypeFits t
