-- The grammar of the value texts of a shape: a relation between tokens and raw values, by cases on the value.
--   at bool    "true" | "false"
--   at num     [ "-" ] Number [ "<" (glued) note ">" ]
--   at a list  "[" [ value { ";" value } ] "]"
--   at a record  "{" Name "=" value { ";" Name "=" value } "}", its fields in the order of declaration
-- Source: this project's own; the notes are those of the F# specification, chapter Units Of Measure.
use Rattle.std.specs.Prelude.{◌≡◌, ℕ, max, Bool, true, false, List, [], ◌∷◌, ◌++◌, slice_get, Option, Some, None}
use Rattle.um_frac.specs.declared.number.Frac.{Frac}
use Rattle.um_syntax.specs.declared.token.Token.{Token}
use Rattle.um_syntax.specs.declared.token.Kind.TheVariants as kind
use Rattle.um_vocabulary.specs.declared.vocabulary.Keyword.{Keyword}
use Rattle.um_vocabulary.specs.declared.vocabulary.Keyword.TheVariants as keyword
use Rattle.um_vocabulary.specs.declared.vocabulary.Symbol.TheVariants as symbol
use Rattle.um_tree.specs.RawTree.{NoteSyntax}
use Rattle.um_tree.specs.TypeTree.{ShapeTree, bool_shape, num_shape, list_shape, record_shape}
use Rattle.um_tree.specs.ProgramTree.{FieldTree, RecordTree}
use Rattle.um_tree.specs.Shapes.{type_shape}
use Rattle.um_types.specs.TypeGrammar.{FirstKind, FirstSign, FirstWord, IsNote}
use Rattle.um_types.specs.TypeHeights.{note_height}
use Rattle.um_value.specs.ValueSyntax.{ValueSyntax, ValueSyntaxes, raw_truth, raw_number, raw_list, raw_record}
use Rattle.um_value.specs.ValueSyntax.{raw_none, raw_more}

abbrev pub truth_word : Bool → Keyword
truth_word true = keyword.True
truth_word false = keyword.False

-- the first token is a number with this value, at this place
abbrev pub FirstNumber : ℕ → Frac → List Token → List Token → Type 0
FirstNumber at value tokens rest =
    (token : Token) × (digits : Bool) × (one : Bool) × (token.kind ≡ kind.Number value digits one) × (token.start ≡ at)
    × (tokens ≡ token ∷ rest)

-- the first token is `<`, directly after the token before it
abbrev pub FirstGlued : List Token → List Token → Type 0
FirstGlued tokens rest =
    (token : Token) × (token.kind ≡ kind.Sign symbol.Less) × (token.glued ≡ true) × (tokens ≡ token ∷ rest)

-- a note in angle brackets, or nothing if there is none
abbrev pub WrittenSpells : Option NoteSyntax → List Token → List Token → Type 0
WrittenSpells None tokens rest = tokens ≡ rest
WrittenSpells (Some n) tokens rest =
    (next inside last : List Token) × FirstGlued tokens next × (next ≡ inside ++ last) × IsNote inside n
    × FirstSign symbol.Greater last rest

-- a number and its note
abbrev pub PlainSpells : ℕ → Frac → Option NoteSyntax → List Token → List Token → Type 0
PlainSpells at value n tokens rest = (next : List Token) × FirstNumber at value tokens next × WrittenSpells n next rest

-- the same after `-`, if it is negative
abbrev pub NumberSpells : ℕ → Bool → Frac → Option NoteSyntax → List Token → List Token → Type 0
NumberSpells at false value n tokens rest = PlainSpells at value n tokens rest
NumberSpells at true value n tokens rest =
    (next : List Token) × FirstSign symbol.Minus tokens next × PlainSpells at value n next rest

-- the field's name, `=`, and a value
abbrev pub NamedSpells : FieldTree → (List Token → List Token → Type 0) → List Token → List Token → Type 0
NamedSpells f Value tokens rest =
    (next after : List Token) × FirstKind (kind.Name f.name) tokens next × FirstSign symbol.Equal next after
    × Value after rest

module _ (records : List RecordTree) where
  abbrev mutual
    -- the tokens are those of the value text of the shape, and then the rest
    pub Spells : ValueSyntax → ShapeTree → List Token → List Token → Type 0
    Spells (raw_truth b) s tokens rest = (s ≡ bool_shape) × FirstWord (truth_word b) tokens rest
    Spells (raw_number at negative value n) s tokens rest =
        (s ≡ num_shape) × NumberSpells at negative value n tokens rest
    Spells (raw_list vs) s tokens rest =
        (t : ShapeTree) × (next : List Token) × (s ≡ list_shape t) × FirstSign symbol.LeftBracket tokens next
        × ItemsSpell vs t next rest
    Spells (raw_record r vs) s tokens rest =
        (d : RecordTree) × (next : List Token) × (s ≡ record_shape r) × (slice_get records r ≡ Some d)
        × FirstSign symbol.LeftBrace tokens next × FieldsSpell vs d.fields next rest

    -- items of the shape and the closing bracket; items after another and the closing bracket
    pub ItemsSpell : ValueSyntaxes → ShapeTree → List Token → List Token → Type 0
    ItemsSpell raw_none t tokens rest = FirstSign symbol.RightBracket tokens rest
    ItemsSpell (raw_more v vs) t tokens rest =
        (mid : List Token) × Spells v t tokens mid × MoreItemsSpell vs t mid rest

    pub MoreItemsSpell : ValueSyntaxes → ShapeTree → List Token → List Token → Type 0
    MoreItemsSpell raw_none t tokens rest = FirstSign symbol.RightBracket tokens rest
    MoreItemsSpell (raw_more v vs) t tokens rest =
        (next mid : List Token) × FirstSign symbol.Semicolon tokens next × Spells v t next mid
        × MoreItemsSpell vs t mid rest

    -- these fields, at least one, and the closing brace; these fields after another and the closing brace
    pub FieldsSpell : ValueSyntaxes → List FieldTree → List Token → List Token → Type 0
    FieldsSpell raw_none fs tokens rest = ⊥
    FieldsSpell (raw_more v vs) [] tokens rest = ⊥
    FieldsSpell (raw_more v vs) (f ∷ fs) tokens rest =
        (mid : List Token) × NamedSpells f (Spells v (type_shape f.type)) tokens mid × MoreFieldsSpell vs fs mid rest

    pub MoreFieldsSpell : ValueSyntaxes → List FieldTree → List Token → List Token → Type 0
    MoreFieldsSpell raw_none [] tokens rest = FirstSign symbol.RightBrace tokens rest
    MoreFieldsSpell raw_none (f ∷ fs) tokens rest = ⊥
    MoreFieldsSpell (raw_more v vs) [] tokens rest = ⊥
    MoreFieldsSpell (raw_more v vs) (f ∷ fs) tokens rest =
        (next mid : List Token) × FirstSign symbol.Semicolon tokens next
        × NamedSpells f (Spells v (type_shape f.type)) next mid × MoreFieldsSpell vs fs mid rest

  -- the tokens are this value text of the shape
  abbrev pub IsValueText : ShapeTree → List Token → ValueSyntax → Type 0
  IsValueText s tokens v = Spells v s tokens []

  -- each record that the shape names is one of these
  abbrev pub IsShapeIn : ShapeTree → Type 0
  IsShapeIn bool_shape = Unit {0}
  IsShapeIn num_shape = Unit {0}
  IsShapeIn (list_shape t) = IsShapeIn t
  IsShapeIn (record_shape r) = (d : RecordTree) × (slice_get records r ≡ Some d)

-- ---- the height of the highest unit text in a value text

abbrev pub written_height : Option NoteSyntax → ℕ
written_height None = 0
written_height (Some n) = note_height n

abbrev mutual
  pub value_height : ValueSyntax → ℕ
  value_height (raw_truth b) = 0
  value_height (raw_number at negative value n) = written_height n
  value_height (raw_list vs) = raws_height vs
  value_height (raw_record r vs) = raws_height vs

  pub raws_height : ValueSyntaxes → ℕ
  raws_height raw_none = 0
  raws_height (raw_more v vs) = max (value_height v) (raws_height vs)
