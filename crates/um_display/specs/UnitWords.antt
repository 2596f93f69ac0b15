-- The units in which numbers are to be printed, as one word: `-`, or parts with commas between them. A part is a unit
-- text, or NAME=NUMBER<unit>, a size that has a name.
-- Source: this project's own; unit texts are those of the F# specification, chapter Units Of Measure.
use Rattle.std.specs.Prelude.{◌≡◌, ◌≤◌, ◌⊎◌, ◌==◌, ◌-◌, ◌++◌, ◌&&◌, ◌||◌, not, ℕ, pos, int_le, Bool, true, false, cond}
use Rattle.std.specs.Prelude.{List, [], ◌∷◌, length, get_or, codes, Option, Some, None}
use Rattle.std.specs.List.{list_any, slice_split}
use Rattle.std.specs.Str.{chars}
use Rattle.std.specs.Str.Iter.{HasSubslice}
use Rattle.um_frac.specs.declared.number.Frac.{Frac}
use Rattle.um_frac.specs.Fraction.{numerator}
use Rattle.um_syntax.specs.declared.token.Token.{Token}
use Rattle.um_syntax.specs.declared.token.Kind.{Kind}
use Rattle.um_syntax.specs.declared.token.Kind.TheVariants as kind
use Rattle.um_vocabulary.specs.declared.vocabulary.Symbol.TheVariants as symbol
use Rattle.um_syntax.specs.Gap.{is_space}
use Rattle.um_syntax.specs.Lexing.{HasTokens}
use Rattle.um_tree.specs.RawTree.{UnitSyntax}
use Rattle.um_tree.specs.Heights.{unit_height}
use Rattle.um_unit_texts.specs.UnitGrammar.{IsUnit}
use Rattle.um_unit_texts.specs.UnitStops.{greatest_height}

-- ---- the text of a part

-- white space other than a space; the mark U+FEFF, which is skipped at the start of a text, counts as such
abbrev pub is_other_white : ℕ → Bool
is_other_white c = (is_space c && not (c == 32)) || c == 65279

abbrev pub is_space_at : List ℕ → ℕ → Bool
is_space_at bytes i = get_or bytes i 0 == 32

-- no comment, spaces inside alone, and no other white space
pub record IsPlain (bytes : List ℕ) : Type 0 where
  pub no_comment : HasSubslice bytes (codes "//") → ⊥
  pub no_other_white : list_any is_other_white (chars bytes) ≡ false
  pub no_space_first : is_space_at bytes 0 ≡ false
  pub no_space_last : is_space_at bytes (length bytes - 1) ≡ false

-- the text with each run of spaces as one
abbrev pub one_space_each : List ℕ → List ℕ
one_space_each [] = []
one_space_each (b ∷ []) = b ∷ []
one_space_each (b ∷ c ∷ cs) =
    cond (b == 32 && c == 32) (one_space_each (c ∷ cs)) (b ∷ one_space_each (c ∷ cs))

-- ---- a part

-- what is printed after a number, the size by which it is divided, if there is one, and the unit of such numbers
pub record PartSyntax : Type 0 where
  pub label : List ℕ
  pub size : Option Frac
  pub unit : UnitSyntax

-- the tokens are this unit text, which isn't too high
pub record IsLowUnit (tokens : List Token) (u : UnitSyntax) : Type 0 where
  pub is : IsUnit tokens u
  pub low : unit_height u ≤ greatest_height

-- a unit text, which is printed as it is written
pub record IsWritten (bytes : List ℕ) (tokens : List Token) (part : PartSyntax) : Type 0 where
  pub label : part.label ≡ one_space_each bytes
  pub size : part.size ≡ None
  pub unit : IsLowUnit tokens part.unit

-- the letters of a name
abbrev pub name_in : Kind → Option (List ℕ)
name_in (kind.Name x) = Some x
name_in _ = None

-- the value of a number above 0
abbrev pub positive_in : Kind → Option Frac
positive_in (kind.Number value digits one) = cond (int_le (pos 1) (numerator value)) (Some value) None
positive_in _ = None

abbrev pub is_equal : Kind → Bool
is_equal (kind.Sign symbol.Equal) = true
is_equal _ = false

abbrev pub is_less : Kind → Bool
is_less (kind.Sign symbol.Less) = true
is_less _ = false

abbrev pub is_greater : Kind → Bool
is_greater (kind.Sign symbol.Greater) = true
is_greater _ = false

-- `=`, `<` directly after what stands before it, and `>`
abbrev pub are_marks : Token → Token → Token → Bool
are_marks equal less greater =
    is_equal equal.kind && (is_less less.kind && (less.glued && is_greater greater.kind))

-- a name, which is printed, the size that has it, and its unit
pub record IsNamed (name number : Token) (inside : List Token) (part : PartSyntax) : Type 0 where
  pub value : Frac
  pub named : name_in name.kind ≡ Some part.label
  pub numbered : positive_in number.kind ≡ Some value
  pub size : part.size ≡ Some value
  pub unit : IsLowUnit inside part.unit

-- NAME=NUMBER<unit>
pub record IsSized (tokens : List Token) (part : PartSyntax) : Type 0 where
  pub name : Token
  pub equal : Token
  pub number : Token
  pub less : Token
  pub inside : List Token
  pub greater : Token
  pub whole : tokens ≡ name ∷ equal ∷ number ∷ less ∷ inside ++ greater ∷ []
  pub marked : are_marks equal less greater ≡ true
  pub named : IsNamed name number inside part

abbrev pub IsPartOf : List ℕ → List Token → PartSyntax → Type 0
IsPartOf bytes tokens part = IsWritten bytes tokens part ⊎ IsSized tokens part

pub record IsPart (bytes : List ℕ) (part : PartSyntax) : Type 0 where
  pub plain : IsPlain bytes
  pub tokens : List Token
  pub lexed : HasTokens (chars bytes) tokens
  pub form : IsPartOf bytes tokens part

-- ---- the word

-- the texts between the commas
abbrev pub texts_in : List ℕ → List (List ℕ)
texts_in word = slice_split (λ b. b == 44) word

abbrev pub ArePartsOf : List (List ℕ) → List PartSyntax → Type 0
ArePartsOf [] [] = Unit {0}
ArePartsOf [] (part ∷ parts) = ⊥
ArePartsOf (bytes ∷ more) [] = ⊥
ArePartsOf (bytes ∷ more) (part ∷ parts) = IsPart bytes part × ArePartsOf more parts

-- the parts between the commas, or none for `-`
abbrev pub IsUnitWord : List ℕ → List PartSyntax → Type 0
IsUnitWord word parts =
    ((word ≡ codes "-") × (parts ≡ [])) ⊎ ((word ≡ codes "-" → ⊥) × ArePartsOf (texts_in word) parts)
