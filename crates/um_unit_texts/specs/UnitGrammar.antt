-- The grammar of unit texts: a relation between tokens and raw units, by cases on the unit.
--   unit  = [ "/" ] side { ( "*" | "/" ) side }       products and quotients associate to the left;
--   side  = power { power }                           a leading "/" takes the first side
--   power = atom [ "^" [ "-" ] Number ]
--   atom  = Name | Var | "1" | "(" unit ")"
-- Source: the F# specification, chapter Units Of Measure, for the forms of unit texts, without `_` and rational powers.
-- How tightly the signs of units bind is this project's own.
use Rattle.std.specs.Prelude.{◌≡◌, ℕ, ◌≤◌, ℤ, pos, neg_ℤ, Bool, true, ◌⊎◌, List, [], ◌∷◌, Option, Some}
use Rattle.um_syntax.specs.declared.token.Token.{Token}
use Rattle.um_tree.specs.RawTree.{UnitSyntax, UnitSyntaxes, one_syntax, measure_syntax, variable_syntax, power_syntax}
use Rattle.um_tree.specs.RawTree.{side_syntax, times_syntax, over_syntax, inverse_syntax, bracket_syntax, no_units}
use Rattle.um_tree.specs.RawTree.{more_units}
use Rattle.um_unit_texts.specs.UnitTokens.{UnitToken, sign, measure, variable, number, unit_token}
use Rattle.um_vocabulary.specs.declared.vocabulary.Symbol.TheVariants as symbol

-- the first token is this, and the others are the rest
abbrev pub First : UnitToken → List Token → List Token → Type 0
First what tokens rest = (token : Token) × (unit_token token.kind ≡ what) × (tokens ≡ token ∷ rest)

-- the same, with its place
abbrev pub FirstAt : UnitToken → ℕ → List Token → List Token → Type 0
FirstAt what at tokens rest =
    (token : Token) × (unit_token token.kind ≡ what) × (token.start ≡ at) × (tokens ≡ token ∷ rest)

-- the number of a power
abbrev pub Digits : ℕ → List Token → List Token → Type 0
Digits n tokens rest = (one : Bool) × First (number one (Some n)) tokens rest

-- what stands after `^`: a number, or `-` and a number
abbrev pub PowerSpells : ℤ → List Token → List Token → Type 0
PowerSpells k tokens rest =
    (n : ℕ)
    × (((k ≡ pos n) × Digits n tokens rest)
    ⊎ ((next : List Token) × (k ≡ neg_ℤ (pos n)) × First (sign symbol.Minus) tokens next × Digits n next rest))

-- the tokens are those of the unit text, and then the rest
abbrev mutual
  pub Spells : UnitSyntax → List Token → List Token → Type 0
  Spells (one_syntax at) tokens rest = (power : Option ℕ) × FirstAt (number true power) at tokens rest
  Spells (measure_syntax at x) tokens rest = FirstAt (measure x) at tokens rest
  Spells (variable_syntax at x) tokens rest = FirstAt (variable x) at tokens rest
  Spells (power_syntax u k) tokens rest =
      (mid next : List Token) × Spells u tokens mid × First (sign symbol.Caret) mid next × PowerSpells k next rest
  Spells (side_syntax us) tokens rest = AllSpell us tokens rest
  Spells (times_syntax u v) tokens rest =
      (mid next : List Token) × Spells u tokens mid × First (sign symbol.Star) mid next × Spells v next rest
  Spells (over_syntax u v) tokens rest =
      (mid next : List Token) × Spells u tokens mid × First (sign symbol.Slash) mid next × Spells v next rest
  Spells (inverse_syntax at u) tokens rest =
      (next : List Token) × FirstAt (sign symbol.Slash) at tokens next × Spells u next rest
  Spells (bracket_syntax at u) tokens rest =
      (next last : List Token) × FirstAt (sign symbol.LeftParen) at tokens next × Spells u next last
      × First (sign symbol.RightParen) last rest

  pub AllSpell : UnitSyntaxes → List Token → List Token → Type 0
  AllSpell no_units tokens rest = tokens ≡ rest
  AllSpell (more_units u us) tokens rest = (mid : List Token) × Spells u tokens mid × AllSpell us mid rest

-- an atom has rank 0, a power 1, a juxtaposition 2, a leading `/` 3, a product or quotient 4
abbrev pub rank : UnitSyntax → ℕ
rank (one_syntax at) = 0
rank (measure_syntax at x) = 0
rank (variable_syntax at x) = 0
rank (bracket_syntax at u) = 0
rank (power_syntax u k) = 1
rank (side_syntax us) = 2
rank (inverse_syntax at u) = 3
rank (times_syntax u v) = 4
rank (over_syntax u v) = 4

-- two or more
abbrev pub Several : UnitSyntaxes → Type 0
Several no_units = ⊥
Several (more_units u no_units) = ⊥
Several (more_units u (more_units v us)) = Unit {0}

-- each part stands where the grammar lets it stand
abbrev mutual
  pub Fits : UnitSyntax → Type 0
  Fits (one_syntax at) = Unit {0}
  Fits (measure_syntax at x) = Unit {0}
  Fits (variable_syntax at x) = Unit {0}
  Fits (power_syntax u k) = (rank u ≡ 0) × Fits u
  Fits (side_syntax us) = Several us × ArePowers us
  Fits (times_syntax u v) = (rank v ≤ 2) × Fits u × Fits v
  Fits (over_syntax u v) = (rank v ≤ 2) × Fits u × Fits v
  Fits (inverse_syntax at u) = (rank u ≤ 2) × Fits u
  Fits (bracket_syntax at u) = Fits u

  -- powers and atoms
  pub ArePowers : UnitSyntaxes → Type 0
  ArePowers no_units = Unit {0}
  ArePowers (more_units u us) = (rank u ≤ 1) × Fits u × ArePowers us

-- the tokens are this unit text
pub record IsUnit (tokens : List Token) (u : UnitSyntax) : Type 0 where
  pub spelled : Spells u tokens []
  pub fits : Fits u
