-- Mirrors the proof: which numbers of a text can be spelled anew, and the characters that come of it.
-- Source: this project's own.
use Rattle.std.specs.Prelude.{◌≡◌, ℕ, Bool, true, false, List, [], ◌∷◌, ◌++◌, slice_get, Option, Some, None}
use Rattle.um_frac.specs.declared.number.Frac.{Frac}
use Rattle.um_syntax.specs.declared.token.Kind.{Kind}
use Rattle.um_syntax.specs.declared.token.Kind.TheVariants as kind
use Rattle.um_syntax.specs.declared.token.Token.{Token}
use Rattle.um_syntax.specs.Numeral.{Numeral, numeral_text, IsNumeral, ordinary_value}
use Rattle.um_syntax.specs.Lexeme.{text_of}
use Rattle.um_syntax.specs.Lexing.{is_power_place, Lexes}
use Rattle.um_scale.specs.RescaledText.{opens_unit}

-- the token is a number, no power, with `<` directly after it; this is a number text with a value
pub record CanRespell (before : List Token) (t : Token) (rest : List Token) (n : Numeral) : Type 0 where
  pub value : Frac
  pub digits : Bool
  pub one : Bool
  pub number : t.kind ≡ kind.Number value digits one
  pub no_power : is_power_place before ≡ false
  pub opens : opens_unit (slice_get rest 0) ≡ true
  pub fits : IsNumeral n
  pub new : Frac
  pub has : ordinary_value n ≡ Some new

-- the kinds are one, or both are numbers
abbrev pub AlikeKinds : Kind → Kind → Type 0
AlikeKinds (kind.Number v d o) (kind.Number w e p) = Unit {0}
AlikeKinds k j = k ≡ j

-- token by token; and each follows the one before it directly exactly if the other does
abbrev pub AreAlike : List Token → List Token → Type 0
AreAlike [] [] = Unit {0}
AreAlike (t ∷ ts) (u ∷ us) = AlikeKinds t.kind u.kind × (u.glued ≡ t.glued) × AreAlike ts us
AreAlike ts us = ⊥

-- the second kind is that of the number text, or the first one if there is none
abbrev pub HasKindOf : Option Numeral → Kind → Kind → Type 0
HasKindOf None k j = j ≡ k
HasKindOf (Some n) k j =
    (c : Frac) × (digits one : Bool) × (ordinary_value n ≡ Some c) × (j ≡ kind.Number c digits one)

-- spell: the number text in place of a token, if there is one, by the tokens after it
module _ (spell : Token → List Token → Option Numeral) where
  abbrev pub AllCan : List Token → List Token → Type 0
  AllCan before [] = Unit {0}
  AllCan before (t ∷ ts) =
      ((n : Numeral) → spell t ts ≡ Some n → CanRespell before t ts n) × AllCan (before ++ t ∷ []) ts

  -- the second tokens are the first ones, but for the kinds of number texts
  abbrev pub AllHaveKinds : List Token → List Token → Type 0
  AllHaveKinds [] [] = Unit {0}
  AllHaveKinds (t ∷ ts) (u ∷ us) = HasKindOf (spell t ts) t.kind u.kind × (u.glued ≡ t.glued) × AllHaveKinds ts us
  AllHaveKinds ts us = ⊥

  abbrev pub new_text : Option Numeral → List ℕ → List ℕ
  new_text None text = text
  new_text (Some n) text = numeral_text n

  -- the characters with these tokens, numbers spelled anew
  abbrev pub respelled : (tokens before : List Token) (at : ℕ) (chars : List ℕ) → Lexes before at chars tokens → List ℕ
  respelled [] before at chars l = chars
  respelled (t ∷ ts) before at chars l =
      l.1.gap ++ (new_text (spell t ts) (text_of l.1.lexeme) ++ respelled ts (before ++ t ∷ []) t.end l.0 l.2)
