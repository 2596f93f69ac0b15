-- The grammar of signature texts: types with `->` between them, at least one.
-- Source: the notation of function types in ML (Kennedy 1996, chapter 2); that a signature is a list of types is this
-- project's own.
use Rattle.std.specs.Prelude.{ℕ, List, [], ◌∷◌}
use Rattle.um_syntax.specs.declared.token.Token.{Token}
use Rattle.um_tree.specs.RawTree.{TypeSyntax}
use Rattle.um_reader.specs.Stops.{Fails, HighAt}
use Rattle.um_unit_texts.specs.UnitStops.{greatest_height}
use Rattle.um_types.specs.TypeGrammar.{FirstSign, TypeSpells, TypeFits}
use Rattle.um_types.specs.TypeHeights.{all_height}
use Rattle.um_vocabulary.specs.declared.vocabulary.Symbol.TheVariants as symbol

-- the tokens are those of the types, and then the rest
abbrev pub TypesSpell : List TypeSyntax → List Token → List Token → Type 0
TypesSpell [] tokens rest = ⊥
TypesSpell (t ∷ []) tokens rest = TypeSpells t tokens rest
TypesSpell (t ∷ u ∷ us) tokens rest =
    (mid next : List Token) × TypeSpells t tokens mid × FirstSign symbol.Arrow mid next
    × TypesSpell (u ∷ us) next rest

abbrev pub TypesFit : List TypeSyntax → Type 0
TypesFit [] = Unit {0}
TypesFit (t ∷ ts) = TypeFits t × TypesFit ts

-- the tokens are this signature text
pub record IsSignature (tokens : List Token) (ts : List TypeSyntax) : Type 0 where
  pub spelled : TypesSpell ts tokens []
  pub fits : TypesFit ts

-- the first token through which the tokens begin no signature text, or the end of tokens that are none; no token
-- before it makes them too high
abbrev pub SignatureFails : List Token → ℕ → Type 0
SignatureFails tokens k = Fails IsSignature all_height greatest_height tokens k

-- the first token through which the tokens begin a signature text and none within the heights
abbrev pub SignatureHighAt : List Token → ℕ → Type 0
SignatureHighAt tokens k = HighAt IsSignature all_height greatest_height tokens k
