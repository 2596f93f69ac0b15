-- Where the reading ends of a text that is no value text.
-- Source: this project's own; the stop is the end of the longest viable prefix, as in Knuth, On the Translation of
-- Languages from Left to Right.
use Rattle.std.specs.Prelude.{◌≡◌, ℕ, ◌+◌, ◌≤◌, ◌<◌, List, length, take}
use Rattle.um_syntax.specs.declared.token.Token.{Token}
use Rattle.um_tree.specs.TypeTree.{ShapeTree}
use Rattle.um_tree.specs.ProgramTree.{RecordTree}
use Rattle.um_reader.specs.Texts.{BeginsTextWithin}
use Rattle.um_unit_texts.specs.UnitStops.{greatest_height}
use Rattle.um_value.specs.ValueSyntax.{ValueSyntax}
use Rattle.um_value.specs.ValueGrammar.{IsValueText, value_height}

-- the tokens begin a value text of the shape, whose unit texts are within the height
abbrev pub BeginsValue : List RecordTree → ShapeTree → List Token → Type 0
BeginsValue records s tokens = BeginsTextWithin (IsValueText records s) value_height greatest_height tokens

-- the first token through which the tokens begin no such value text, or the end of tokens that are none
pub record StopsAtValue (records : List RecordTree) (s : ShapeTree) (tokens : List Token) (k : ℕ) : Type 0 where
  pub within : k ≤ length tokens
  pub before : BeginsValue records s (take k tokens)
  pub through : k < length tokens → BeginsValue records s (take (k + 1) tokens) → ⊥
  pub none : k ≡ length tokens → (v : ValueSyntax) → IsValueText records s tokens v
      → value_height v ≤ greatest_height → ⊥
