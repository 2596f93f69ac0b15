-- Where the reading of a unit text ends.
-- Source: this project's own; the stop is the end of the longest viable prefix, as in Knuth, On the Translation of
-- Languages from Left to Right.
use Rattle.std.specs.Prelude.{ℕ, List, map, slice_index_or}
use Rattle.um_syntax.specs.declared.token.Token.{Token}
use Rattle.um_tree.specs.RawTree.{UnitSyntax}
use Rattle.um_tree.specs.Heights.{unit_height}
use Rattle.um_reader.specs.Stops.{Reads as ReadsText, Misread as MisreadText, HighAt as TextHighAt}
use Rattle.um_unit_texts.specs.UnitGrammar.{IsUnit}

-- the greatest height of a unit text, a type text and an expression
abbrev pub greatest_height : ℕ
greatest_height = 400

abbrev pub start_of : Token → ℕ
start_of token = token.start

-- the place of a token by its number, or the end
abbrev pub place_of : List Token → ℕ → ℕ → ℕ
place_of tokens k end = slice_index_or (map start_of tokens) k end

-- up to the stop stands this unit text, within the height
abbrev pub Reads : List Token → ℕ → UnitSyntax → Type 0
Reads tokens k u = ReadsText IsUnit unit_height greatest_height tokens k u

-- up to the stop stands no unit text, and no token before it is too high
abbrev pub Misread : List Token → ℕ → Type 0
Misread tokens k = MisreadText IsUnit unit_height greatest_height tokens k

-- the first token through which the tokens begin a unit text and none within the height
abbrev pub HighAt : List Token → ℕ → Type 0
HighAt tokens k = TextHighAt IsUnit unit_height greatest_height tokens k
