-- Where the reading of a program ends.
-- Source: this project's own; the stop is the end of the longest viable prefix, as in Knuth, On the Translation of
-- Languages from Left to Right.
use Rattle.std.specs.Prelude.{ℕ, List}
use Rattle.um_syntax.specs.declared.token.Token.{Token}
use Rattle.um_reader.specs.Stops.{Fails, HighAt as TextHighAt}
use Rattle.um_unit_texts.specs.UnitStops.{greatest_height}
use Rattle.um_parse.specs.DeclGrammar.{IsProgram}
use Rattle.um_parse.specs.ProgramHeights.{program_height}

-- the first token through which the tokens begin no program, or the end of tokens that are none; no token before it
-- makes them too high
abbrev pub StopsAt : List Token → ℕ → Type 0
StopsAt tokens k = Fails IsProgram program_height greatest_height tokens k

-- the first token through which the tokens begin a program and none within the height
abbrev pub HighAt : List Token → ℕ → Type 0
HighAt tokens k = TextHighAt IsProgram program_height greatest_height tokens k
