-- What follows the report line of a text without tokens, and of tokens that are no program within the limits: the
-- source line with a caret, and the details.
-- Source: this project's own texts.
use Rattle.std.specs.Prelude.{ℕ, ◌≡◌, List, [], ◌++◌, codes, length, take, Option, Some, None}
use Rattle.um_syntax.specs.declared.token.Token.{Token}
use Rattle.um_syntax.specs.declared.token.TextStop.{TextStop}
use Rattle.um_syntax.specs.declared.token.TextStop.TheVariants as text_stop
use Rattle.um_types.specs.declared.parse.ParseStop.{ParseStop}
use Rattle.um_types.specs.declared.parse.ParseStop.TheVariants as parse_stop
use Rattle.um_excerpt.specs.Excerpt.{excerpt, excerpt_of_end}
use Rattle.um_text_details.specs.LimitDetails.{limit_details}
use Rattle.um_text_details.specs.SyntaxDetails.{IsToldOf}
use Rattle.um_text_details.specs.TextDetails.{text_details}
use Rattle.um_reports.specs.Places.{place_text}
use Rattle.um_reports.specs.Steps.{line}

-- ---- no tokens

-- the line of bytes that aren't UTF-8 ends with the valid prefix
abbrev pub IsTextRest : List ℕ → TextStop → List ℕ → Type 0
IsTextRest bytes (text_stop.Utf8 at) rest = rest ≡ excerpt_of_end (take at bytes)
IsTextRest bytes (text_stop.BadChar at) rest = rest ≡ excerpt bytes at ++ text_details bytes (text_stop.BadChar at)
IsTextRest bytes (text_stop.NumberRange at) rest =
    rest ≡ excerpt bytes at ++ text_details bytes (text_stop.NumberRange at)
IsTextRest bytes (text_stop.PowerText at) rest =
    rest ≡ excerpt bytes at ++ text_details bytes (text_stop.PowerText at)
IsTextRest bytes text_stop.NoMemory rest = ⊥

-- ---- no program

-- the `let` that has no `in`
abbrev pub missing_line : List ℕ → Option ℕ → List ℕ
missing_line bytes None = []
missing_line bytes (Some at) = line (codes "the let at " ++ place_text bytes at ++ codes " has no in")

-- the words that could stand there, and that `let`
abbrev pub IsSyntaxRest : List ℕ → List Token → ℕ → List ℕ → Type 0
IsSyntaxRest bytes tokens at rest =
    (words : List ℕ) × (missing : Option ℕ) × IsToldOf tokens (length bytes) words missing
    × (rest ≡ excerpt bytes at ++ words ++ missing_line bytes missing)

abbrev pub IsParseRest : List ℕ → List Token → ParseStop → List ℕ → Type 0
IsParseRest bytes tokens (parse_stop.Syntax at) rest = IsSyntaxRest bytes tokens at rest
IsParseRest bytes tokens (parse_stop.Limit kind at) rest = rest ≡ excerpt bytes at ++ limit_details kind
IsParseRest bytes tokens parse_stop.NoMemory rest = ⊥
