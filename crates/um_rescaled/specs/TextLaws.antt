-- A text in which numbers before units are printed anew has the tokens of the text as it was, but for these numbers.
-- Source: this project's own.
use Rattle.std.specs.Prelude.{◌≡◌, ℕ, List, [], Option, Some, pos, Ok}
use Rattle.std.specs.Str.{chars, IsUtf8}
use Rattle.um_frac.specs.declared.number.Frac.{Frac}
use Rattle.um_frac.specs.Fraction.{numerator}
use Rattle.um_syntax.specs.declared.token.Token.{Token}
use Rattle.um_syntax.specs.Lexing.{HasTokens}
use Rattle.um_syntax.specs.Feeding.{IsTextAnswer}
use Rattle.um_tree.specs.RawTree.{DeclSyntax}
use Rattle.um_parse.specs.DeclGrammar.{IsProgram}
use Rattle.um_scale.specs.RescaledText.{respelled}
use Rattle.um_rescaled.specs.RespelledTokens.{AreRespelled, NoPowers}

-- the numbers of the table are not below 0
abbrev pub AreUnsigned : (ℕ → Option Frac) → Type 0
AreUnsigned numbers = (place : ℕ) (c : Frac) → numbers place ≡ Some c → (n : ℕ) × (numerator c ≡ pos n)

-- If numbers of the table are printed in place of the numbers before units, and none of those is a power, then the text
-- has tokens: those of the text as it was, but for these numbers.
abbrev pub RespelledTextsHaveTokens : Type 0
RespelledTextsHaveTokens =
    (bytes : List ℕ) (numbers : ℕ → Option Frac) (tokens : List Token) →
    IsUtf8 bytes → HasTokens (chars bytes) tokens → AreUnsigned numbers → NoPowers numbers [] tokens →
    IsUtf8 (respelled bytes numbers 0 tokens)
    × ((others : List Token) × HasTokens (chars (respelled bytes numbers 0 tokens)) others
    × AreRespelled numbers tokens others)

-- In the text of a program none of these numbers is a power, so the text with the numbers of the table has tokens.
abbrev pub RespelledProgramsHaveTokens : Type 0
RespelledProgramsHaveTokens =
    (bytes : List ℕ) (numbers : ℕ → Option Frac) (tokens : List Token) (ds : List DeclSyntax) →
    IsTextAnswer bytes (Ok tokens) → IsProgram tokens ds → AreUnsigned numbers →
    (others : List Token) × IsTextAnswer (respelled bytes numbers 0 tokens) (Ok others)
    × AreRespelled numbers tokens others
