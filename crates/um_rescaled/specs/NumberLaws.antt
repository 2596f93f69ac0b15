-- A program with the numbers of the rescaled program before its units is the rescaled program.
-- Source: this project's own; rescaling is Kennedy's (1997).
use Rattle.std.specs.Prelude.{◌≡◌, ℕ, List, Option, Ok}
use Rattle.um_frac.specs.declared.number.Frac.{Frac}
use Rattle.um_syntax.specs.declared.token.Token.{Token}
use Rattle.um_syntax.specs.Feeding.{IsTextAnswer}
use Rattle.um_tree.specs.RawTree.{DeclSyntax}
use Rattle.um_tree.specs.ProgramTree.{ProgramTree}
use Rattle.um_parse.specs.DeclGrammar.{IsProgram}
use Rattle.um_parse.specs.ProgramHeights.{program_height}
use Rattle.um_parse.specs.ProgramLimits.{WithinLimits}
use Rattle.um_names.specs.Resolution.{resolved_program, resolved_abbreviations}
use Rattle.um_scale.specs.Sizes.{AreSizes}
use Rattle.um_scale.specs.RescaledLiterals.{rescaled_program}
use Rattle.um_scale.specs.RescaledText.{literals_of, literal_at}
use Rattle.um_rescaled.specs.TextLaws.{AreUnsigned}
use Rattle.um_rescaled.specs.Replaced.{AreReplaced}

-- the number of each literal of the program in other sizes, by its place
abbrev pub rescaled_numbers : List Frac → ProgramTree → ℕ → Option Frac
rescaled_numbers cs p = literal_at (literals_of (rescaled_program cs p).functions)

-- The bytes spell the program.
pub record Spells (bytes : List ℕ) (tokens : List Token) (ds : List DeclSyntax) (p : ProgramTree) : Type 0 where
  pub lexed : IsTextAnswer bytes (Ok tokens)
  pub read : IsProgram tokens ds
  pub resolved : resolved_program ds ≡ Ok p

-- No number of a program in other sizes is below 0.
abbrev pub RescaledNumbersAreUnsigned : Type 0
RescaledNumbersAreUnsigned =
    (bytes : List ℕ) (tokens : List Token) (ds : List DeclSyntax) (p : ProgramTree) (cs : List Frac) →
    AreSizes cs → Spells bytes tokens ds p → AreUnsigned (rescaled_numbers cs p)

-- With these numbers before the units, the tokens are a program that stands for the rescaled one, with the same
-- abbreviations. It has the same height, and is within the limits if the program is.
abbrev pub ReplacedProgramsAreRescaled : Type 0
ReplacedProgramsAreRescaled =
    (bytes : List ℕ) (tokens others : List Token) (ds : List DeclSyntax) (p : ProgramTree) (cs : List Frac) →
    AreSizes cs → Spells bytes tokens ds p → AreReplaced (rescaled_numbers cs p) tokens others →
    (again : List DeclSyntax) × IsProgram others again × (resolved_program again ≡ Ok (rescaled_program cs p))
    × (resolved_abbreviations again ≡ resolved_abbreviations ds)
    × (program_height again ≡ program_height ds) × (WithinLimits 0 ds → WithinLimits 0 again)
