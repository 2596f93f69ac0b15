-- Programs that are the same but for places.
-- Source: this project's own; rescaling is Kennedy's (1997).
use Rattle.std.specs.Prelude.{◌≡◌, ℕ, List, None, Ok}
use Rattle.um_frac.specs.declared.number.Frac.{Frac}
use Rattle.um_syntax.specs.declared.token.Token.{Token}
use Rattle.um_tree.specs.RawTree.{DeclSyntax}
use Rattle.um_tree.specs.ProgramTree.{ProgramTree}
use Rattle.um_parse.specs.Parsed.{IsRead}
use Rattle.um_names.specs.Resolution.{resolved_program, resolved_abbreviations}
use Rattle.um_shape.specs.FirstFault.{first_fault}
use Rattle.um_show.specs.Unplaced.{bare_program}
use Rattle.um_scale.specs.Sizes.{AreSizes}
use Rattle.um_scale.specs.RescaledLiterals.{misfit_in, rescaled_program}
use Rattle.um_scale.specs.RescaledText.{respelled}
use Rattle.um_rescaled.specs.NumberLaws.{rescaled_numbers, Spells}
use Rattle.um_rescaled.specs.UnplacedPrograms.{unplaced_program}

-- If a program is written as another one but for places, it stands for the same program but for places, with the same
-- abbreviations.
abbrev pub SameTreesAreSamePrograms : Type 0
SameTreesAreSamePrograms =
    (ds es : List DeclSyntax) (p : ProgramTree) → bare_program es ≡ bare_program ds → resolved_program ds ≡ Ok p →
    (q : ProgramTree) × (resolved_program es ≡ Ok q) × (unplaced_program q ≡ unplaced_program p)
    × (resolved_abbreviations es ≡ resolved_abbreviations ds)

-- The text of a program with the numbers of the rescaled program before its units spells the rescaled program but for
-- places, with the same abbreviations. It is within the limits if the program is. If each literal has a rescaled number
-- in range, it has its shapes if the program has.
abbrev pub RescaledTextsAreRead : Type 0
RescaledTextsAreRead =
    (bytes : List ℕ) (tokens : List Token) (ds : List DeclSyntax) (p : ProgramTree) (cs : List Frac) →
    AreSizes cs → Spells bytes tokens ds p →
    (others : List Token) × (again : List DeclSyntax) × (q : ProgramTree)
    × Spells (respelled bytes (rescaled_numbers cs p) 0 tokens) others again q
    × (unplaced_program q ≡ unplaced_program (rescaled_program cs p))
    × (resolved_abbreviations again ≡ resolved_abbreviations ds)
    × (IsRead tokens ds → IsRead others again)
    × (misfit_in cs p.functions ≡ None → first_fault p ≡ None → first_fault q ≡ None)
