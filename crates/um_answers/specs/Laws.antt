-- Where a literal stands that can't be rescaled.
-- Source: this project's own.
use Rattle.std.specs.Prelude.{◌≡◌, ℕ, List, Some}
use Rattle.um_frac.specs.declared.number.Frac.{Frac}
use Rattle.um_scale.specs.RescaledLiterals.{misfit_in}
use Rattle.um_front.specs.Stages.{ShapedTree, IsShapedText}
use Rattle.um_front.specs.Laws.{IsTokenPlace}

-- The first literal of which no rescaled number is in range has the place of a token.
abbrev pub LiteralsBeginTokens : Type 0
LiteralsBeginTokens =
    (bytes : List ℕ) (s : ShapedTree) (cs : List Frac) (at : ℕ) → IsShapedText bytes s
    → misfit_in cs s.program.functions ≡ Some at → IsTokenPlace bytes at
