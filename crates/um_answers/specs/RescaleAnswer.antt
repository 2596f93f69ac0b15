-- The answer to `rescale SCALES`: the text with its literals in other sizes of the base units.
-- Source: how literals are rescaled is Kennedy's (1997); the words and the lines are this project's own.
use Rattle.std.specs.Prelude.{◌≡◌, ℕ, List, MatchOption, Result, Ok, Err}
use Rattle.um_frac.specs.declared.number.Frac.{Frac}
use Rattle.um_tree.specs.ProgramTree.{ProgramTree}
use Rattle.um_scale.specs.RescaledLiterals.{misfit_in, rescaled_program}
use Rattle.um_scale.specs.RescaledText.{IsRescaledText}
use Rattle.um_sizes.specs.declared.read.ScalesRefusal.{ScalesRefusal}
use Rattle.um_sizes.specs.BaseSizes.{AreScalesRead}
use Rattle.um_reports.specs.declared.status.Status.{Status}
use Rattle.um_reports.specs.declared.status.Status.TheVariants.{Done}
use Rattle.um_reports.specs.ScaleRefusals.{IsSizesReply, IsLiteralReply}
use Rattle.um_front.specs.Stages.{CheckedTree}
use Rattle.um_front.specs.Staged.{OfChecked}

-- the text with its literals rescaled; or the first, in the order of the text, of which no rescaled number is in range
unfoldable pub LiteralsAnswer : List Frac → List ℕ → ProgramTree → List ℕ → Status → Type 0
LiteralsAnswer cs bytes p text status =
    MatchOption (misfit_in cs p.functions)
    (IsRescaledText bytes (rescaled_program cs p) text × (status ≡ Done))
    (λ at. IsLiteralReply bytes at text status)

-- by the sizes of the base units
abbrev pub BySizes : List ℕ → ProgramTree → Result (List Frac) ScalesRefusal → List ℕ → Status → Type 0
BySizes bytes p (Ok cs) text status = LiteralsAnswer cs bytes p text status
BySizes bytes p (Err refusal) text status = IsSizesReply refusal text status

unfoldable pub IsRescaled : List ℕ → List ℕ → CheckedTree → List ℕ → Status → Type 0
IsRescaled word bytes c text status =
    (r : Result (List Frac) ScalesRefusal) × AreScalesRead c.text.program.bases word r
    × BySizes bytes c.text.program r text status

-- of a text's program
unfoldable pub RescaleAnswer : List ℕ → List ℕ → List ℕ → Status → Type 0
RescaleAnswer word bytes text status = OfChecked (IsRescaled word bytes) bytes text status
