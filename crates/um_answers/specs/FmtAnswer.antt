-- The answer to `fmt`: the layout of the program as it is written.
-- Source: this project's own layout.
use Rattle.std.specs.Prelude.{ℕ, List}
use Rattle.um_tree.specs.RawTree.{DeclSyntax}
use Rattle.um_show.specs.Layout.{layout}
use Rattle.um_reports.specs.declared.status.Status.{Status}
use Rattle.um_reports.specs.declared.status.Status.TheVariants.{Done}
use Rattle.um_reports.specs.Steps.{IsReply}
use Rattle.um_front.specs.Staged.{OfRead}

abbrev pub IsLayout : List DeclSyntax → List ℕ → Status → Type 0
IsLayout raw text status = IsReply text status (layout raw) Done

-- of a text's program
unfoldable pub FmtAnswer : List ℕ → List ℕ → Status → Type 0
FmtAnswer bytes text status = OfRead IsLayout bytes text status
