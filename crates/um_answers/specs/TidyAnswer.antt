-- The answer to `tidy`: the text of a program laid out anew with its own tokens, comments and line breaks.
-- Source: this project's own layout.
use Rattle.std.specs.Prelude.{ℕ, List, Ok}
use Rattle.um_syntax.specs.declared.token.Token.{Token}
use Rattle.um_syntax.specs.Feeding.{IsTextAnswer}
use Rattle.um_tree.specs.RawTree.{DeclSyntax}
use Rattle.um_tidy.specs.Tidied.{tidied}
use Rattle.um_reports.specs.declared.status.Status.{Status}
use Rattle.um_reports.specs.declared.status.Status.TheVariants.{Done}
use Rattle.um_reports.specs.Steps.{IsReply}
use Rattle.um_front.specs.Staged.{OfRead}

abbrev pub IsTidied : List ℕ → List DeclSyntax → List ℕ → Status → Type 0
IsTidied bytes raw text status =
    (tokens : List Token) × IsTextAnswer bytes (Ok tokens) × IsReply text status (tidied bytes tokens) Done

-- of a text's program
unfoldable pub TidyAnswer : List ℕ → List ℕ → Status → Type 0
TidyAnswer bytes text status = OfRead (IsTidied bytes) bytes text status
