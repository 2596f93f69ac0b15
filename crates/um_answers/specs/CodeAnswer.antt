-- The answer to `code`: the listing of the program's code.
-- Source: this project's own instructions.
use Rattle.std.specs.Prelude.{ℕ, List}
use Rattle.um_gen.specs.ProgramCode.{program_code}
use Rattle.um_code.specs.Listing.{listing_text}
use Rattle.um_reports.specs.declared.status.Status.{Status}
use Rattle.um_reports.specs.declared.status.Status.TheVariants.{Done}
use Rattle.um_reports.specs.Steps.{IsReply}
use Rattle.um_front.specs.Stages.{CheckedTree}
use Rattle.um_front.specs.Staged.{OfChecked}

abbrev pub IsListing : CheckedTree → List ℕ → Status → Type 0
IsListing c text status =
    IsReply text status (listing_text c.text.program (program_code c.text.program.functions)) Done

-- of a text's program
unfoldable pub CodeAnswer : List ℕ → List ℕ → Status → Type 0
CodeAnswer bytes text status = OfChecked IsListing bytes text status
