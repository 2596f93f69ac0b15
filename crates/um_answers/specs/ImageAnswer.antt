-- The answer to `image`: the bytes of the image of the program with its code, and no line feed.
-- Source: this project's own form of images.
use Rattle.std.specs.Prelude.{ℕ, List}
use Rattle.um_gen.specs.ProgramCode.{program_code}
use Rattle.um_verify.specs.ImageTree.{ImageTree}
use Rattle.um_image.specs.Encoding.{image_bytes}
use Rattle.um_image.specs.Places.{IsWritable}
use Rattle.um_image.specs.ProgramImage.{IsImageOf}
use Rattle.um_reports.specs.declared.status.Status.{Status}
use Rattle.um_reports.specs.declared.status.Status.TheVariants.{Done}
use Rattle.um_reports.specs.Steps.{IsReply}
use Rattle.um_front.specs.Stages.{CheckedTree}
use Rattle.um_front.specs.Staged.{OfChecked}

-- each number of the image fits its bytes, so that these are read as it
unfoldable pub IsImageReply : CheckedTree → List ℕ → Status → Type 0
IsImageReply c text status =
    (image : ImageTree) × IsImageOf c.text.program (program_code c.text.program.functions) image
    × IsWritable image × IsReply text status (image_bytes image) Done

-- of a text's program
unfoldable pub ImageAnswer : List ℕ → List ℕ → Status → Type 0
ImageAnswer bytes text status = OfChecked IsImageReply bytes text status
