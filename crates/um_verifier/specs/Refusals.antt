-- Why an image is refused: its first head that breaks its rules, and where no head does the first address whose rule
-- fails.
-- Source: this project's own.
use Rattle.std.specs.Prelude.{ℕ}
use Rattle.um_verify.specs.ImageTree.{ImageTree}
use Rattle.um_verify.specs.Heads.{HeadHolds, IsFirstHead}
use Rattle.um_verify.specs.Rules.{view_of}
use Rattle.um_verify.specs.Verified.{IsFirstAddress}
use Rattle.um_verifier.specs.declared.stop.VerifyStop.{VerifyStop}
use Rattle.um_verifier.specs.declared.stop.VerifyStop.TheVariants.{Head, Code, NoMemory}

-- the refusal is the image's; want of memory may always come instead
abbrev pub IsRefusal : ImageTree → VerifyStop → Type 0
IsRefusal image (Head i) = IsFirstHead image i
IsRefusal image (Code a) = ((i : ℕ) → HeadHolds image i) × IsFirstAddress (view_of image) a
IsRefusal image NoMemory = Unit {0}
