-- The report lines of images: of bytes that are none, and of an image that breaks a rule. Each number counts from 0.
-- Source: this project's own.
use Rattle.std.specs.Prelude.{ℕ, List, ◌++◌, codes, decimal}
use Rattle.um_reports.specs.declared.status.Status.{Status}
use Rattle.um_reports.specs.declared.status.Status.TheVariants.{BadImage}
use Rattle.um_reports.specs.Steps.{line, IsReply}

-- what breaks a rule, by its number
abbrev pub IsImageReply : List ℕ → ℕ → List ℕ → Status → Type 0
IsImageReply what number text status =
    IsReply text status (line (codes "error 22: " ++ what ++ codes " " ++ decimal number)) BadImage

-- at this byte the bytes are no image's
abbrev pub IsBadByteReply : ℕ → List ℕ → Status → Type 0
IsBadByteReply at text status = IsImageReply (codes "image at byte") at text status

-- the head of this index, the records' before the functions', breaks a rule of heads
abbrev pub IsBadHeadReply : ℕ → List ℕ → Status → Type 0
IsBadHeadReply index text status = IsImageReply (codes "head") index text status

-- the rule of this address fails
abbrev pub IsBadCodeReply : ℕ → List ℕ → Status → Type 0
IsBadCodeReply at text status = IsImageReply (codes "code at") at text status
