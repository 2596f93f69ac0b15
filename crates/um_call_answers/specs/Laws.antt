-- What answers to calls of images come to.
-- Source: this project's own.
use Rattle.std.specs.Prelude.{ℕ, ◌≡◌, ◌≤◌, Bool, true, false, IsTrue, List, length, Ok}
use Rattle.um_verify.specs.ImageTree.{ImageTree}
use Rattle.um_verify.specs.Verified.{IsVerified}
use Rattle.um_run.specs.ImageCalls.{ImageCallTree, IsImageCallOf}
use Rattle.um_reports.specs.declared.status.Status.{Status}
use Rattle.um_reports.specs.declared.status.Status.TheVariants.{Done, TooLong, Input, Trap, BudgetEnd, BadImage}
use Rattle.um_call_answers.specs.AskedCall.{AskedCall}
use Rattle.um_call_answers.specs.ExecAnswer.{ImageRunAnswer, IsImageIn, ExecAnswer, GivesImageValue}

-- The answer to a call of an image is one.
abbrev pub ExecAnswersAreUnique : Type 0
ExecAnswersAreUnique =
    (asked : AskedCall) (bytes text other : List ℕ) (status another : Status) → ExecAnswer asked bytes text status →
    ExecAnswer asked bytes other another → (text ≡ other) × (status ≡ another)

-- If each step goes through it is done.
abbrev pub ExecAnswersAreDone : Type 0
ExecAnswersAreDone =
    (asked : AskedCall) (bytes text : List ℕ) (status : Status) →
    GivesImageValue asked bytes → ExecAnswer asked bytes text status → status ≡ Done

-- If the bytes are a verified image's, and the words name a call of it, the answer is how its code ends on this call.
abbrev pub VerifiedImagesRun : Type 0
VerifiedImagesRun =
    (asked : AskedCall) (bytes text : List ℕ) (status : Status) (image : ImageTree) (call : ImageCallTree) →
    length bytes ≤ 16777216 → IsImageIn bytes image → IsVerified image →
    IsImageCallOf image asked.name asked.texts (Ok call) → ExecAnswer asked bytes text status →
    ImageRunAnswer asked.budget image call text status

-- the statuses of calls of images: none of a text's, and no power is out of range
abbrev pub is_exec_status : Status → Bool
is_exec_status Done = true
is_exec_status TooLong = true
is_exec_status Input = true
is_exec_status Trap = true
is_exec_status BudgetEnd = true
is_exec_status BadImage = true
is_exec_status status = false

abbrev pub ExecStatusesAreFew : Type 0
ExecStatusesAreFew =
    (asked : AskedCall) (bytes text : List ℕ) (status : Status) → ExecAnswer asked bytes text status →
    IsTrue (is_exec_status status)
