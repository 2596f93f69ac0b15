-- The answer to `exec`: the image that the bytes are, whether it is verified, the call of it, and how
-- that ends. Units aren't in an image, so a value is printed at unit 1.
-- Source: this project's own form of images; the machine is that of P. Landin, The mechanical evaluation of
-- expressions, 1964.
use Rattle.std.specs.Prelude.{ℕ, ◌≡◌, ◌⊎◌, ◌<◌, ◌≤◌, All, List, length, codes}
use Rattle.std.specs.Prelude.{Result, Ok, Err, Some, None, slice_get}
use Rattle.um_tree.specs.ValueTree.{ValueTree, OutcomeTree, value_outcome}
use Rattle.um_machine.specs.Machine.{EndsWith}
use Rattle.um_verify.specs.ImageTree.{HeadTree, ImageTree}
use Rattle.um_verify.specs.Verified.{IsVerified}
use Rattle.um_verifier.specs.declared.stop.VerifyStop.{VerifyStop}
use Rattle.um_verifier.specs.declared.stop.VerifyStop.TheVariants as verify_stop
use Rattle.um_verifier.specs.Refusals.{IsRefusal}
use Rattle.um_image.specs.declared.stop.DecodeStop.{DecodeStop}
use Rattle.um_image.specs.declared.stop.DecodeStop.TheVariants as decode_stop
use Rattle.um_image.specs.Encoding.{image_bytes}
use Rattle.um_image.specs.ProgramImage.{type_of_shape}
use Rattle.um_image.specs.Places.{IsWritable, IsDecodeStop}
use Rattle.um_run.specs.declared.call.CallRefusal.{CallRefusal}
use Rattle.um_run.specs.ImageCalls.{ImageCallTree, image_call_values, image_program, IsImageCallOf}
use Rattle.um_reports.specs.declared.status.Status.{Status}
use Rattle.um_reports.specs.declared.status.Status.TheVariants.{TooLong}
use Rattle.um_reports.specs.CallRefusals.{IsCallReply}
use Rattle.um_reports.specs.ImageRefusals.{IsBadByteReply, IsBadHeadReply, IsBadCodeReply}
use Rattle.um_reports.specs.Steps.{line, IsReply, Cases}
use Rattle.um_call_answers.specs.AskedCall.{AskedCall}
use Rattle.um_call_answers.specs.CallAnswer.{IsOutcomeReply}

-- ---- refusals; want of memory has no line

-- of bytes that are no image's
abbrev pub IsDecodeReply : DecodeStop → List ℕ → Status → Type 0
IsDecodeReply (decode_stop.Bad at) text status = IsBadByteReply at text status
IsDecodeReply decode_stop.NoMemory text status = ⊥

-- of an image that breaks a rule
abbrev pub IsVerifyReply : VerifyStop → List ℕ → Status → Type 0
IsVerifyReply (verify_stop.Head index) text status = IsBadHeadReply index text status
IsVerifyReply (verify_stop.Code at) text status = IsBadCodeReply at text status
IsVerifyReply verify_stop.NoMemory text status = ⊥

-- ---- step by step

-- the call ends as the machine has it on the image's code at the budget; a value has the shape of the function's result
unfoldable pub ImageRunAnswer : ℕ → ImageTree → ImageCallTree → List ℕ → Status → Type 0
ImageRunAnswer budget image call text status =
    (h : HeadTree) × (slice_get image.heads call.function ≡ Some h)
    × (o : OutcomeTree) × EndsWith image.code call.function (image_call_values call) budget o
    × IsOutcomeReply (image_program image) (type_of_shape h.result) o None text status

-- the call, or its refusal
abbrev pub ByImageCall : AskedCall → ImageTree → Result ImageCallTree CallRefusal → List ℕ → Status → Type 0
ByImageCall asked image (Ok call) text status = ImageRunAnswer asked.budget image call text status
ByImageCall asked image (Err refusal) text status = IsCallReply asked.texts refusal text status

-- the call of the function of this name on the arguments that the texts are
unfoldable pub VerifiedAnswer : AskedCall → ImageTree → List ℕ → Status → Type 0
VerifiedAnswer asked image text status =
    (r : Result ImageCallTree CallRefusal) × IsImageCallOf image asked.name asked.texts r
    × ByImageCall asked image r text status

-- the image is verified, or breaks a rule
unfoldable pub DecodedAnswer : AskedCall → ImageTree → List ℕ → Status → Type 0
DecodedAnswer asked image text status =
    (IsVerified image × VerifiedAnswer asked image text status)
    ⊎ ((stop : VerifyStop) × IsRefusal image stop × IsVerifyReply stop text status)

-- the bytes are this image's
pub record IsImageIn (bytes : List ℕ) (image : ImageTree) : Type 0 where
  pub writable : IsWritable image
  pub spelled : bytes ≡ image_bytes image

-- each is below 256, and they are refused
pub record AreRefused (bytes : List ℕ) (stop : DecodeStop) : Type 0 where
  pub small : All (λ b. b < 256) bytes
  pub refused : IsDecodeStop bytes stop

-- the image that the bytes are, or the place at which they are none
unfoldable pub BytesAnswer : AskedCall → List ℕ → List ℕ → Status → Type 0
BytesAnswer asked bytes text status =
    ((image : ImageTree) × IsImageIn bytes image × DecodedAnswer asked image text status)
    ⊎ ((stop : DecodeStop) × AreRefused bytes stop × IsDecodeReply stop text status)

-- the bytes are at most this many
unfoldable pub ExecAnswer : AskedCall → List ℕ → List ℕ → Status → Type 0
ExecAnswer asked bytes text status = Cases (16777216 < length bytes)
    (IsReply text status (line (codes "error 2: text too long")) TooLong)
    (BytesAnswer asked bytes text status)

-- ---- what is asked so that the call is done

-- the bytes are a verified image's, the call is one of a function of it, and its code gives a value within the budget
pub record GivesImageValue (asked : AskedCall) (bytes : List ℕ) : Type 0 where
  pub short : length bytes ≤ 16777216
  pub image : ImageTree
  pub is : IsImageIn bytes image
  pub verified : IsVerified image
  pub call : ImageCallTree
  pub named : IsImageCallOf image asked.name asked.texts (Ok call)
  pub value : ValueTree
  pub gives : EndsWith image.code call.function (image_call_values call) asked.budget (value_outcome value)
