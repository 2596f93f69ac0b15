-- What answers to `image` say, in the subject's words.
-- Source: this project's own form of images; the machine is that of P. Landin, The mechanical evaluation of
-- expressions, 1964.
use Rattle.std.specs.Prelude.{ℕ, ◌≡◌, ◌≤◌, List, [], ◌∷◌, length, slice_get, codes, Some, None, Ok}
use Rattle.um_tree.specs.ValueTree.{OutcomeTree}
use Rattle.um_tree.specs.ProgramTree.{ProgramTree}
use Rattle.um_tree.specs.Meaning.{outcome_of_call}
use Rattle.um_machine.specs.Machine.{EndsWith}
use Rattle.um_gen.specs.ProgramCode.{program_code}
use Rattle.um_verify.specs.ImageTree.{HeadTree, ImageTree}
use Rattle.um_verify.specs.Verified.{IsVerified}
use Rattle.um_image.specs.Encoding.{image_bytes}
use Rattle.um_image.specs.Places.{IsWritable}
use Rattle.um_image.specs.ProgramImage.{IsImageOf, type_of_shape}
use Rattle.um_run.specs.ImageCalls.{ImageCallTree, image_call_values, image_program, IsImageCallOf}
use Rattle.um_run.specs.ImageLaws.{IsShapedCall}
use Rattle.um_orders.specs.declared.order.Order.TheVariants.{Exec}
use Rattle.um_orders.specs.Orders.{order_of}
use Rattle.um_reports.specs.declared.status.Status.{Status}
use Rattle.um_reports.specs.declared.status.Status.TheVariants.{Done}
use Rattle.um_front.specs.Stages.{CheckedTree, IsCheckedText}
use Rattle.um_call_answers.specs.CallAnswer.{IsOutcomeReply}
use Rattle.um_tool.specs.Asked.{called}
use Rattle.um_tool.specs.Answer.{Answer}

-- a call of a function of the image, on values of its parameters' shapes, has the outcome of the program's meaning at
-- the budget, and the run of the image's code ends with it
abbrev pub CallEndsAsMeant : ProgramTree → ImageTree → ImageCallTree → ℕ → Type 0
CallEndsAsMeant p image call budget =
    (o : OutcomeTree) × (outcome_of_call p call.function (image_call_values call) budget ≡ Some o)
    × EndsWith image.code call.function (image_call_values call) budget o

-- the text and the status say the outcome that the program's meaning gives the call at the budget; a value is printed
-- at unit 1
pub record IsMeantImageCall
    (p : ProgramTree) (image : ImageTree) (call : ImageCallTree) (budget : ℕ) (text : List ℕ) (status : Status)
    : Type 0 where
  pub head : HeadTree
  pub listed : slice_get image.heads call.function ≡ Some head
  pub outcome : OutcomeTree
  pub meant : outcome_of_call p call.function (image_call_values call) budget ≡ Some outcome
  pub printed : IsOutcomeReply (image_program image) (type_of_shape head.result) outcome None text status

-- these are the bytes of a verified image of the program that the bytes of a text spell, with its code
pub record IsImageOfText (bytes text : List ℕ) : Type 0 where
  pub checked : CheckedTree
  pub spelled : IsCheckedText bytes checked
  pub image : ImageTree
  pub is : IsImageOf checked.text.program (program_code checked.text.program.functions) image
  pub verified : IsVerified image
  pub writable : IsWritable image
  pub printed : text ≡ image_bytes image
  pub meant : (call : ImageCallTree) (budget : ℕ) → IsShapedCall image call →
      CallEndsAsMeant checked.text.program image call budget

-- What `image` prints with status 0 are such bytes.
abbrev pub PrintedImagesAreVerified : Type 0
PrintedImagesAreVerified =
    (bytes text : List ℕ) → Answer (codes "image" ∷ []) bytes text Done → IsImageOfText bytes text

-- What `exec` answers to what `image` printed, if the words name a call of the image, and the bytes are few enough.
abbrev pub PrintedImagesRunAsMeant : Type 0
PrintedImagesRunAsMeant =
    (bytes image : List ℕ) (is : IsImageOfText bytes image) → length image ≤ 16777216 →
    (budget : ℕ) (words : List (List ℕ)) (call : ImageCallTree) → order_of words ≡ Some (Exec budget) →
    IsImageCallOf is.image (called budget words).name (called budget words).texts (Ok call) →
    (text : List ℕ) (status : Status) → Answer words image text status →
    IsMeantImageCall is.checked.text.program is.image call budget text status
