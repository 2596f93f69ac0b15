-- The image of a program is one, so its bytes are.
use Rattle.std.proofs.Common.{◌≡◌, ℕ, suc, List, [], ◌∷◌, length, Some, slice_get, IsTrue, refl, sym, ap, ◌∙◌, arith}
use Rattle.std.proofs.lemmas.Option.{same_Some}
use Rattle.um_tree.specs.ProgramTree.{FunctionTree, ProgramTree}
use Rattle.um_shape.proofs.Unique.{shapes_are_unique}
use Rattle.um_gen.specs.ProgramCode.{program_code}
use Rattle.um_machine.specs.declared.code.Code.{Code}
use Rattle.um_verify.specs.ImageTree.{HeadTree, ImageTree}
use Rattle.um_image.specs.Encoding.{image_bytes}
use Rattle.um_image.specs.ProgramImage.{IsHeadOf, IsImageOf}
use Rattle.um_reports.specs.declared.status.Status.{Status}
use Rattle.um_reports.specs.declared.status.Status.TheVariants.{Done}
use Rattle.um_reports.proofs.ReportStatuses.{is_answered}
use Rattle.um_parse.specs.Laws.{AnswersAreUnique}
use Rattle.um_front.specs.Stages.{CheckedTree, IsCheckedText}
use Rattle.um_front.proofs.StageLaws.{checked_given, checked_answered, checked_once}
use Rattle.um_answers.specs.ImageAnswer.{ImageAnswer, IsImageReply}

-- lists of one length with the same items are one
same_items : {A : Type 0} (xs ys : List A) → length xs ≡ length ys → ((i : ℕ) (x y : A) → slice_get xs i ≡ Some x → slice_get ys i ≡ Some y → x ≡ y) → xs ≡ ys
same_items [] [] e same = refl
same_items [] (y ∷ ys) e same = absurd (omega (arith, e))
same_items (x ∷ xs) [] e same = absurd (omega (arith, e))
same_items (x ∷ xs) (y ∷ ys) e same =
    let first = same 0 x y refl refl in
    let rest = same_items xs ys (omega (arith, e)) (λ i. same (suc i)) in
    λ i. first i ∷ rest i

one_head : (p : ProgramTree) (i : ℕ) (h g : HeadTree) → IsHeadOf p i h → IsHeadOf p i g → h ≡ g
one_head p i h g a b =
    let function : a.function ≡ b.function = same_Some a.function b.function (sym a.listed ∙ b.listed) in
    let name : h.name ≡ g.name = a.name ∙ ap (λ (f : FunctionTree). f.name) function ∙ sym b.name in
    let shapes = shapes_are_unique p i (record { params = h.params; result = h.result }) (record { params = g.params; result = g.result }) a.shapes b.shapes in
    λ k. record { name = name k; params = (shapes k).params; result = (shapes k).result }

one_image_of : (p : ProgramTree) (code : Code) (image other : ImageTree) → IsImageOf p code image → IsImageOf p code other → image ≡ other
one_image_of p code image other a b =
    let records = a.records ∙ sym b.records in
    let same_code = a.code_is ∙ sym b.code_is in
    let heads = same_items image.heads other.heads (a.count ∙ sym b.count) (λ i h g x y. one_head p i h g (a.heads i h x) (b.heads i g y)) in
    λ k. record { records = records k; heads = heads k; code = same_code k }

image_once : (text other : List ℕ) (status another : Status) (c : CheckedTree) → IsImageReply c text status → IsImageReply c other another → (text ≡ other) × (status ≡ another)
unfolding IsImageReply
image_once text other status another c (image, is, fits, a) (found, also, too, b) =
    (a.0 ∙ ap image_bytes (one_image_of c.text.program (program_code c.text.program.functions) image found is also) ∙ sym b.0, a.1 ∙ sym b.1)

pub image_one : (text other : List ℕ) (status another : Status) → AnswersAreUnique → (bytes : List ℕ) → ImageAnswer bytes text status → ImageAnswer bytes other another → (text ≡ other) × (status ≡ another)
unfolding ImageAnswer
image_one text other status another one bytes a b = checked_once IsImageReply bytes text status other another one (λ c is. image_once text other status another c) a b

image_reply : (c : CheckedTree) (text : List ℕ) (status : Status) → IsImageReply c text status → status ≡ Done
unfolding IsImageReply
image_reply c text status (image, is, fits, reply) = reply.1

image_status : (c : CheckedTree) (text : List ℕ) (status : Status) → IsImageReply c text status → IsTrue (is_answered status)
image_status c text status reply = rw (image_reply c text status reply) refl

pub ImageAnswer-status : (bytes text : List ℕ) (status : Status) → ImageAnswer bytes text status → IsTrue (is_answered status)
unfolding ImageAnswer
ImageAnswer-status bytes text status answer = checked_answered IsImageReply bytes text status (λ c. image_status c text status) answer

pub image_done : (bytes text : List ℕ) (status : Status) (c : CheckedTree) → IsCheckedText bytes c → ImageAnswer bytes text status → status ≡ Done
unfolding ImageAnswer
image_done bytes text status c is answer = image_reply c text status (checked_given IsImageReply bytes text status c is answer)
