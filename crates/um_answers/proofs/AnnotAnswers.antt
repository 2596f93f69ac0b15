-- The answer to `annot` is one, never has the status of a fault, and is done if no node is out of range.
use Rattle.std.proofs.Common.{◌≡◌, ℕ, List, IsTrue, refl, sym, ◌∙◌, subst}
use Rattle.um_parse.specs.Laws.{AnswersAreUnique}
use Rattle.um_reports.specs.declared.status.Status.{Status}
use Rattle.um_reports.specs.declared.status.Status.TheVariants.{Done}
use Rattle.um_reports.proofs.ReportStatuses.{is_answered}
use Rattle.um_front.specs.Stages.{CheckedTree, IsCheckedText}
use Rattle.um_front.proofs.StageLaws.{checked_given, checked_answered, checked_once}
use Rattle.um_answers.specs.AnnotAnswer.{Listing, listed, past, listing, IsListingReply, IsAnnotReply, AnnotAnswer}
use Rattle.um_answers.specs.Passing.{HasNodeTypes}
use Rattle.um_answers.proofs.AnnotLists.{whole_listed}

listing_answered : (bytes : List ℕ) (l : Listing) (text : List ℕ) (status : Status) → IsListingReply bytes l text status → IsTrue (is_answered status)
listing_answered bytes (listed lines) text status reply = rw reply.1 refl
listing_answered bytes (past f at) text status reply = rw reply.1 refl

listing_once : (bytes : List ℕ) (l : Listing) (text : List ℕ) (status : Status) (other : List ℕ) (another : Status) → IsListingReply bytes l text status → IsListingReply bytes l other another → (text ≡ other) × (status ≡ another)
listing_once bytes (listed lines) text status other another x y = (x.0 ∙ sym y.0, x.1 ∙ sym y.1)
listing_once bytes (past f at) text status other another x y = (x.0 ∙ sym y.0, x.1 ∙ sym y.1)

module _ (bytes text : List ℕ) (status : Status) where
  pub AnnotAnswer-status : AnnotAnswer bytes text status → IsTrue (is_answered status)
  unfolding AnnotAnswer
  AnnotAnswer-status answer =
      checked_answered (IsAnnotReply bytes) bytes text status
      (λ c reply. listing_answered bytes (listing bytes c.text.program c.schemes 0 c.text.program.functions c.schemes) text status reply) answer

  pub annot_one : (other : List ℕ) (another : Status) → AnswersAreUnique → AnnotAnswer bytes text status → AnnotAnswer bytes other another → (text ≡ other) × (status ≡ another)
  unfolding AnnotAnswer
  annot_one other another one a b =
      checked_once (IsAnnotReply bytes) bytes text status other another one
      (λ c is x y. listing_once bytes (listing bytes c.text.program c.schemes 0 c.text.program.functions c.schemes) text status other another x y) a b

  pub annot_done : (c : CheckedTree) → IsCheckedText bytes c → HasNodeTypes c → AnnotAnswer bytes text status → status ≡ Done
  unfolding AnnotAnswer
  annot_done c is have answer =
      let p = c.text.program in
      let whole = whole_listed bytes p c.schemes have in
      let done = subst (λ l. IsListingReply bytes l text status) whole.1 (checked_given (IsAnnotReply bytes) bytes text status c is answer) in
      done.1
