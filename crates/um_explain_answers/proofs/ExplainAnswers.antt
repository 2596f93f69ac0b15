-- The answer to `explain` is one, never has the status of a fault, and is done if the text has its schemes.
use Rattle.std.proofs.Common.{◌≡◌, ℕ, List, ◌++◌, Bool, true, false, IsTrue, refl, sym, ap, subst, ◌∙◌}
use Rattle.um_parse.specs.Laws.{AnswersAreUnique}
use Rattle.um_reports.specs.declared.status.Status.{Status}
use Rattle.um_reports.specs.declared.status.Status.TheVariants.{Done}
use Rattle.um_reports.proofs.ReportStatuses.{is_answered}
use Rattle.um_front.specs.Stages.{CheckedTree, IsCheckedText}
use Rattle.um_answers.specs.TypesAnswer.{TypesAnswer}
use Rattle.um_answers.proofs.TextAnswers.{TypesAnswer-status, types_one, types_done}
use Rattle.um_explain_answers.specs.ExplainAnswer.{is_explained, Explains, ExplainAnswer}
use Rattle.um_explain_answers.proofs.UniqueRest.{one_rest}

module _ (bytes : List ℕ) where
  explains_status : (b : Bool) (line text : List ℕ) (answered status : Status) → IsTrue (is_answered answered) → Explains b bytes line answered text status → IsTrue (is_answered status)
  explains_status true line text answered status is (done, rest, same, follows) = rw done refl
  explains_status false line text answered status is (same, also) = rw also is

  pub ExplainAnswer-status : (text : List ℕ) (status : Status) → ExplainAnswer bytes text status → IsTrue (is_answered status)
  unfolding ExplainAnswer
  ExplainAnswer-status text status (line, answered, types, explains) =
      explains_status (is_explained answered) line text answered status (TypesAnswer-status bytes line answered types) explains

  explains_one : AnswersAreUnique → (b : Bool) (line text other : List ℕ) (answered status another : Status) → Explains b bytes line answered text status → Explains b bytes line answered other another → (text ≡ other) × (status ≡ another)
  explains_one one true line text other answered status another (done, rest, is, follows) (also, more, same, too) =
      let rests : rest ≡ more = one_rest bytes rest more one follows too in
      (is ∙ ap (λ r. line ++ r) rests ∙ sym same, done ∙ sym also)
  explains_one one false line text other answered status another (is, same) (too, also) = (is ∙ sym too, same ∙ sym also)

  pub explain_one : (text : List ℕ) (status : Status) (other : List ℕ) (another : Status) → AnswersAreUnique → ExplainAnswer bytes text status → ExplainAnswer bytes other another → (text ≡ other) × (status ≡ another)
  unfolding ExplainAnswer
  explain_one text status other another one (line, answered, types, explains) (second, told, also, explained) =
      let same = types_one bytes line answered second told one types also in
      let here : Explains (is_explained answered) bytes line answered other another =
      subst (λ (s : Status). Explains (is_explained s) bytes line s other another) (sym same.1)
      (subst (λ (l : List ℕ). Explains (is_explained told) bytes l told other another) (sym same.0) explained) in
      explains_one one (is_explained answered) line text other answered status another explains here

  explains_done : (line text : List ℕ) (answered status : Status) → answered ≡ Done → Explains (is_explained answered) bytes line answered text status → status ≡ Done
  explains_done line text answered status done explains =
      let here : Explains false bytes line Done text status = subst (λ (s : Status). Explains (is_explained s) bytes line s text status) done explains in
      here.1

  pub explain_done : (text : List ℕ) (status : Status) (c : CheckedTree) → IsCheckedText bytes c → ExplainAnswer bytes text status → status ≡ Done
  unfolding ExplainAnswer
  explain_done text status c is (line, answered, types, explains) =
      explains_done line text answered status (types_done bytes line answered c is types) explains
