-- The answer to `explain` follows that to `types`.
use Rattle.std.proofs.Common.{◌≡◌, ℕ, List, Bool, true, false, inl, inr, refl, subst}
use Rattle.um_parse.specs.Laws.{AnswersAreUnique}
use Rattle.um_reports.specs.declared.status.Status.{Status}
use Rattle.um_answers.proofs.TextAnswers.{types_one}
use Rattle.um_explain_answers.specs.ExplainAnswer.{is_explained, Explains, ExplainAnswer}
use Rattle.um_explain_answers.specs.Laws.{Follows, ExplanationsFollowTypes}

follows : (b : Bool) (bytes line text : List ℕ) (answered status : Status) → is_explained answered ≡ b → Explains b bytes line answered text status → Follows text status line answered
follows true bytes line text answered status e (done, rest, is, follow) = inr (done, e, rest, is)
follows false bytes line text answered status e same = inl same

pub explanations_follow_types : AnswersAreUnique → ExplanationsFollowTypes
unfolding ExplainAnswer
explanations_follow_types one bytes text line status answered (own, told, types, explains) given =
    let same = types_one bytes own told line answered one types given in
    let here : Follows text status own told = follows (is_explained told) bytes own text told status refl explains in
    subst (λ (s : Status). Follows text status line s) same.1 (subst (λ (l : List ℕ). Follows text status l told) same.0 here)
