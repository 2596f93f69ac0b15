-- The calls of a source have answers, line by line.
use Rattle.std.proofs.Common.{inl, inr, ℕ, nat_le, List, [], ◌∷◌, ◌++◌, codes, length, refl, sym, ◌∙◌, arith}
use Rattle.std.specs.Str.{is_utf8}
use Rattle.std.proofs.lemmas.Str.{IsUtf8-from_is_utf8, is_utf8-from_IsUtf8}
use Rattle.um_elim.proofs.Cases.{on_test}
use Rattle.um_syntax.specs.Laws.{EachTextIsAnswered}
use Rattle.um_shape.specs.Laws.{FaultlessIsShaped}
use Rattle.um_gen.specs.Laws.{CodeEndsAsMeant}
use Rattle.um_lines.specs.Sources.{program_in, calls_of, words_in}
use Rattle.um_reports.specs.declared.status.Status.TheVariants.{Done, TooLong}
use Rattle.um_reports.specs.Steps.{line}
use Rattle.um_front.specs.Stages.{CheckedTree, IsCheckedText}
use Rattle.um_call_answers.specs.declared.way.Way.TheVariants as way
use Rattle.um_call_answers.specs.CallsAnswer.{call_by, are_short, IsLineAnswer, AreLineAnswers, AreCallsAnswers, SourceAnswer, CallsAnswer}
use Rattle.um_all_answers.specs.Answered.{HasAnswer}
use Rattle.um_all_answers.specs.TextLaws.{EachTextHasStages}
use Rattle.um_all_answers.proofs.Texts.{within, beyond}
use Rattle.um_all_answers.proofs.Answers.{of_checked}
use Rattle.um_all_answers.specs.CallLaws.{SourcesHaveAnswers}
use Rattle.um_all_answers.proofs.Calls.{call_told}

module _ (each : EachTextIsAnswered) (stages : EachTextHasStages) (shaped : FaultlessIsShaped) (law : CodeEndsAsMeant) (budget : ℕ) where
  module _ (bytes : List ℕ) (c : CheckedTree) (is : IsCheckedText bytes c) where
    -- a line that isn't empty
    some_told : (b : ℕ) (more : List ℕ) → (text : List ℕ) × IsLineAnswer budget c (b ∷ more) text
    unfolding IsLineAnswer
    some_told b more =
        on_test (is_utf8 (b ∷ more))
        (λ valid.
        on_test (are_short (words_in (b ∷ more)))
        (λ short.
        let (text, status, says) = call_told each stages shaped law (call_by budget (words_in (b ∷ more))) bytes c is way.Code in
        (text, inr ((λ e. cc e), inl ((IsUtf8-from_is_utf8 (b ∷ more) valid, short), (status, says)))))
        (λ long. (line (codes "error 1: usage"), inr ((λ e. cc e), inr ((λ h. cc (sym h.1 ∙ long)), refl)))))
        (λ bad. (line (codes "error 1: usage"), inr ((λ e. cc e), inr ((λ h. cc (sym (is_utf8-from_IsUtf8 (b ∷ more) h.0) ∙ bad)), refl))))

    line_told : (one : List ℕ) → (text : List ℕ) × IsLineAnswer budget c one text
    unfolding IsLineAnswer
    line_told [] = (line [], inl (refl, refl))
    line_told (b ∷ more) = some_told b more

    lines_told : (lines : List (List ℕ)) → (text : List ℕ) × AreLineAnswers budget c lines text
    lines_told [] = ([], refl)
    lines_told (one ∷ more) =
        let (first, is_first) = line_told one in let (rest, are) = lines_told more in (first ++ rest, (first, rest, is_first, are, refl))

  source_told : (bytes : List ℕ) → HasAnswer (SourceAnswer budget) bytes
  unfolding SourceAnswer
  source_told bytes =
      of_checked (program_in bytes) (AreCallsAnswers budget (calls_of bytes))
      (λ c is. let (text, are) = lines_told (program_in bytes) c is (calls_of bytes) in (text, Done, (are, refl)))
      (stages (program_in bytes)).1

pub sources_have_answers : EachTextIsAnswered → EachTextHasStages → FaultlessIsShaped → CodeEndsAsMeant → SourcesHaveAnswers
unfolding CallsAnswer
sources_have_answers each stages shaped law budget bytes =
    on_test (nat_le (length bytes) 16777216)
    (λ fits.
    let short = within (length bytes) 16777216 fits in
    let (text, status, says) = source_told each stages shaped law budget bytes in
    (text, status, inr ((λ long. absurd (omega (arith, short, long))), says)))
    (λ over. (line (codes "error 2: text too long"), TooLong, inl (beyond (length bytes) 16777216 over, (refl, refl))))
