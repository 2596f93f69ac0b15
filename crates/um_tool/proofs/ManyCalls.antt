-- What `calls` answers is what `run` answers, line by line.
use Rattle.std.proofs.Common.{◌≡◌, ℕ, Bool, true, false, List, [], ◌∷◌, codes, Some, None, MatchOption, inl, inr, refl, sym, subst, ◌∙◌}
use Rattle.std.specs.declared.option.Option.{Option}
use Rattle.std.specs.List.{list_all}
use Rattle.std.specs.Str.{IsUtf8, is_utf8}
use Rattle.std.proofs.lemmas.Str.{IsUtf8-from_is_utf8, is_utf8-from_IsUtf8}
use Rattle.um_lines.specs.Sources.{program_in, calls_of, words_in}
use Rattle.um_lines.proofs.Lines.{words_some}
use Rattle.um_orders.specs.declared.order.Order.{Order}
use Rattle.um_orders.specs.declared.order.Order.TheVariants.{Run}
use Rattle.um_orders.specs.Orders.{is_short, order_of}
use Rattle.um_orders.proofs.LineWords.{IsBudget, calls_named, run_named, run_unnamed}
use Rattle.um_reports.specs.declared.status.Status.{Status}
use Rattle.um_reports.specs.declared.status.Status.TheVariants.{Done, Usage, TooLong}
use Rattle.um_reports.specs.Steps.{line, IsReply}
use Rattle.um_front.specs.Stages.{CheckedTree, IsCheckedText}
use Rattle.um_front.proofs.StageLaws.{checked_reached}
use Rattle.um_call_answers.specs.CallAnswer.{CallAnswer}
use Rattle.um_call_answers.specs.CallsAnswer.{are_short, IsRunText, IsLineAnswer, AreLineAnswers, AreCallsAnswers, SourceAnswer, CallsAnswer}
use Rattle.um_tool.specs.Answer.{Answer, ByOrder}
use Rattle.um_tool.specs.CallLaws.{run_words, IsRunOf, AreRunsOf, CallsAreRuns}

module _ (word : List ℕ) (budget : ℕ) (is : IsBudget word budget) (program : List ℕ) (c : CheckedTree) (checked : IsCheckedText program c) where
  -- the words of the line, of which there is one at least, with those of `run`
  named : (bytes : List ℕ) → are_short (words_in bytes) ≡ true → order_of (run_words word bytes) ≡ Some (Run budget)
  named bytes short =
      let (name, more, are) = words_some bytes in
      subst (λ (words : List (List ℕ)). order_of (codes "run" ∷ word ∷ words) ≡ Some (Run budget)) (sym are)
      (run_named word budget is name more (subst (λ (words : List (List ℕ)). list_all is_short words ≡ true) are short))

  run_answered : (bytes text : List ℕ) → are_short (words_in bytes) ≡ true → IsRunText budget c (words_in bytes) text → (status : Status) × Answer (run_words word bytes) program text status
  unfolding Answer CallAnswer
  run_answered bytes text short (status, run) = (status, rw (named bytes short) (inl (c, checked, run)))

  usage_answered : (bytes text : List ℕ) → are_short (words_in bytes) ≡ false → text ≡ line (codes "error 1: usage") → (status : Status) × Answer (run_words word bytes) program text status
  unfolding Answer
  usage_answered bytes text long told = (Usage, rw (run_unnamed word budget is (words_in bytes) long) (told, refl))

  run_of_line : (bytes text : List ℕ) → IsLineAnswer budget c bytes text → IsRunOf word program bytes text
  unfolding IsLineAnswer
  run_of_line bytes text (inl (none, told)) = inl (none, told)
  run_of_line bytes text (inr (some, inl ((utf8, short), run))) = inr (some, inl (utf8, run_answered bytes text short run))
  run_of_line bytes text (inr (some, inr (lacks, told))) = by (is_utf8 bytes) refl (are_short (words_in bytes)) refl
    where
      by : (s : Bool) → is_utf8 bytes ≡ s → (t : Bool) → are_short (words_in bytes) ≡ t → IsRunOf word program bytes text
      by true utf8 true short = absurd (lacks (IsUtf8-from_is_utf8 bytes utf8, short))
      by true utf8 false long = inr (some, inl (IsUtf8-from_is_utf8 bytes utf8, usage_answered bytes text long told))
      by false other t are = inr (some, inr ((λ (utf8 : IsUtf8 bytes). cc (sym other ∙ is_utf8-from_IsUtf8 bytes utf8)), told))

  runs_of_lines : (lines : List (List ℕ)) (text : List ℕ) → AreLineAnswers budget c lines text → AreRunsOf word program lines text
  runs_of_lines [] text none = none
  runs_of_lines (bytes ∷ more) text (first, rest, answer, answers, told) = (first, rest, run_of_line bytes first answer, runs_of_lines more rest answers, told)

module _ (word : List ℕ) (budget : ℕ) (is : IsBudget word budget) (bytes text : List ℕ) where
  runs_of_source : SourceAnswer budget bytes text Done → AreRunsOf word (program_in bytes) (calls_of bytes) text
  unfolding SourceAnswer
  runs_of_source answer =
      let (c, checked, answers) = checked_reached (AreCallsAnswers budget (calls_of bytes)) (program_in bytes) text Done refl answer in
      runs_of_lines word budget is (program_in bytes) c checked (calls_of bytes) text answers.0

  runs_of_calls : CallsAnswer budget bytes text Done → AreRunsOf word (program_in bytes) (calls_of bytes) text
  unfolding CallsAnswer
  runs_of_calls (inl (long, reply)) = absurd (let wrong : Done ≡ TooLong = reply.1 in cc wrong)
  runs_of_calls (inr (short, answer)) = runs_of_source answer

pub calls_are_runs : CallsAreRuns
unfolding Answer
calls_are_runs word bytes text answer = by (order_of (codes "calls" ∷ word ∷ [])) refl answer
  where
    by : (order : Option Order) → order_of (codes "calls" ∷ word ∷ []) ≡ order
        → MatchOption order (IsReply text Done (line (codes "error 1: usage")) Usage) (λ o. ByOrder o (codes "calls" ∷ word ∷ []) bytes text Done) → AreRunsOf word (program_in bytes) (calls_of bytes) text
    by None is reply = absurd (let wrong : Done ≡ Usage = reply.1 in cc wrong)
    by (Some order) is given =
        let (budget, states, same) = calls_named word order is in
        runs_of_calls word budget states bytes text (subst (λ o. ByOrder o (codes "calls" ∷ word ∷ []) bytes text Done) same given)
