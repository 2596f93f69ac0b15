-- The answer about a generated program is one, and is done if its last call is.
use Rattle.std.proofs.Common.{◌≡◌, ℕ, ◌-◌, List, sym, ◌∙◌}
use Rattle.um_parse.specs.Laws.{AnswersAreUnique}
use Rattle.um_reports.specs.declared.status.Status.{Status}
use Rattle.um_reports.specs.declared.status.Status.TheVariants.{Done}
use Rattle.um_front.specs.Stages.{CheckedTree, IsCheckedText}
use Rattle.um_front.proofs.StageLaws.{checked_given, checked_once}
use Rattle.um_call_answers.specs.declared.way.Way.TheVariants as way
use Rattle.um_call_answers.specs.BigText.{big_text}
use Rattle.um_call_answers.specs.BigAnswer.{BigAnswer, IsBigAnswer, last_call, run_told}
use Rattle.um_call_answers.specs.Passing.{GivesValue}
use Rattle.um_call_answers.proofs.CallsDone.{call_goes_through}
use Rattle.um_call_answers.proofs.UniqueReplies.{call_once}

module _ (text other : List ℕ) (status another : Status) (n : ℕ) where
  big_once : (bytes : List ℕ) (c : CheckedTree) → IsCheckedText bytes c → IsBigAnswer n c text status → IsBigAnswer n c other another → (text ≡ other) × (status ≡ another)
  unfolding IsBigAnswer
  big_once bytes c is (run, answer, told) (walk, again, also) =
      let same = call_once run walk status another way.Code (last_call (n - 1)) bytes c is answer again in
      (told ∙ (λ i. run_told n c.text.program c.schemes (same.0 i) (same.1 i)) ∙ sym also, same.1)

  pub big_one : AnswersAreUnique → BigAnswer n text status → BigAnswer n other another → (text ≡ other) × (status ≡ another)
  unfolding BigAnswer
  big_one one a b = checked_once (IsBigAnswer n) (big_text n) text status other another one (λ c is. big_once (big_text n) c is) a b

module _ (n : ℕ) (c : CheckedTree) (is : IsCheckedText (big_text n) c) (gives : GivesValue (last_call (n - 1)) c) (text : List ℕ) (status : Status) where
  generated_done : IsBigAnswer n c text status → status ≡ Done
  unfolding IsBigAnswer
  generated_done (run, answer, told) = call_goes_through way.Code (last_call (n - 1)) c gives run status (big_text n) is answer

  pub big_done : BigAnswer n text status → status ≡ Done
  unfolding BigAnswer
  big_done answer = generated_done (checked_given (IsBigAnswer n) (big_text n) text status c is answer)
