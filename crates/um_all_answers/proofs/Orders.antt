-- The order that words name has an answer.
use Rattle.std.proofs.Common.{◌≡◌, ◌⊎◌, inl, inr, ℕ, ◌<◌, All, List, [], codes, MatchOption, Option, Some, None, refl, sym, subst, arith}
use Rattle.um_display.specs.UnitWords.{PartSyntax, IsUnitWord}
use Rattle.um_orders.specs.declared.order.Order.{Order}
use Rattle.um_orders.specs.declared.order.Order.TheVariants.{Types, Explain, Annot, Code, Fmt, Tidy, Run, Steps, Eval, Trace, Show, Conform, Rescale, Twin, Big, Prove, Image, Exec, Calls}
use Rattle.um_orders.specs.Orders.{order_of}
use Rattle.um_orders.proofs.OrderWords.{short_words, words_of_order}
use Rattle.um_reports.specs.declared.status.Status.{Status}
use Rattle.um_reports.specs.declared.status.Status.TheVariants.{Usage}
use Rattle.um_reports.specs.Steps.{line}
use Rattle.um_call_answers.specs.declared.way.Way.TheVariants as way
use Rattle.um_explain_answers.specs.ExplainAnswer.{ExplainAnswer}
use Rattle.um_all_answers.specs.Answered.{HasAnswer}
use Rattle.um_all_answers.specs.TextLaws.{EachTextHasAnswers, EachTextIsRescaled, EachTextIsConformed, EachTextHasImage, EachTextIsProved}
use Rattle.um_all_answers.specs.CallLaws.{CallsHaveAnswers, TracesHaveAnswers, TwinsHaveAnswers, UnitWordsAreDecided, DisplaysHaveAnswers, SourcesHaveAnswers, GeneratedProgramsHaveAnswers, ImagesHaveAnswers}
use Rattle.um_tool.specs.Asked.{called, held_name, signature_text, rescale_sizes, twin_sizes, called_twice, shown_units, called_shown}
use Rattle.um_tool.specs.Answer.{IsUsageReply, ByOrder, Answer}
use Rattle.um_all_answers.specs.Laws.{EachIsAnswered}

module _ (texts : EachTextHasAnswers) (explained : (text : List ℕ) → HasAnswer ExplainAnswer text) (rescaled : EachTextIsRescaled) (conformed : EachTextIsConformed) (image : EachTextHasImage) (proved : EachTextIsProved) (calls : CallsHaveAnswers) (traces : TracesHaveAnswers) (twins : TwinsHaveAnswers) (unit_words : UnitWordsAreDecided) (displays : DisplaysHaveAnswers)
    (sources : SourcesHaveAnswers) (generated : GeneratedProgramsHaveAnswers) (images : ImagesHaveAnswers) (words : List (List ℕ)) (bytes : List ℕ) (small : All (λ (b : ℕ). b < 256) bytes) where
  show_answered : (digits budget : ℕ) → ((parts : List PartSyntax) × IsUnitWord (shown_units words) parts) ⊎ ((parts : List PartSyntax) → IsUnitWord (shown_units words) parts → ⊥)
      → HasAnswer (ByOrder (Show digits budget) words) bytes
  show_answered digits budget (inl (parts, stated)) =
      let (text, status, says) = displays digits (shown_units words) parts (called_shown budget words) bytes stated in (text, status, inl ((parts, stated), says))
  show_answered digits budget (inr none) = (line (codes "error 1: usage"), Usage, inr ((λ h. none h.0 h.1), (refl, refl)))

  order_answered : (order : Order) → order_of words ≡ Some order → HasAnswer (ByOrder order words) bytes
  order_answered Types e = (texts bytes).0
  order_answered Annot e = (texts bytes).1
  order_answered Code e = (texts bytes).2
  order_answered Fmt e = (texts bytes).3
  order_answered Tidy e = (texts bytes).4
  order_answered (Run budget) e = calls way.Code (called budget words) bytes
  order_answered (Steps budget) e = calls way.Counted (called budget words) bytes
  order_answered (Eval budget) e = calls way.Tree (called budget words) bytes
  order_answered (Trace budget) e = traces (called budget words) bytes
  order_answered (Show digits budget) e = show_answered digits budget (unit_words (shown_units words))
  order_answered Rescale e = rescaled (rescale_sizes words) bytes (words_of_order words Rescale e).1
  order_answered (Twin budget) e = twins (twin_sizes words) (called_twice budget words) bytes (words_of_order words (Twin budget) e).2
  order_answered (Big n) e = generated n
  order_answered (Calls budget) e = sources budget bytes
  order_answered Explain e = explained bytes
  order_answered Conform e = let many = words_of_order words Conform e in conformed (held_name words) (signature_text words) bytes (short_words words Conform e 2 [] (omega (arith, many)))
  order_answered Prove e = proved bytes
  order_answered Image e = image bytes
  order_answered (Exec budget) e = images (called budget words) bytes small

  abbrev Asked : Option Order → List ℕ → Status → Type 0
  Asked o text status = MatchOption o (IsUsageReply text status) (λ order. ByOrder order words bytes text status)

  by_order : (o : Option Order) → order_of words ≡ o → HasAnswer (Answer words) bytes
  unfolding Answer
  by_order None e =
      let text = line (codes "error 1: usage") in (text, Usage, subst (λ (o : Option Order). Asked o text Usage) (sym e) (refl, refl))
  by_order (Some order) e =
      let (text, status, says) = order_answered order e in (text, status, subst (λ (o : Option Order). Asked o text status) (sym e) says)

pub each_is_answered : EachTextHasAnswers → ((text : List ℕ) → HasAnswer ExplainAnswer text) → EachTextIsRescaled → EachTextIsConformed → EachTextHasImage → EachTextIsProved → CallsHaveAnswers → TracesHaveAnswers → TwinsHaveAnswers → UnitWordsAreDecided → DisplaysHaveAnswers → SourcesHaveAnswers → GeneratedProgramsHaveAnswers → ImagesHaveAnswers → EachIsAnswered
each_is_answered texts explained rescaled conformed image proved calls traces twins unit_words displays sources generated images words bytes small =
    by_order texts explained rescaled conformed image proved calls traces twins unit_words displays sources generated images words bytes small (order_of words) refl
