-- The answer to words and bytes is one.
use Rattle.std.proofs.Common.{◌≡◌, ℕ, List, Some, None, MatchOption, codes, refl, sym, ◌∙◌, ap, inl, inr}
use Rattle.std.specs.declared.option.Option.{Option}
use Rattle.um_parse.specs.Laws.{AnswersAreUnique as ParsesAreUnique}
use Rattle.um_orders.specs.declared.order.Order.{Order}
use Rattle.um_orders.specs.declared.order.Order.TheVariants.{Types, Explain, Annot, Code, Fmt, Tidy, Run, Steps, Eval, Trace, Show, Conform, Rescale, Twin, Big, Prove, Image, Exec, Calls}
use Rattle.um_orders.specs.Orders.{order_of}
use Rattle.um_reports.specs.declared.status.Status.{Status}
use Rattle.um_reports.specs.declared.status.Status.TheVariants.{Usage}
use Rattle.um_reports.specs.Steps.{line, IsReply}
use Rattle.um_sig.specs.Laws.{ReadingsAreUnique}
use Rattle.um_answers.proofs.AnnotAnswers.{annot_one}
use Rattle.um_answers.proofs.ConformAnswers.{conform_one}
use Rattle.um_answers.proofs.ImageAnswers.{image_one}
use Rattle.um_answers.proofs.RescaleAnswers.{rescale_one}
use Rattle.um_answers.proofs.TextAnswers.{types_one, code_one, fmt_one, tidy_one}
use Rattle.um_call_answers.specs.declared.way.Way.TheVariants as way
use Rattle.um_call_answers.specs.Laws.{ExecAnswersAreUnique}
use Rattle.um_call_answers.proofs.BigAnswers.{big_one}
use Rattle.um_call_answers.proofs.CallsAnswers.{calls_one}
use Rattle.um_call_answers.proofs.UniqueReplies.{call_one}
use Rattle.um_call_answers.proofs.TwinAnswers.{twin_one}
use Rattle.um_shown_answers.specs.Laws.{TracesAreOne}
use Rattle.um_shown_answers.proofs.ShowOnce.{ShowAnswer-once}
use Rattle.um_explain_answers.proofs.ExplainAnswers.{explain_one}
use Rattle.um_tool.specs.Asked.{called, held_name, signature_text, rescale_sizes, twin_sizes, called_twice}
use Rattle.um_tool.specs.Asked.{shown_units, called_shown}
use Rattle.um_tool.specs.Answer.{Answer, ByOrder}
use Rattle.um_tool.specs.Laws.{AnswersAreUnique}

-- an order has one answer, but for certificates
abbrev HasOneAnswer : Order → Type 0
HasOneAnswer Prove = ⊥
HasOneAnswer order = Unit {0}

one_unless_proof : (order : Order) → (order ≡ Prove → ⊥) → HasOneAnswer order
one_unless_proof Prove other = absurd (other refl)
one_unless_proof order other = tt

module _ (one : ParsesAreUnique) (one_reading : ReadingsAreUnique) (one_exec : ExecAnswersAreUnique) (one_trace : TracesAreOne) (text other : List ℕ) (status another : Status) where
  by_order_one : (order : Order) (words : List (List ℕ)) (bytes : List ℕ) → HasOneAnswer order → ByOrder order words bytes text status → ByOrder order words bytes other another → (text ≡ other) × (status ≡ another)
  by_order_one Types words bytes only a b = types_one bytes text status other another one a b
  by_order_one Explain words bytes only a b = explain_one bytes text status other another one a b
  by_order_one Annot words bytes only a b = annot_one bytes text status other another one a b
  by_order_one Code words bytes only a b = code_one bytes text status other another one a b
  by_order_one Fmt words bytes only a b = fmt_one bytes text status other another one a b
  by_order_one Tidy words bytes only a b = tidy_one bytes text status other another one a b
  by_order_one (Run budget) words bytes only a b = call_one text other status another one way.Code (called budget words) bytes a b
  by_order_one (Steps budget) words bytes only a b = call_one text other status another one way.Counted (called budget words) bytes a b
  by_order_one (Eval budget) words bytes only a b = call_one text other status another one way.Tree (called budget words) bytes a b
  by_order_one (Trace budget) words bytes only a b = one_trace (called budget words) bytes text other status another a b
  by_order_one (Show digits budget) words bytes only (inl (stated, a)) (inl (too, b)) = ShowAnswer-once digits text other status another (shown_units words) (called_shown budget words) bytes one a b
  by_order_one (Show digits budget) words bytes only (inl (stated, a)) (inr (none, b)) = absurd (none stated)
  by_order_one (Show digits budget) words bytes only (inr (none, a)) (inl (stated, b)) = absurd (none stated)
  by_order_one (Show digits budget) words bytes only (inr (none, a)) (inr (too, b)) = (a.0 ∙ sym b.0, a.1 ∙ sym b.1)
  by_order_one Conform words bytes only a b = conform_one text other status another one one_reading (held_name words) (signature_text words) bytes a b
  by_order_one Rescale words bytes only a b = rescale_one text other status another one (rescale_sizes words) bytes a b
  by_order_one (Twin budget) words bytes only a b = twin_one text other status another one (twin_sizes words) (called_twice budget words) bytes a b
  by_order_one (Big n) words bytes only a b = big_one text other status another n one a b
  by_order_one Prove words bytes only a b = absurd only
  by_order_one Image words bytes only a b = image_one text other status another one bytes a b
  by_order_one (Exec budget) words bytes only a b = one_exec (called budget words) bytes text other status another a b
  by_order_one (Calls budget) words bytes only a b = calls_one text other status another one budget bytes a b

  ordered_one : (order : Option Order) (words : List (List ℕ)) (bytes : List ℕ) → (order_of words ≡ Some Prove → ⊥) → order_of words ≡ order → MatchOption order (IsReply text status (line (codes "error 1: usage")) Usage) (λ o. ByOrder o words bytes text status)
      → MatchOption order (IsReply other another (line (codes "error 1: usage")) Usage) (λ o. ByOrder o words bytes other another) → (text ≡ other) × (status ≡ another)
  ordered_one None words bytes unproved is a b = (a.0 ∙ sym b.0, a.1 ∙ sym b.1)
  ordered_one (Some order) words bytes unproved is a b = by_order_one order words bytes (one_unless_proof order (λ e. unproved (is ∙ ap Some e))) a b

-- if `parse` has one answer to each list of tokens, the text of a signature one reading, and a call of an image and a
-- traced call one answer
pub answers_are_one : ParsesAreUnique → ReadingsAreUnique → ExecAnswersAreUnique → TracesAreOne → AnswersAreUnique
unfolding Answer
answers_are_one one one_reading one_exec one_trace words bytes text other status another unproved a b = ordered_one one one_reading one_exec one_trace text other status another (order_of words) words bytes unproved refl a b
