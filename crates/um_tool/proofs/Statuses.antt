-- Which statuses an answer may have: none of the faults'.
use Rattle.std.proofs.Common.{ℕ, List, IsTrue, None, Some, MatchOption, codes, refl, inl, inr}
use Rattle.std.specs.declared.option.Option.{Option}
use Rattle.um_orders.specs.declared.order.Order.{Order}
use Rattle.um_orders.specs.declared.order.Order.TheVariants.{Types, Explain, Annot, Code, Fmt, Tidy, Run, Steps, Eval, Trace, Show, Conform, Rescale, Twin, Big, Prove, Image, Exec, Calls}
use Rattle.um_orders.specs.Orders.{order_of}
use Rattle.um_reports.specs.declared.status.Status.{Status}
use Rattle.um_reports.specs.declared.status.Status.TheVariants.{Usage}
use Rattle.um_reports.specs.Steps.{IsReply, line}
use Rattle.um_reports.proofs.ReportStatuses.{is_answered}
use Rattle.um_answers.proofs.AnnotAnswers.{AnnotAnswer-status}
use Rattle.um_answers.proofs.ConformAnswers.{ConformAnswer-status}
use Rattle.um_answers.proofs.ImageAnswers.{ImageAnswer-status}
use Rattle.um_answers.proofs.RescaleAnswers.{RescaleAnswer-status}
use Rattle.um_answers.proofs.TextAnswers.{TypesAnswer-status, CodeAnswer-status, FmtAnswer-status, TidyAnswer-status, ProveAnswer-status}
use Rattle.um_call_answers.specs.declared.way.Way.TheVariants as way
use Rattle.um_call_answers.proofs.CallStatuses.{CallAnswer-status, BigAnswer-status}
use Rattle.um_call_answers.proofs.CallsAnswers.{CallsAnswer-status}
use Rattle.um_call_answers.proofs.ExecAnswers.{ExecAnswer-status}
use Rattle.um_call_answers.proofs.TwinAnswers.{TwinAnswer-status}
use Rattle.um_shown_answers.proofs.TraceAnswers.{TraceAnswer-status}
use Rattle.um_shown_answers.proofs.ShowStatuses.{ShowAnswer-status}
use Rattle.um_explain_answers.proofs.ExplainAnswers.{ExplainAnswer-status}
use Rattle.um_tool.specs.Asked.{called, held_name, signature_text, rescale_sizes, twin_sizes, called_twice}
use Rattle.um_tool.specs.Asked.{shown_units, called_shown}
use Rattle.um_tool.specs.Answer.{Answer, ByOrder}

by_order_status : (order : Order) (words : List (List ℕ)) (bytes text : List ℕ) (status : Status) → ByOrder order words bytes text status → IsTrue (is_answered status)
by_order_status Types words bytes text status answer = TypesAnswer-status bytes text status answer
by_order_status Explain words bytes text status answer = ExplainAnswer-status bytes text status answer
by_order_status Annot words bytes text status answer = AnnotAnswer-status bytes text status answer
by_order_status Code words bytes text status answer = CodeAnswer-status bytes text status answer
by_order_status Fmt words bytes text status answer = FmtAnswer-status bytes text status answer
by_order_status Tidy words bytes text status answer = TidyAnswer-status bytes text status answer
by_order_status (Run budget) words bytes text status answer = CallAnswer-status way.Code (called budget words) bytes text status answer
by_order_status (Steps budget) words bytes text status answer = CallAnswer-status way.Counted (called budget words) bytes text status answer
by_order_status (Eval budget) words bytes text status answer = CallAnswer-status way.Tree (called budget words) bytes text status answer
by_order_status (Trace budget) words bytes text status answer = TraceAnswer-status (called budget words) bytes text status answer
by_order_status (Show digits budget) words bytes text status (inl (stated, answer)) = ShowAnswer-status digits text status (shown_units words) (called_shown budget words) bytes answer
by_order_status (Show digits budget) words bytes text status (inr (none, reply)) = rw reply.1 refl
by_order_status Conform words bytes text status answer = ConformAnswer-status (held_name words) (signature_text words) bytes text status answer
by_order_status Rescale words bytes text status answer = RescaleAnswer-status (rescale_sizes words) bytes text status answer
by_order_status (Twin budget) words bytes text status answer = TwinAnswer-status text status (twin_sizes words) (called_twice budget words) bytes answer
by_order_status (Big n) words bytes text status answer = BigAnswer-status n text status answer
by_order_status Prove words bytes text status answer = ProveAnswer-status bytes text status answer
by_order_status Image words bytes text status answer = ImageAnswer-status bytes text status answer
by_order_status (Exec budget) words bytes text status answer = ExecAnswer-status (called budget words) bytes text status answer
by_order_status (Calls budget) words bytes text status answer = CallsAnswer-status budget bytes text status answer

ordered_status : (order : Option Order) (words : List (List ℕ)) (bytes text : List ℕ) (status : Status) → MatchOption order (IsReply text status (line (codes "error 1: usage")) Usage) (λ o. ByOrder o words bytes text status) → IsTrue (is_answered status)
ordered_status None words bytes text status reply = rw reply.1 refl
ordered_status (Some order) words bytes text status answer = by_order_status order words bytes text status answer

pub Answer-status : (words : List (List ℕ)) (bytes text : List ℕ) (status : Status) → Answer words bytes text status → IsTrue (is_answered status)
unfolding Answer
Answer-status words bytes text status answer = ordered_status (order_of words) words bytes text status answer
