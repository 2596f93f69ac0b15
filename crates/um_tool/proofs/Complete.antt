-- If every step goes through, the answer is done.
use Rattle.std.proofs.Common.{◌≡◌, ℕ, List, inl, inr}
use Rattle.std.specs.declared.option.Option.{Option}
use Rattle.um_lines.specs.Sources.{program_in}
use Rattle.um_orders.specs.declared.order.Order.{Order}
use Rattle.um_orders.specs.declared.order.Order.TheVariants.{Types, Explain, Annot, Code, Fmt, Tidy, Run, Steps, Eval, Trace, Show, Conform, Rescale, Twin, Big, Prove, Image, Exec, Calls}
use Rattle.um_reports.specs.declared.status.Status.{Status}
use Rattle.um_reports.specs.declared.status.Status.TheVariants.{Done}
use Rattle.um_sig.specs.Laws.{ReadingsAreUnique}
use Rattle.um_answers.proofs.AnnotAnswers.{annot_done}
use Rattle.um_answers.proofs.ConformsDone.{conform_done}
use Rattle.um_answers.proofs.ImageAnswers.{image_done}
use Rattle.um_answers.proofs.RescaleAnswers.{rescale_done}
use Rattle.um_answers.proofs.TextAnswers.{typed_text_is_checked, types_done, code_done, fmt_done, tidy_done, prove_done}
use Rattle.um_call_answers.specs.declared.way.Way.TheVariants as way
use Rattle.um_call_answers.specs.Laws.{ExecAnswersAreDone}
use Rattle.um_call_answers.proofs.CallsDone.{call_done}
use Rattle.um_call_answers.proofs.CallsAnswers.{calls_done}
use Rattle.um_call_answers.proofs.BigAnswers.{big_done}
use Rattle.um_call_answers.proofs.TwinDone.{twin_done}
use Rattle.um_shown_answers.proofs.TraceAnswers.{trace_done}
use Rattle.um_shown_answers.proofs.ShowDone.{show_done}
use Rattle.um_explain_answers.proofs.ShortTexts.{explain_done_if_short}
use Rattle.um_tool.specs.Asked.{called, held_name, signature_text, rescale_sizes, twin_sizes, called_twice}
use Rattle.um_tool.specs.Asked.{shown_units, called_shown}
use Rattle.um_tool.specs.Answer.{Answer, ByOrder}
use Rattle.um_tool.specs.Passing.{GoesThrough}
use Rattle.um_tool.specs.Served.{IsPlanned, IsComplete, IsUndisturbed}

module _ (one_reading : ReadingsAreUnique) (exec_done : ExecAnswersAreDone) where
  by_order_done : (order : Order) (words : List (List ℕ)) (bytes text : List ℕ) (status : Status) → GoesThrough order words bytes → ByOrder order words bytes text status → status ≡ Done
  by_order_done Types words bytes text status typed answer = let checked = typed_text_is_checked bytes typed in types_done bytes text status checked.0 checked.1 answer
  by_order_done Explain words bytes text status short answer = explain_done_if_short bytes text status short answer
  by_order_done Annot words bytes text status (c, is, have) answer = annot_done bytes text status c is have answer
  by_order_done Code words bytes text status typed answer = let checked = typed_text_is_checked bytes typed in code_done bytes text status checked.0 checked.1 answer
  by_order_done Fmt words bytes text status (raw, read) answer = fmt_done bytes text status raw read answer
  by_order_done Tidy words bytes text status (raw, read) answer = tidy_done bytes text status raw read answer
  by_order_done (Run budget) words bytes text status (c, is, gives) answer = call_done way.Code (called budget words) c gives text status bytes is answer
  by_order_done (Steps budget) words bytes text status (c, is, gives) answer = call_done way.Counted (called budget words) c gives text status bytes is answer
  by_order_done (Eval budget) words bytes text status (c, is, gives) answer = call_done way.Tree (called budget words) c gives text status bytes is answer
  by_order_done (Trace budget) words bytes text status (c, is, can) answer = trace_done (called budget words) c can bytes text status is answer
  by_order_done (Show digits budget) words bytes text status (stated, (c, is, gives)) (inl (units, answer)) =
      show_done digits (shown_units words) (called_shown budget words) c gives text status bytes is answer
  by_order_done (Show digits budget) words bytes text status (stated, typed) (inr (none, reply)) = absurd (none stated)
  by_order_done Conform words bytes text status (c, is, has) answer = conform_done one_reading (held_name words) (signature_text words) bytes c is has text status answer
  by_order_done Rescale words bytes text status (c, is, has) answer = rescale_done (rescale_sizes words) bytes c is has text status answer
  by_order_done (Twin budget) words bytes text status (c, is, gives) answer = twin_done (twin_sizes words) (called_twice budget words) c gives text status bytes is answer
  by_order_done (Big n) words bytes text status (c, is, gives) answer = big_done n c is gives text status answer
  by_order_done Prove words bytes text status provable answer = prove_done bytes text status provable answer
  by_order_done Image words bytes text status typed answer = let checked = typed_text_is_checked bytes typed in image_done bytes text status checked.0 checked.1 answer
  by_order_done (Exec budget) words bytes text status gives answer = exec_done (called budget words) bytes text status gives answer
  by_order_done (Calls budget) words bytes text status (short, typed) answer = let checked = typed_text_is_checked (program_in bytes) typed in calls_done budget bytes checked.0 checked.1 text status short answer

  pub Answer-complete : (words : List (List ℕ)) (bytes text : List ℕ) (status : Status) → IsComplete words bytes → Answer words bytes text status → status ≡ Done
  unfolding Answer
  Answer-complete words bytes text status ok answer =
      let given : ByOrder ok.order words bytes text status = rw ok.ordered at answer in
      by_order_done ok.order words bytes text status ok.goes_through given

  pub planned_complete : (words : List (List ℕ)) (left : Option (List ℕ)) (before now : ℕ) (text : List ℕ) (status : Status) → IsPlanned words left before now text status → IsUndisturbed words left before now → status ≡ Done
  planned_complete words left before now text status (inl (bytes, told, answer)) ok =
      let same : ok.bytes ≡ bytes = rw ok.told at told in
      Answer-complete words ok.bytes text status ok.complete (rw same answer)
  planned_complete words left before now text status (inr (reply, reads, rose)) ok = absurd (ok.calm rose)
