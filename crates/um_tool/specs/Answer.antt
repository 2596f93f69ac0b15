-- The answer to words and the bytes that a source has, as a relation between words, bytes, text and status.
-- Source: this project's own.
use Rattle.std.specs.Prelude.{ℕ, List, codes, MatchOption}
use Rattle.um_orders.specs.declared.order.Order.{Order}
use Rattle.um_orders.specs.declared.order.Order.TheVariants.{Types, Explain, Annot, Code, Fmt, Tidy, Run, Steps, Eval}
use Rattle.um_orders.specs.declared.order.Order.TheVariants.{Trace, Show, Conform, Rescale, Twin}
use Rattle.um_orders.specs.declared.order.Order.TheVariants.{Big, Prove, Image, Exec, Calls}
use Rattle.um_orders.specs.Orders.{order_of}
use Rattle.um_reports.specs.declared.status.Status.{Status}
use Rattle.um_reports.specs.declared.status.Status.TheVariants.{Usage}
use Rattle.um_reports.specs.Steps.{line, IsReply, Cases}
use Rattle.um_answers.specs.TypesAnswer.{TypesAnswer}
use Rattle.um_answers.specs.AnnotAnswer.{AnnotAnswer}
use Rattle.um_answers.specs.CodeAnswer.{CodeAnswer}
use Rattle.um_answers.specs.FmtAnswer.{FmtAnswer}
use Rattle.um_answers.specs.TidyAnswer.{TidyAnswer}
use Rattle.um_answers.specs.ConformAnswer.{ConformAnswer}
use Rattle.um_answers.specs.RescaleAnswer.{RescaleAnswer}
use Rattle.um_answers.specs.ProveAnswer.{ProveAnswer}
use Rattle.um_answers.specs.ImageAnswer.{ImageAnswer}
use Rattle.um_call_answers.specs.declared.way.Way.TheVariants as way
use Rattle.um_call_answers.specs.CallAnswer.{CallAnswer}
use Rattle.um_call_answers.specs.TwinAnswer.{TwinAnswer}
use Rattle.um_call_answers.specs.BigAnswer.{BigAnswer}
use Rattle.um_call_answers.specs.ExecAnswer.{ExecAnswer}
use Rattle.um_call_answers.specs.CallsAnswer.{CallsAnswer}
use Rattle.um_shown_answers.specs.TraceAnswer.{TraceAnswer}
use Rattle.um_shown_answers.specs.ShowAnswer.{ShowAnswer}
use Rattle.um_explain_answers.specs.ExplainAnswer.{ExplainAnswer}
use Rattle.um_tool.specs.Asked.{called, held_name, signature_text, rescale_sizes, twin_sizes, called_twice}
use Rattle.um_tool.specs.Asked.{shown_units, called_shown, StatesUnits}

abbrev pub IsUsageReply : List ℕ → Status → Type 0
IsUsageReply text status = IsReply text status (line (codes "error 1: usage")) Usage

-- what the order asks of the bytes; `big` takes none
abbrev pub ByOrder : Order → List (List ℕ) → List ℕ → List ℕ → Status → Type 0
ByOrder Types words bytes text status = TypesAnswer bytes text status
ByOrder Explain words bytes text status = ExplainAnswer bytes text status
ByOrder Annot words bytes text status = AnnotAnswer bytes text status
ByOrder Code words bytes text status = CodeAnswer bytes text status
ByOrder Fmt words bytes text status = FmtAnswer bytes text status
ByOrder Tidy words bytes text status = TidyAnswer bytes text status
ByOrder (Run budget) words bytes text status = CallAnswer way.Code (called budget words) bytes text status
ByOrder (Steps budget) words bytes text status = CallAnswer way.Counted (called budget words) bytes text status
ByOrder (Eval budget) words bytes text status = CallAnswer way.Tree (called budget words) bytes text status
ByOrder (Trace budget) words bytes text status = TraceAnswer (called budget words) bytes text status
ByOrder (Show digits budget) words bytes text status =
    Cases (StatesUnits (Show digits budget) words)
    (ShowAnswer digits (shown_units words) (called_shown budget words) bytes text status) (IsUsageReply text status)
ByOrder Conform words bytes text status = ConformAnswer (held_name words) (signature_text words) bytes text status
ByOrder Rescale words bytes text status = RescaleAnswer (rescale_sizes words) bytes text status
ByOrder (Twin budget) words bytes text status =
    TwinAnswer (twin_sizes words) (called_twice budget words) bytes text status
ByOrder (Big n) words bytes text status = BigAnswer n text status
ByOrder Prove words bytes text status = ProveAnswer bytes text status
ByOrder Image words bytes text status = ImageAnswer bytes text status
ByOrder (Exec budget) words bytes text status = ExecAnswer (called budget words) bytes text status
ByOrder (Calls budget) words bytes text status = CallsAnswer budget bytes text status

-- the words name an order
unfoldable pub Answer : List (List ℕ) → List ℕ → List ℕ → Status → Type 0
Answer words bytes text status =
    MatchOption (order_of words) (IsUsageReply text status) (λ order. ByOrder order words bytes text status)
