use Rattle.std.proofs.Common.{length}
use Rattle.um_lines.specs.Sources.{call_lines}
use Rattle.um_front.specs.Parts.{checked_tree}
use Rattle.um_call_answers.proofs.CallsAnswers.{AreAnswered}
use Rattle.um_call_answers.proofs.calls.line_answers.Given as goal

abbrev pub invariant-lines : goal.invariant-lines
invariant-lines l = record { answered : AreAnswered l.prepared.budget (checked_tree l.prepared.program.now) (call_lines l.calls) (call_lines l.rest) l.text.items }

abbrev pub decreases-lines : goal.decreases-lines
decreases-lines l = length l.rest
