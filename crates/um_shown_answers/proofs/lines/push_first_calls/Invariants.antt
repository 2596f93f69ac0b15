use Rattle.std.proofs.Common.{map}
use Rattle.um_tree.specs.ProgramTree.{function_tree}
use Rattle.um_eval.specs.Paths.{spot_of}
use Rattle.um_shown_answers.specs.TraceText.{call_line}
use Rattle.um_shown_answers.proofs.CallLines.{Added}
use Rattle.um_shown_answers.proofs.lines.push_first_calls.Given as goal

abbrev pub invariant-loop-i : goal.invariant-loop-i
invariant-loop-i l = Added (call_line (map function_tree l.functions) l.bytes) spot_of l.calls l.initial.text.items l.i l.text.items
