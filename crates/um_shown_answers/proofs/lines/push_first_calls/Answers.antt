use Rattle.std.proofs.Common.{map}
use Rattle.um_tree.specs.ProgramTree.{function_tree}
use Rattle.um_eval.specs.Paths.{spot_of}
use Rattle.um_shown_answers.specs.TraceText.{call_line}
use Rattle.um_shown_answers.proofs.CallLines.{next_added}
use Rattle.um_shown_answers.proofs.lines.push_first_calls.Goals as goal

pub loop-i-preserved : goal.loop-i-preserved
loop-i-preserved c =
    next_added (call_line (map function_tree c.args.functions.now) c.args.bytes.now) spot_of c.args.calls.now c.args.text.now.items c.loop-i.i _ c.loop-i.text.items c.push_call.new.text.items c.loop-i-test.true c.loop-i.invariant c.in_ok-push_call.ensures
