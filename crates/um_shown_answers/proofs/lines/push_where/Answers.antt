use Rattle.std.proofs.Common.{codes, map}
use Rattle.std.proofs.lemmas.Result.{on_ok_weaker}
use Rattle.um_tree.specs.ProgramTree.{function_tree}
use Rattle.um_excerpt.specs.Excerpt.{excerpt}
use Rattle.um_eval.specs.Paths.{spot_of}
use Rattle.um_eval.specs.Through.{operand_values}
use Rattle.um_shown_answers.specs.TraceText.{call_lines, operand_lines, spot_text}
use Rattle.um_shown_answers.proofs.CallLines.{five_added}
use Rattle.um_shown_answers.proofs.lines.push_where.Goals as goal

pub returns : goal.returns
returns c =
    let fs = map function_tree c.args.functions.now in
    let bytes = c.args.bytes.now in
    let node = c.args.spots.0 in
    on_ok_weaker c.push_calls.result
    (λ last.
    five_added c.args.text.now.items (codes " in ") (spot_text fs bytes (spot_of node)) (codes "\n") (excerpt bytes node.at) (operand_lines (operand_values c.args.operands)) (call_lines fs bytes (map spot_of c.args.spots.1.now))
    _ _ _ _ _ _ c.in_ok-extend_from_slice.ensures.items c.in_ok-push_spot.ensures c.in_ok-push.ensures.items c.in_ok-push_excerpt.ensures.excerpt c.in_ok-push_operands.ensures last)
    c.push_calls.ensures
