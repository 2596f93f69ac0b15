use Rattle.std.proofs.Common.{◌++◌, ◌∙◌, ap, append_assoc, codes, map}
use Rattle.um_tree.specs.ProgramTree.{function_tree}
use Rattle.um_eval.specs.Paths.{spot_of}
use Rattle.um_shown_answers.specs.TraceText.{spot_text}
use Rattle.um_shown_answers.proofs.lines.push_call.Goals as goal

pub returns : goal.returns
returns c =
    let text = c.args.text.now.items in
    let spot = spot_text (map function_tree c.args.functions.now) c.args.bytes.now (spot_of c.args.call.now) in
    c.in_ok-push.ensures.items
    ∙ ap (λ t. t ++ codes "\n") (c.in_ok-push_spot.ensures ∙ ap (λ t. t ++ spot) c.in_ok-extend_from_slice.ensures.items ∙ append_assoc text (codes "called from ") spot)
    ∙ append_assoc text (codes "called from " ++ spot) (codes "\n")
