use Rattle.std.proofs.Common.{map}
use Rattle.um_tree.specs.ProgramTree.{function_tree}
use Rattle.um_tree.specs.Meaning.{Outcome}
use Rattle.um_eval.proofs.call.run_call.Goals as goal

pub outcome-requires : goal.outcome-requires
outcome-requires c =
    let fs = map function_tree c.args.functions.now in
    let vs = c.requires.words.0 in
    (Outcome fs c.args.f vs c.args.budget, (c.in_ok-ended.ensures vs c.requires.words.1).0, c.requires.right vs c.requires.words.1)

pub returns : goal.returns
returns c = λ vs d.
    let fs = map function_tree c.args.functions.now in
    c.outcome.ensures (Outcome fs c.args.f vs c.args.budget) (c.in_ok-ended.ensures vs d).0
