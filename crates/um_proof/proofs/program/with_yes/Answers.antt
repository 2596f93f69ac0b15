use Rattle.um_tree.specs.ProgramTree.{program_tree}
use Rattle.um_infer.specs.Inference.{infer}
use Rattle.um_infer.specs.Answers.{scheme_trees}
use Rattle.um_proof.proofs.FunctionAnswers.{within_limits, some_stops}
use Rattle.um_proof.proofs.program.with_yes.Goals as goal

pub returns-in-Ok : goal.returns-in-Ok
returns-in-Ok c = (
  record { schemes = c.requires.before; count = c.in-Ok.ensures.count; yes = c.in-Ok.ensures.valid; no = c.requires.no },
  record { yes = c.in-Ok.ensures.tidy; no = c.requires.tidy },
)

pub returns-in-Err : goal.returns-in-Err
returns-in-Err c =
    let p = program_tree c.args.shaped.now in
    some_stops p (within_limits p (scheme_trees c.args.schemes) (infer p) c.args.no c.requires.no) c.in-Err.stop c.in-Err.ensures.range
