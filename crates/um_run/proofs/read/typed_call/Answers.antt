use Rattle.um_tree.specs.ProgramTree.{program_tree}
use Rattle.um_infer.specs.Answers.{scheme_trees}
use Rattle.um_run.proofs.CallParts.{call_has_no_type}
use Rattle.um_run.proofs.read.typed_call.Goals as goal

pub returns-in-Err : goal.returns-in-Err
returns-in-Err c = λ f declared.
    rw c.refusal_of.ensures (call_has_no_type (program_tree c.args.shaped.now) (scheme_trees c.args.schemes.now) c.args.function f c.args.inputs c.in-Err.stop (c.in-Err.ensures.typed f declared))
