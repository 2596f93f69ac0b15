use Rattle.std.specs.Prelude.{Err}
use Rattle.um_tree.specs.ProgramTree.{program_tree}
use Rattle.um_infer.proofs.AnswerLaws.{inferred_answers_are_right}
use Rattle.um_infer.proofs.solved.infer_solved.Goals as goal

pub returns-in-Err-clause-typings : goal.returns-in-Err-clause-typings
returns-in-Err-clause-typings c = inferred_answers_are_right (program_tree c.args.shaped.now) c.add_functions.ensures.formed (Err c.in-Err.stop) c.in-Err.ensures.stops
