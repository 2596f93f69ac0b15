use Rattle.um_tree.specs.ProgramTree.{program_tree}
use Rattle.um_tree.specs.RawTree.{program_syntax}
use Rattle.um_names.proofs.FormedPrograms.{resolution_formed}
use Rattle.um_front.proofs.CheckedTexts.{read_is_readable}
use Rattle.um_explain_answers.proofs.names.answer_resolved.Goals as goal

pub shape-requires : goal.shape-requires
shape-requires c =
    let raw = program_syntax c.args.raw.now in
    record { formed = resolution_formed raw (program_tree c.args.all.program) (read_is_readable c.args.bytes.now raw c.requires.names.read) c.requires.names.resolved }

pub explain_shapes-requires-clause-stop : goal.explain_shapes-requires-clause-stop
explain_shapes-requires-clause-stop c = (program_tree c.args.all.program, c.requires.names.resolved, c.in-Err.ensures.refused)
