use Rattle.std.proofs.Common.{arith}
use Rattle.std.proofs.lemmas.List.{length-map}
use Rattle.um_tree.specs.ValueTree.{input_tree}
use Rattle.um_tree.specs.ProgramTree.{program_tree}
use Rattle.um_run.specs.Calls.{call_tree}
use Rattle.um_call_answers.proofs.TwinArguments.{few_arguments}
use Rattle.um_twin_answers.proofs.twin.answer_inputs.Goals as goal

pub rescaled_arguments-requires : goal.rescaled_arguments-requires
rescaled_arguments-requires c =
    let few = few_arguments (program_tree c.args.both.now.shaped.now) (call_tree c.args.both.now.call.now) c.requires.can.formed c.requires.can.typed.arguments in
    let many = length-map c.args.both.now.call.now.inputs.items.items input_tree in
    record { few = omega (arith, few, many) }
