use Rattle.std.proofs.Common.{map, subst}
use Rattle.um_tree.specs.ValueTree.{value_tree, outcome_tree}
use Rattle.um_machine.specs.Machine.{EndsWith}
use Rattle.um_vm.proofs.Calls.{run_is_meant}
use Rattle.um_vm.proofs.runner.CodeRunnerRunner.call.Goals as goal

pub returns-in-Ok : goal.returns-in-Ok
returns-in-Ok c = λ p of allowed.
    let args = map value_tree c.args.args.items.items in
    let o = outcome_tree c.in-Ok.counted.outcome in
    run_is_meant p c.args.f args allowed c.args.budget o of.shaped (subst (λ code. EndsWith code c.args.f args c.args.budget o) of.generated c.in-Ok.ensures.end)
