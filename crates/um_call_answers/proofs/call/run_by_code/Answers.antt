use Rattle.std.proofs.Common.{sym, subst}
use Rattle.um_tree.specs.declared.value.Outcome.{Outcome}
use Rattle.um_tree.specs.ValueTree.{outcome_tree}
use Rattle.um_tree.specs.ProgramTree.{program_tree}
use Rattle.um_machine.specs.Machine.{EndsWith}
use Rattle.um_gen.specs.ProgramCode.{program_code}
use Rattle.um_vm.proofs.Calls.{counted_ends}
use Rattle.um_run.specs.Calls.{call_tree, call_values}
use Rattle.um_call_answers.proofs.call.run_by_code.Goals as goal

pub returns : goal.returns
returns c =
    let code = program_code (program_tree c.args.shaped.now).functions in
    let f = c.args.call.now.function in let b = c.args.budget in let vs = call_values (call_tree c.args.call.now) in
    let (k, counts, told) = c.in_ok-counted.ensures in
    let by = counted_ends code f vs b (outcome_tree c.in_ok-counted.counted.outcome) k counts in
    (subst (λ (o : Outcome). EndsWith code f vs b (outcome_tree o)) (sym c.without_steps.ensures.outcome) by, c.without_steps.ensures.steps)
