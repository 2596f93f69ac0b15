use Rattle.std.proofs.Common.{refl, sym, subst}
use Rattle.um_tree.specs.ValueTree.{outcome_tree}
use Rattle.um_tree.specs.ProgramTree.{program_tree}
use Rattle.um_cells.specs.Arguments.{AreArgumentsOf}
use Rattle.um_gen.specs.ProgramCode.{program_code}
use Rattle.um_run.specs.Calls.{call_tree, call_values}
use Rattle.um_vm.specs.Counting.{CountsSteps}
use Rattle.um_call_answers.proofs.call.count_by_code.Goals as goal

pub count_steps-requires : goal.count_steps-requires
count_steps-requires c =
    let p = program_tree c.args.shaped.now in
    (p, c.new-runner.ensures.runs, subst (AreArgumentsOf p c.args.call.now.function) (sym c.in_ok-values.ensures) c.requires.can.arguments)

pub returns : goal.returns
returns c =
    let e = c.in_ok-outcome.field-0 in let f = c.args.call.now.function in let b = c.args.budget in
    let code = program_code (program_tree c.args.shaped.now).functions in
    let here = subst (λ vs. CountsSteps c.new-runner.result f vs b (outcome_tree e.outcome) e.steps) c.in_ok-values.ensures c.in_ok-outcome.ensures.steps in
    (e.steps, subst (λ x. CountsSteps x f (call_values (call_tree c.args.call.now)) b (outcome_tree e.outcome) e.steps) c.new-runner.ensures.runs.generated here, refl)
