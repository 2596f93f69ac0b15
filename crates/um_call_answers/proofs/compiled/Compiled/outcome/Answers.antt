use Rattle.std.proofs.Common.{map, ap, sym, subst, ◌∙◌}
use Rattle.um_tree.specs.declared.program.Program.{Program}
use Rattle.um_tree.specs.ValueTree.{value_tree, outcome_tree}
use Rattle.um_tree.specs.ProgramTree.{program_tree}
use Rattle.um_tree.specs.Shapes.{IsShaped}
use Rattle.um_cells.specs.Arguments.{AreArgumentsOf}
use Rattle.um_machine.specs.Machine.{EndsWith}
use Rattle.um_gen.specs.ProgramCode.{program_code}
use Rattle.um_vm.proofs.Calls.{run_is_meant}
use Rattle.um_run.specs.Calls.{call_tree, call_values}
use Rattle.um_front.specs.declared.parts.CheckedParts.{CheckedParts}
use Rattle.um_call_answers.proofs.compiled.Compiled.outcome.Goals as goal

pub count_steps-requires : goal.count_steps-requires
count_steps-requires c =
    let same = c.shaped.ensures.shaped ∙ ap (λ (d : CheckedParts). d.text.shaped) c.self.view_is in
    let allowed = subst (λ (p : Program). AreArgumentsOf (program_tree p) c.args.call.now.function (call_values (call_tree c.args.call.now))) (sym same) c.requires.typed.arguments in
    (program_tree c.shaped.result.now, c.new-runner.ensures.runs, subst (AreArgumentsOf (program_tree c.shaped.result.now) c.args.call.now.function) (sym c.in_ok-values.ensures) allowed)

pub returns-in-Ok-clause-end : goal.returns-in-Ok-clause-end
returns-in-Ok-clause-end c =
    let same = c.shaped.ensures.shaped ∙ ap (λ (d : CheckedParts). d.text.shaped) c.self.view_is in
    let f = c.args.call.now.function in let b = c.args.budget in let o = outcome_tree c.in-Ok.counted.outcome in
    let here = subst (λ code. EndsWith code f (map value_tree c.in_ok-values.values.items.items) b o) c.new-runner.ensures.runs.generated c.in-Ok.ensures.end in
    let there = subst (λ (p : Program). EndsWith (program_code (program_tree p).functions) f (map value_tree c.in_ok-values.values.items.items) b o) same here in
    subst (λ vs. EndsWith (program_code (program_tree c.args.self.now.text.shaped).functions) f vs b o) c.in_ok-values.ensures there

pub returns-in-Ok-clause-meant : goal.returns-in-Ok-clause-meant
returns-in-Ok-clause-meant c =
    let same = c.shaped.ensures.shaped ∙ ap (λ (d : CheckedParts). d.text.shaped) c.self.view_is in
    let shaped = subst (λ (p : Program). IsShaped (program_tree p)) same c.new-runner.ensures.runs.shaped in
    run_is_meant (program_tree c.args.self.now.text.shaped) c.args.call.now.function (call_values (call_tree c.args.call.now)) c.requires.typed.arguments c.args.budget (outcome_tree c.in-Ok.counted.outcome) shaped (returns-in-Ok-clause-end c)
