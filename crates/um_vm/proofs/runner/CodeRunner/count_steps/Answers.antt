use Rattle.std.proofs.Common.{map, sym, subst, ◌∙◌}
use Rattle.std.specs.Prelude.{IfOk}
use Rattle.std.proofs.lemmas.List.{length-map}
use Rattle.um_tree.specs.ValueTree.{value_tree, outcome_tree}
use Rattle.um_machine.specs.Machine.{EndsWith}
use Rattle.um_machine.specs.Jumps.{JumpsGoForward}
use Rattle.um_gen.proofs.Forwards.{generated_forward}
use Rattle.um_vm.specs.Counting.{CountsSteps}
use Rattle.um_vm.proofs.Calls.{is_call, meant}
use Rattle.um_vm.proofs.runner.CodeRunner.count_steps.Goals as goal

pub run_code-requires-clause-call : goal.run_code-requires-clause-call
run_code-requires-clause-call c =
    let (p, of, allowed) = c.requires in
    is_call p c.args.f (map value_tree c.args.args.items.items) allowed c.self.inside.code.now _ (c.self.view_is ∙ of.generated) (sym (length-map c.args.args.items.items value_tree))

pub run_code-requires-clause-forward : goal.run_code-requires-clause-forward
run_code-requires-clause-forward c =
    let (p, of, allowed) = c.requires in
    subst (λ code. JumpsGoForward code) (sym (c.self.view_is ∙ of.generated)) (generated_forward _)

pub run_code-requires-clause-ends : goal.run_code-requires-clause-ends
run_code-requires-clause-ends c =
    let (p, of, allowed) = c.requires in
    let args = map value_tree c.args.args.items.items in
    let (o, is, ends) = meant p c.args.f args allowed c.args.budget of.shaped in
    (o, subst (λ code. EndsWith code c.args.f args c.args.budget o) (sym (c.self.view_is ∙ of.generated)) ends)

pub returns-clause-end : goal.returns-clause-end
returns-clause-end c =
    let args = map value_tree c.args.args.items.items in
    subst (λ code. IfOk c.run_code.result (λ counted. EndsWith code c.args.f args c.args.budget (outcome_tree counted.outcome))) c.self.view_is c.run_code.ensures.end

pub returns-clause-steps : goal.returns-clause-steps
returns-clause-steps c =
    let args = map value_tree c.args.args.items.items in
    subst (λ code. IfOk c.run_code.result (λ counted. CountsSteps code c.args.f args c.args.budget (outcome_tree counted.outcome) counted.steps)) c.self.view_is c.run_code.ensures.steps
