use Rattle.std.proofs.Common.{◌+◌, ◌≡◌, ◌∙◌, ap, true, false, Some, take}
use Rattle.um_cells.specs.Operations.{truth_in}
use Rattle.um_machine.specs.Machine.{goes}
use Rattle.um_steps.specs.Going.{state_of}
use Rattle.um_steps.proofs.Acted.{branches, no_branch, same_step}
use Rattle.um_steps.proofs.run.Run.branch.Goals as goal

pub returns-in-Some-true-clause-step : goal.returns-in-Some-true-clause-step
returns-in-Some-true-clause-step c = λ code vs v h k.
    let m = c.args.self.now in
    let low = take c.args.at vs in
    let test : truth_in v ≡ Some true = k ∙ c.in-Some-true.is ∙ ap Some c.in-Some-true.field-0-test in
    same_step code c.go_on.new.self _ (goes code (state_of m vs) low (m.at + 1)) c.go_on.result (branches v true _ _ test) (c.go_on.ensures.step code vs low (h.0, c.cut.ensures.values vs h.1))

pub returns-in-Some-false-clause-step : goal.returns-in-Some-false-clause-step
returns-in-Some-false-clause-step c = λ code vs v h k.
    let m = c.args.self.now in
    let low = take c.args.at vs in
    let test : truth_in v ≡ Some false = k ∙ c.in-Some-false.is ∙ ap Some c.in-Some-false.field-0-test in
    same_step code c.arrive.new.self _ (goes code (state_of m vs) low c.args.t) c.arrive.result (branches v false _ _ test) (c.arrive.ensures.step code vs low (h.0, c.cut-in-Some-false.ensures.values vs h.1))

pub returns-in-None-clause-step : goal.returns-in-None-clause-step
returns-in-None-clause-step c = λ code vs v h k. no_branch v _ _ (k ∙ c.in-None.is)
