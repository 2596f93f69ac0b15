use Rattle.std.proofs.Common.{◌∙◌, ap, refl, subst}
use Rattle.um_machine.specs.Machine.{runs, step}
use Rattle.um_steps.specs.Stepping.{IsStep}
use Rattle.um_vm.proofs.Shown.{shown_by}
use Rattle.um_vm.proofs.machine.Machine.go_on.Goals as goal

pub returns-in-Ok-clause-refines : goal.returns-in-Ok-clause-refines
returns-in-Ok-clause-refines c = λ code s h.
    let m = c.args.self.now in
    let (p, vs, is_in, is) = h in
    let (n, u, many, reached, last) = c.run-progress.ensures.steps code vs is_in in
    let (ws, now_in, e) = subst (λ x. IsStep code (step code u) x c.run-progress.new.self) c.in-Ok.is last in
    (n, u, many, ap (runs code n) is ∙ reached, shown_by code c.run-progress.new.self m.phase _ _ e (p, ws, now_in, refl))

pub returns-in_ok-stop-in-Err-clause-refines : goal.returns-in_ok-stop-in-Err-clause-refines
returns-in_ok-stop-in-Err-clause-refines c = λ code s h.
    let (p, vs, is_in, is) = h in
    let (n, u, many, reached, last) = c.run-progress.ensures.steps code vs is_in in
    (n, u, many, ap (runs code n) is ∙ reached, c.in_ok-stop-in-Err.ensures.refines code (step code u) (subst (λ x. IsStep code (step code u) x c.run-progress.new.self) c.in-Err.is last))
