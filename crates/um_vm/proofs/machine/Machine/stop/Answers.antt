use Rattle.std.proofs.Common.{ap, refl, subst, Err}
use Rattle.std.proofs.lemmas.Option.{same_Some}
use Rattle.um_vm.specs.declared.phase.End.TheVariants as end
use Rattle.um_vm.specs.declared.phase.Phase.TheVariants as phase
use Rattle.um_steps.specs.Stepping.{IsStep}
use Rattle.um_vm.proofs.Shown.{shown_by}
use Rattle.um_vm.proofs.machine.Machine.stop.Goals as goal

pub returns-in-Some-clause-refines : goal.returns-in-Some-clause-refines
returns-in-Some-clause-refines c = λ code r h.
    let run = c.args.self.now.run in
    let (ws, v, carries, top, e) = subst (λ x. IsStep code r (Err x) run) c.in-Returned.is h in
    let (w, is, denotes) = c.in-Some.ensures.value ws v carries top in
    shown_by code run (phase.Ended (end.Value c.in-Some.word)) _ _ e (end.Value w, ap (λ x. phase.Ended (end.Value x)) (same_Some c.in-Some.word w is), (v, denotes, refl))

pub returns-in-None-clause-refines : goal.returns-in-None-clause-refines
returns-in-None-clause-refines c = λ code r h.
    let (ws, v, carries, top, e) = subst (λ x. IsStep code r (Err x) c.args.self.now.run) c.in-Returned.is h in
    let (w, is, denotes) = c.in-None.ensures.value ws v carries top in
    absurd cc

pub returns-in-Trap-clause-refines : goal.returns-in-Trap-clause-refines
returns-in-Trap-clause-refines c = λ code r h.
    let run = c.args.self.now.run in
    let e = subst (λ x. IsStep code r (Err x) run) c.in-Trap.is h in
    shown_by code run (phase.Ended (end.Trap c.in-Trap.trap)) _ _ e (end.Trap c.in-Trap.trap, refl, refl)

pub returns-in-BudgetEnd-clause-refines : goal.returns-in-BudgetEnd-clause-refines
returns-in-BudgetEnd-clause-refines c = λ code r h.
    let run = c.args.self.now.run in
    let e = subst (λ x. IsStep code r (Err x) run) c.in-BudgetEnd.is h in
    shown_by code run (phase.Ended end.BudgetEnd) _ _ e (end.BudgetEnd, refl, refl)

pub returns-in-Stuck-clause-refines : goal.returns-in-Stuck-clause-refines
returns-in-Stuck-clause-refines c = λ code r h.
    let run = c.args.self.now.run in
    let e = subst (λ x. IsStep code r (Err x) run) c.in-Stuck.is h in
    shown_by code run phase.Stuck _ _ e refl
