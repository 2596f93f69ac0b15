use Rattle.std.proofs.Common.{sym, ap, subst, ◌∙◌}
use Rattle.um_machine.specs.Machine.{next, step}
use Rattle.um_vm.specs.Showing.{Shows}
use Rattle.um_vm.proofs.Shown.{shown_state, shown_end, shown_stuck, first_made}
use Rattle.um_vm.proofs.machine.Machine.advance.Goals as goal

pub returns-in-Ok-clause-refines : goal.returns-in-Ok-clause-refines
returns-in-Ok-clause-refines c = λ code r h.
    let m = c.args.self.now in
    let (s, e, k) = shown_state code m r c.in-Going.is h in
    subst (λ x. Shows code c.go_on.new.self (next x (step code))) (sym e) (first_made code c.in-Ok.field-0 s (Shows code c.go_on.new.self) (c.in-Ok.ensures.refines code s k) c.in-Ok.ensures.count)

pub returns-in-Ended-clause-refines : goal.returns-in-Ended-clause-refines
returns-in-Ended-clause-refines c = λ code r h.
    let m = c.args.self.now in
    let (o, e, k) = shown_end code m r _ c.in-Ended.is h in
    subst (Shows code m) (e ∙ sym (ap (λ x. next x (step code)) e)) h

pub returns-in-Stuck-clause-refines : goal.returns-in-Stuck-clause-refines
returns-in-Stuck-clause-refines c = λ code r h.
    let m = c.args.self.now in
    let e = shown_stuck code m r c.in-Stuck.is h in
    subst (Shows code m) (e ∙ sym (ap (λ x. next x (step code)) e)) h
