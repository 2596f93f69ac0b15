use Rattle.std.proofs.Common.{sym, subst}
use Rattle.std.specs.Prelude.{IfOk, IsTrue}
use Rattle.um_vm.specs.Phases.{phase_holds}
use Rattle.um_vm.specs.Showing.{Shows, IsAnswer}
use Rattle.um_vm.proofs.Shown.{shown_state, shown_end, shown_stuck}
use Rattle.um_vm.proofs.machine.Machine.answer.Goals as goal

pub answer_end-requires : goal.answer_end-requires
answer_end-requires c = subst (λ p. IsTrue (phase_holds c.args.self.now.run.stack.store p)) c.in-Ended.is c.args.self.now.ended

pub returns-in-Going-clause-shows : goal.returns-in-Going-clause-shows
returns-in-Going-clause-shows c = λ code r h.
    let (s, e, k) = shown_state code c.args.self.now r c.in-Going.is h in
    ((s, e), h)

pub returns-in-Ended-clause-shows : goal.returns-in-Ended-clause-shows
returns-in-Ended-clause-shows c = λ code r h.
    let m = c.args.self.now in
    let (o, e, k) = shown_end code m r c.in-Ended.end c.in-Ended.is h in
    subst (λ x. IfOk c.answer_end.result (λ a. IsAnswer a x × Shows code c.answer_end.new.self x)) (sym e) (c.answer_end.ensures.shows code o c.in-Ended.is (subst (Shows code m) e h))

pub returns-in-Stuck-clause-shows : goal.returns-in-Stuck-clause-shows
returns-in-Stuck-clause-shows c = λ code r h. (shown_stuck code c.args.self.now r c.in-Stuck.is h, h)
