use Rattle.std.proofs.Common.{◌+◌, take}
use Rattle.um_machine.specs.Machine.{by_truth, goes}
use Rattle.um_steps.specs.Going.{state_of}
use Rattle.um_steps.proofs.Acted.{one_taken, one_missing, same_step}
use Rattle.um_steps.proofs.run.Run.jump_if_not.Goals as goal

pub returns-in-Some-clause-step : goal.returns-in-Some-clause-step
returns-in-Some-clause-step c = λ code vs h.
    let m = c.args.self.now in
    let (v, d, e) = one_taken m vs h.1 (λ low y. by_truth y (goes code (state_of m vs) low (m.at + 1)) (goes code (state_of m vs) low c.args.t)) c.in-Some.at c.in-Some.y c.in-Some.ensures.0 c.in-Some.ensures.1 c.in-Some.ensures.2 in
    same_step code c.branch-self.new.self _ (by_truth v (goes code (state_of m vs) (take c.in-Some.at vs) (m.at + 1)) (goes code (state_of m vs) (take c.in-Some.at vs) c.args.t)) c.branch-self.result e
    (c.branch-self.ensures.step code vs v h (c.truth.ensures m.stack.store v d))

pub returns-in-None-clause-step : goal.returns-in-None-clause-step
returns-in-None-clause-step c = λ code vs h.
    let m = c.args.self.now in
    one_missing m vs h.1 (λ low y. by_truth y (goes code (state_of m vs) low (m.at + 1)) (goes code (state_of m vs) low c.args.t)) c.in-None.ensures
