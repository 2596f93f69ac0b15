use Rattle.std.proofs.Common.{take}
use Rattle.um_machine.specs.Machine.{returns}
use Rattle.um_steps.specs.Going.{state_of}
use Rattle.um_words.proofs.Settled.{value_held}
use Rattle.um_steps.proofs.Acted.{one_taken, one_missing, same_step}
use Rattle.um_steps.proofs.run.Run.leave.Goals as goal

pub give-requires-clause-value : goal.give-requires-clause-value
give-requires-clause-value c = value_held c.args.self.now.stack c.in-Some.at c.in-Some.y c.in-Some.ensures.2

pub returns-in-Some-clause-step : goal.returns-in-Some-clause-step
returns-in-Some-clause-step c = λ code vs h.
    let m = c.args.self.now in
    let (v, d, e) = one_taken m vs h.1 (λ low y. returns code (state_of m vs) y (take m.running.base low) (state_of m vs).callers) c.in-Some.at c.in-Some.y c.in-Some.ensures.0 c.in-Some.ensures.1 c.in-Some.ensures.2 in
    same_step code c.give.new.self _ (returns code (state_of m vs) v (take m.running.base (take c.in-Some.at vs)) (state_of m vs).callers) c.give.result e (c.give.ensures.step code vs v h d)

pub returns-in-None-clause-step : goal.returns-in-None-clause-step
returns-in-None-clause-step c = λ code vs h.
    let m = c.args.self.now in
    one_missing m vs h.1 (λ low y. returns code (state_of m vs) y (take m.running.base low) (state_of m vs).callers) c.in-None.ensures
