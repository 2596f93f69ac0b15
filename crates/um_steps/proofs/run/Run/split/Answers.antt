use Rattle.std.proofs.Common.{take}
use Rattle.um_steps.specs.Going.{state_of}
use Rattle.um_steps.specs.Stepping.{parts}
use Rattle.um_words.proofs.Settled.{value_held}
use Rattle.um_steps.proofs.Acted.{one_taken, one_missing, same_step}
use Rattle.um_steps.proofs.run.Run.split.Goals as goal

pub take_apart-requires-clause-list : goal.take_apart-requires-clause-list
take_apart-requires-clause-list c =
    let (v, d) = value_held c.args.self.now.stack c.in-Some.at c.in-Some.y c.in-Some.ensures.2 in
    (v, c.split-list.ensures v d)

pub returns-in-Some-clause-step : goal.returns-in-Some-clause-step
returns-in-Some-clause-step c = λ code vs h.
    let m = c.args.self.now in
    let (v, d, e) = one_taken m vs h.1 (parts code (state_of m vs) c.args.t) c.in-Some.at c.in-Some.y c.in-Some.ensures.0 c.in-Some.ensures.1 c.in-Some.ensures.2 in
    same_step code c.take_apart.new.self _ (parts code (state_of m vs) c.args.t (take c.in-Some.at vs) v) c.take_apart.result e (c.take_apart.ensures.step code vs v h (c.split-list.ensures v d))

pub returns-in-None-clause-step : goal.returns-in-None-clause-step
returns-in-None-clause-step c = λ code vs h.
    let m = c.args.self.now in
    one_missing m vs h.1 (parts code (state_of m vs) c.args.t) c.in-None.ensures
