use Rattle.std.proofs.Common.{take}
use Rattle.um_tree.specs.Meaning.{compared}
use Rattle.um_machine.specs.Machine.{after, pushes}
use Rattle.um_steps.specs.Going.{state_of}
use Rattle.um_words.proofs.Settled.{value_held}
use Rattle.um_steps.proofs.Acted.{two_taken, two_missing, same_step}
use Rattle.um_steps.proofs.run.Run.compare.Goals as goal

pub put-done-requires-clause-value : goal.put-done-requires-clause-value
put-done-requires-clause-value c =
    let stack = c.args.self.now.stack in
    let (v, d) = value_held stack c.in-Some.at c.in-Some.x c.in-Some.ensures.2 in
    let (u, k) = value_held stack _ c.in-Some.y c.in-Some.ensures.3 in
    (compared c.args.sign v u, c.compare.ensures stack.store v u d k)

pub returns-in-Some-clause-step : goal.returns-in-Some-clause-step
returns-in-Some-clause-step c = λ code vs h.
    let m = c.args.self.now in
    let (v, u, p, q, e) = two_taken m vs h.1 (λ low x y. after (compared c.args.sign x y) (pushes code (state_of m vs) low)) c.in-Some.at c.in-Some.x c.in-Some.y c.in-Some.ensures.0 c.in-Some.ensures.1 c.in-Some.ensures.2 c.in-Some.ensures.3 in
    same_step code c.settle.new.self _ (after (compared c.args.sign v u) (pushes code (state_of m vs) (take c.in-Some.at vs))) c.settle.result e
    (c.settle.ensures.step code vs (take c.in-Some.at vs) (compared c.args.sign v u) h.0 (c.put-done.ensures.value vs (compared c.args.sign v u) h.1 (c.compare.ensures m.stack.store v u p q)))

pub returns-in-None-clause-step : goal.returns-in-None-clause-step
returns-in-None-clause-step c = λ code vs h.
    let m = c.args.self.now in
    two_missing m vs h.1 (λ low x y. after (compared c.args.sign x y) (pushes code (state_of m vs) low)) c.in-None.ensures
