use Rattle.std.proofs.Common.{take}
use Rattle.um_machine.specs.Machine.{after, pushes}
use Rattle.um_words.specs.Applying.{applied}
use Rattle.um_steps.specs.Going.{state_of}
use Rattle.um_words.proofs.Settled.{value_held}
use Rattle.um_steps.proofs.Acted.{one_taken, one_missing, same_step}
use Rattle.um_steps.proofs.run.Run.apply.Goals as goal

pub put-done-requires-clause-value : goal.put-done-requires-clause-value
put-done-requires-clause-value c =
    let stack = c.args.self.now.stack in
    let (v, d) = value_held stack c.in-Some.at c.in-Some.y c.in-Some.ensures.2 in
    (applied c.args.op v, c.apply-value.ensures v d)

pub returns-in-Some-clause-step : goal.returns-in-Some-clause-step
returns-in-Some-clause-step c = λ code vs h.
    let m = c.args.self.now in
    let (v, d, e) = one_taken m vs h.1 (λ low y. after (applied c.args.op y) (pushes code (state_of m vs) low)) c.in-Some.at c.in-Some.y c.in-Some.ensures.0 c.in-Some.ensures.1 c.in-Some.ensures.2 in
    same_step code c.settle.new.self _ (after (applied c.args.op v) (pushes code (state_of m vs) (take c.in-Some.at vs))) c.settle.result e
    (c.settle.ensures.step code vs (take c.in-Some.at vs) (applied c.args.op v) h.0 (c.put-done.ensures.value vs (applied c.args.op v) h.1 (c.apply-value.ensures v d)))

pub returns-in-None-clause-step : goal.returns-in-None-clause-step
returns-in-None-clause-step c = λ code vs h.
    let m = c.args.self.now in
    one_missing m vs h.1 (λ low y. after (applied c.args.op y) (pushes code (state_of m vs) low)) c.in-None.ensures
