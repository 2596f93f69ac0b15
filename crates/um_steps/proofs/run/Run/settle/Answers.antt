use Rattle.std.proofs.Common.{ap, subst, ◌++◌, ◌∷◌, []}
use Rattle.um_machine.specs.Machine.{after, pushes}
use Rattle.um_steps.specs.Going.{state_of}
use Rattle.um_words.specs.Placing.{Placed}
use Rattle.um_steps.proofs.Acted.{same_step, stopped}
use Rattle.um_steps.proofs.run.Run.settle.Goals as goal

pub returns-in-Ok-clause-step : goal.returns-in-Ok-clause-step
returns-in-Ok-clause-step c = λ code vs low r on h.
    let m = c.args.self.now in
    let (v, e, carries) = subst (λ x. Placed m.stack low r x) c.in-Ok.is h in
    same_step code c.go_on.new.self _ (pushes code (state_of m vs) low v) c.go_on.result (ap (λ x. after x (pushes code (state_of m vs) low)) e) (c.go_on.ensures.step code vs (low ++ v ∷ []) (on, carries))

pub returns-in-Err-clause-step : goal.returns-in-Err-clause-step
returns-in-Err-clause-step c = λ code vs low r on h.
    let m = c.args.self.now in
    stopped code m m.stack low r (pushes code (state_of m vs) low) c.in-Err.stop (subst (λ x. Placed m.stack low r x) c.in-Err.is h)
