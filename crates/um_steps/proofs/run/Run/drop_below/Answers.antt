use Rattle.std.proofs.Common.{◌-◌, ◌++◌, ◌∷◌, [], take, arith}
use Rattle.um_machine.specs.Machine.{pushes}
use Rattle.um_steps.specs.Going.{state_of}
use Rattle.um_steps.proofs.Acted.{slid, not_slid, same_step}
use Rattle.um_steps.proofs.run.Run.drop_below.Goals as goal

pub returns-then-at-self-clause-step : goal.returns-then-at-self-clause-step
returns-then-at-self-clause-step c = λ code vs v h d.
    not_slid c.args.self.now vs h.1 code c.args.at c.args.count v c.requires.base c.if-at-self.true c.requires.place

pub returns-clause-step : goal.returns-clause-step
returns-clause-step c = λ code vs v h d.
    let m = c.args.self.now in
    let low = take (c.args.at - c.args.count) vs in
    same_step code c.go_on.new.self _ (pushes code (state_of m vs) low v) c.go_on.result (slid m vs h.1 code c.args.at c.args.count v (omega arith) c.requires.place)
    (c.go_on.ensures.step code vs (low ++ v ∷ []) (h.0, c.replace.ensures.value vs v h.1 d))
