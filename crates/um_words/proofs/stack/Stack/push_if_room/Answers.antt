use Rattle.std.proofs.Common.{Result, Ok}
use Rattle.um_words.specs.declared.stop.Stop.{Stop}
use Rattle.um_words.proofs.Settled.{pushed_held, push_carried}
use Rattle.um_words.proofs.stack.Stack.push_if_room.Goals as goal

pub invariant_of-self : goal.invariant_of-self
invariant_of-self c =
    let done : Result (Unit {0}) Stop = Ok tt in
    record { held = pushed_held done c.args.self.now.store c.args.self.now.words.items c.push_reserved.new.self.items c.args.word c.requires c.args.self.now.held c.push_reserved.ensures.items tt }

pub returns-then-len-capacity-clause-value : goal.returns-then-len-capacity-clause-value
returns-then-len-capacity-clause-value c = λ vs h v d. push_carried c.args.self.now.store.cells.items c.args.self.now.words.items c.push_reserved.new.self.items vs c.args.word v h d c.push_reserved.ensures.items
