use Rattle.std.proofs.Common.{refl}
use Rattle.um_words.proofs.Settled.{pushed_held, push_carried}
use Rattle.um_words.proofs.stack.Stack.push.Goals as goal

pub returns-in-Ok-clause-value : goal.returns-in-Ok-clause-value
returns-in-Ok-clause-value c = λ vs v h d. (v, refl, push_carried c.args.self.now.store.cells.items c.args.self.now.words.items c.append.new.items.items vs c.args.word v h d c.in-Ok.ensures.ok)

pub invariant_of-self : goal.invariant_of-self
invariant_of-self c = record { held = pushed_held c.append.result c.args.self.now.store c.args.self.now.words.items c.append.new.items.items c.args.word c.requires c.args.self.now.held c.append.ensures.ok c.append.ensures.same }
