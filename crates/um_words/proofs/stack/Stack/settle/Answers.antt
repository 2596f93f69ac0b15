use Rattle.std.proofs.Common.{refl, ◌∷◌, []}
use Rattle.um_words.proofs.Settled.{settled_held, put_carried}
use Rattle.um_words.proofs.stack.Stack.settle.Goals as goal

pub returns-in-Ok-clause-value : goal.returns-in-Ok-clause-value
returns-in-Ok-clause-value c = λ vs v h d. (v, refl, put_carried c.args.self.now.store.cells.items c.args.self.now.words.items c.settle.new.words.items vs c.args.word v c.args.at h d c.in-Ok.ensures.ok)

pub invariant_of-self : goal.invariant_of-self
invariant_of-self c = record { held = settled_held c.settle.result c.args.self.now.store c.args.self.now.words.items (c.args.word ∷ []) c.settle.new.words.items (c.requires.value.0 ∷ []) c.args.at c.args.self.now.held (c.requires.value.1, tt) c.settle.ensures.ok c.settle.ensures.same }
