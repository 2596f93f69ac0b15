use Rattle.std.proofs.Common.{◌∷◌, []}
use Rattle.um_words.proofs.Settled.{put_held, put_carried}
use Rattle.um_words.proofs.stack.Stack.replace.Goals as goal

pub returns-clause-value : goal.returns-clause-value
returns-clause-value c = λ vs v h d. put_carried c.args.self.now.store.cells.items c.args.self.now.words.items c.replace.new.words.items vs c.args.word v c.args.at h d c.replace.ensures

pub invariant_of-self : goal.invariant_of-self
invariant_of-self c = record { held = put_held c.args.self.now.store c.args.self.now.words.items (c.args.word ∷ []) c.replace.new.words.items (c.requires.value.0 ∷ []) c.args.at c.args.self.now.held (c.requires.value.1, tt) c.replace.ensures }
