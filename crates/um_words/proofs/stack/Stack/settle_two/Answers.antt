use Rattle.std.proofs.Common.{◌∷◌, []}
use Rattle.std.proofs.lemmas.Result.{on_ok_weaker}
use Rattle.um_words.proofs.Settled.{settled_held, both_carried}
use Rattle.um_words.proofs.stack.Stack.settle_two.Goals as goal

pub returns-clause-values : goal.returns-clause-values
returns-clause-values c = λ vs v u h d k. on_ok_weaker c.settle_two.result (both_carried c.args.self.now.store.cells.items c.args.self.now.words.items c.settle_two.new.words.items vs c.args.first c.args.second v u c.args.at h d k) c.settle_two.ensures.ok

pub invariant_of-self : goal.invariant_of-self
invariant_of-self c = record { held = settled_held c.settle_two.result c.args.self.now.store c.args.self.now.words.items (c.args.first ∷ c.args.second ∷ []) c.settle_two.new.words.items (c.requires.first.0 ∷ c.requires.second.0 ∷ []) c.args.at c.args.self.now.held (c.requires.first.1, (c.requires.second.1, tt)) c.settle_two.ensures.ok c.settle_two.ensures.same }
