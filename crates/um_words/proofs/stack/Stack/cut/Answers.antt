use Rattle.std.proofs.Common.{sym, subst, take}
use Rattle.um_cells.specs.Denotes.{DenoteEach}
use Rattle.um_words.proofs.Taken.{denote_take}
use Rattle.um_words.proofs.Settled.{cut_held}
use Rattle.um_words.proofs.stack.Stack.cut.Goals as goal

pub returns-clause-values : goal.returns-clause-values
returns-clause-values c = λ vs h.
    let s = c.args.self.now.store.cells.items in
    subst (λ ws. DenoteEach s ws (take c.args.at vs)) (sym c.truncate.ensures.items) (denote_take s c.args.at c.args.self.now.words.items vs h)

pub invariant_of-self : goal.invariant_of-self
invariant_of-self c = record { held = cut_held c.args.self.now.store c.args.self.now.words.items c.truncate.new.self.items c.args.at c.args.self.now.held c.truncate.ensures.items }
