use Rattle.std.proofs.Common.{subst}
use Rattle.um_cells.specs.Operations.{IsOutcome}
use Rattle.um_words.proofs.Settled.{value_outcome, trap_outcome, wrong_outcome}
use Rattle.um_words.proofs.stack.Stack.put.Goals as goal

pub replace-requires-clause-value : goal.replace-requires-clause-value
replace-requires-clause-value c =
    let s = c.args.self.now.store in
    let (v, e, d) = value_outcome s c.requires.value.0 c.in-Value.word (subst (λ x. IsOutcome s c.requires.value.0 x) c.in-Value.is c.requires.value.1) in
    (v, d)

pub returns-in-Value-clause-value : goal.returns-in-Value-clause-value
returns-in-Value-clause-value c = λ vs r h k.
    let s = c.args.self.now.store in
    let (v, e, d) = value_outcome s r c.in-Value.word (subst (λ x. IsOutcome s r x) c.in-Value.is k) in
    (v, e, c.replace.ensures.value vs v h d)

pub returns-in-Trap-clause-value : goal.returns-in-Trap-clause-value
returns-in-Trap-clause-value c = λ vs r h k.
    let s = c.args.self.now.store in
    trap_outcome s r c.in-Trap.trap (subst (λ x. IsOutcome s r x) c.in-Trap.is k)

pub returns-in-Wrong-clause-value : goal.returns-in-Wrong-clause-value
returns-in-Wrong-clause-value c = λ vs r h k.
    let s = c.args.self.now.store in
    wrong_outcome s r (subst (λ x. IsOutcome s r x) c.in-Wrong.is k)
