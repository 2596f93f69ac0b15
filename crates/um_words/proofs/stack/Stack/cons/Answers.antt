use Rattle.std.proofs.Common.{subst, take}
use Rattle.um_tree.specs.Meaning.{longer}
use Rattle.um_cells.specs.Operations.{Gives}
use Rattle.um_cells.proofs.Denoting.{retained_each}
use Rattle.um_cells.proofs.WellFormed.{hold_kept}
use Rattle.um_words.proofs.Settled.{given_some, given_none, placed_as}
use Rattle.um_words.proofs.stack.Stack.cons.Goals as goal

pub invariant_of-self : goal.invariant_of-self
invariant_of-self c = record { held = hold_kept c.args.self.now.store.cells.items c.cons.new.self.cells.items c.args.self.now.words.items c.args.self.now.store.formed c.cons.ensures.keeps c.args.self.now.held }

pub settle-requires-clause-value : goal.settle-requires-clause-value
settle-requires-clause-value c =
    let (v, d) = c.requires.item in
    let (u, k) = c.requires.list in
    let (l, e, x) = given_some c.cons.new.self (longer v u) c.in-Ok-Some.word (subst (λ o. Gives c.cons.new.self (longer v u) o) c.in-Ok-Some.field-0-is (c.in-Ok-Some.ensures.gives v u d k)) in
    (l, x)

pub returns-in-Ok-Some-clause-value : goal.returns-in-Ok-Some-clause-value
returns-in-Ok-Some-clause-value c = λ vs v u h d k.
    let (l, e, x) = given_some c.cons.new.self (longer v u) c.in-Ok-Some.word (subst (λ o. Gives c.cons.new.self (longer v u) o) c.in-Ok-Some.field-0-is (c.in-Ok-Some.ensures.gives v u d k)) in
    placed_as c.settle.new.self (take c.args.at vs) (longer v u) l c.settle.result e (c.settle.ensures.value vs l (retained_each c.args.self.now.store.cells.items c.cons.new.self.cells.items c.cons.ensures.keeps c.args.self.now.words.items vs h) x)

pub returns-in-Ok-None-clause-value : goal.returns-in-Ok-None-clause-value
returns-in-Ok-None-clause-value c = λ vs v u h d k. given_none c.cons.new.self (longer v u) (subst (λ o. Gives c.cons.new.self (longer v u) o) c.in-Ok-None.field-0-is (c.in-Ok-None.ensures.gives v u d k))
