use Rattle.std.proofs.Common.{sym, ◌∙◌}
use Rattle.um_stacks.specs.Stacks.{stack_at}
use Rattle.um_verifier.proofs.Taken.{load_none, load_is}
use Rattle.um_verifier.proofs.rules.load.Goals as goal

pub returns-in-None : goal.returns-in-None
returns-in-None c = λ code body.
    let p = c.args.point.now in
    let st = stack_at p.stacks.now p.stack in
    load_none p.known.now p.at st code body c.args.k (sym c.at.ensures ∙ c.in-None.is)

pub returns-in-Some : goal.returns-in-Some
returns-in-Some c = λ code body.
    let p = c.args.point.now in
    let st = stack_at p.stacks.now p.stack in
    c.pushed.ensures ∙ load_is p.known.now p.at st code body c.args.k c.in-Some.shape (sym c.at.ensures ∙ c.in-Some.is)
