use Rattle.std.proofs.Common.{◌∙◌, ◌<◌, ◌∷◌, [], length}
use Rattle.um_verifier.proofs.Taken.{cons_none, cons_no_list, cons_is, low_left}
use Rattle.um_stacks.specs.Stacks.{stack_at}
use Rattle.um_verifier.proofs.rules.cons.Goals as goal

pub pushed_list-requires : goal.pushed_list-requires
pushed_list-requires c =
    let p = c.args.point.now in
    low_left p.known.now (stack_at p.stacks.now p.stack) (stack_at p.stacks.now c.in-Some.low) (c.in-Some.x ∷ c.in-Some.y ∷ []) p.low c.in-Some.ensures

pub returns-in-None : goal.returns-in-None
returns-in-None c = λ code body.
    let p = c.args.point.now in
    let st = stack_at p.stacks.now p.stack in
    let few : length st < 2 = c.in-None.ensures in
    cons_none p.known.now p.at st code body few

pub returns-in-None-items : goal.returns-in-None-items
returns-in-None-items c = λ code body.
    let p = c.args.point.now in
    cons_no_list p.known.now p.at (stack_at p.stacks.now p.stack) code body (stack_at p.stacks.now c.in-Some.low) c.in-Some.x c.in-Some.y c.items.result c.in-Some.ensures c.in-None-items.is c.items.ensures

pub returns-in-Some-items : goal.returns-in-Some-items
returns-in-Some-items c = λ code body.
    let p = c.args.point.now in
    c.pushed_list.ensures ∙ cons_is p.known.now p.at (stack_at p.stacks.now p.stack) code body (stack_at p.stacks.now c.in-Some.low) c.in-Some.x c.in-Some.y c.in-Some-items.items c.items.result c.join.result c.in-Some.ensures c.in-Some-items.is c.items.ensures c.join.ensures
