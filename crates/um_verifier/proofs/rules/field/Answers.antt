use Rattle.std.proofs.Common.{◌≡◌, ◌∙◌, ◌∷◌, [], length, Some, None, ap, List}
use Rattle.um_verifier.proofs.Taken.{low_left}
use Rattle.um_verifier.proofs.TakenMany.{field_none, field_is}
use Rattle.um_stacks.specs.declared.flat.FlatShape.{FlatShape}
use Rattle.um_stacks.specs.Stacks.{stack_at}
use Rattle.um_verifier.proofs.rules.field.Goals as goal

pub pushed-requires : goal.pushed-requires
pushed-requires c =
    let p = c.args.point.now in
    low_left p.known.now (stack_at p.stacks.now p.stack) (stack_at p.stacks.now c.in-Some.low) (c.in-Some.y ∷ []) p.low c.in-Some.ensures

pub returns-in-None : goal.returns-in-None
returns-in-None c = λ code body.
    let p = c.args.point.now in
    let st = stack_at p.stacks.now p.stack in
    let none : length st ≡ 0 = ap (λ (s : List FlatShape). length s) c.in-None.ensures in
    field_none p.known.now p.at st code body c.args.k none

pub returns-in-None-part : goal.returns-in-None-part
returns-in-None-part c = λ code body.
    let p = c.args.point.now in
    field_is p.known.now p.at (stack_at p.stacks.now p.stack) code body c.args.k (stack_at p.stacks.now c.in-Some.low) c.in-Some.y c.part.result None c.in-Some.ensures c.in-None-part.is c.part.ensures

pub returns-in-Some-part : goal.returns-in-Some-part
returns-in-Some-part c = λ code body.
    let p = c.args.point.now in
    c.pushed.ensures ∙ field_is p.known.now p.at (stack_at p.stacks.now p.stack) code body c.args.k (stack_at p.stacks.now c.in-Some.low) c.in-Some.y c.part.result (Some c.in-Some-part.part) c.in-Some.ensures c.in-Some-part.is c.part.ensures
