use Rattle.std.proofs.Common.{◌≡◌, sym, ap, ◌∙◌, ◌∷◌, [], Bool, length, List}
use Rattle.um_verify.specs.Rules.{need}
use Rattle.um_stacks.specs.FlatShapes.{flat_shape, flat_shapes}
use Rattle.um_verifier.proofs.Taken.{low_left}
use Rattle.um_verifier.proofs.TakenMany.{split_none, split_no_list, split_is, go_split}
use Rattle.um_stacks.specs.declared.flat.FlatShape.{FlatShape}
use Rattle.um_stacks.specs.Stacks.{stack_at}
use Rattle.um_verifier.proofs.rules.split.Goals as goal

pub returns-in-None : goal.returns-in-None
returns-in-None c = λ code body.
    let p = c.args.point.now in
    let st = stack_at p.stacks.now p.stack in
    let none : length st ≡ 0 = ap (λ (s : List FlatShape). length s) c.in-None.ensures in
    split_none p.known.now p.at st code body c.args.t none

pub returns-in-None-items : goal.returns-in-None-items
returns-in-None-items c = λ code body.
    let p = c.args.point.now in
    split_no_list p.known.now p.at (stack_at p.stacks.now p.stack) code body c.args.t (stack_at p.stacks.now c.in-Some.low) c.in-Some.y c.items.result c.in-Some.ensures c.in-None-items.is c.items.ensures

pub returns-then-not-are_low : goal.returns-then-not-are_low
returns-then-not-are_low c = λ code body.
    let p = c.args.point.now in
    let st = stack_at p.stacks.now p.stack in
    let known = p.known.now in
    let low = stack_at p.stacks.now c.in-Some.low in
    let is_low = low_left known st low (c.in-Some.y ∷ []) p.low c.in-Some.ensures in
    ap (λ (b : Bool). need b (go_split known p.at st code body c.args.t (flat_shapes low) (flat_shape c.in-Some-items.items) (flat_shape c.in-Some.y))) (sym c.if-not-are_low.true)
    ∙ split_is known p.at st code body c.args.t low c.in-Some.y c.in-Some-items.items c.items.result c.are_low.result c.in-Some.ensures c.in-Some-items.is c.items.ensures is_low c.are_low.ensures

pub returns-else-not-are_low : goal.returns-else-not-are_low
returns-else-not-are_low c = λ code body.
    let p = c.args.point.now in
    let st = stack_at p.stacks.now p.stack in
    let known = p.known.now in
    let low = stack_at p.stacks.now c.in-Some.low in
    let is_low = low_left known st low (c.in-Some.y ∷ []) p.low c.in-Some.ensures in
    ap (λ (b : Bool). need b (go_split known p.at st code body c.args.t (flat_shapes low) (flat_shape c.in-Some-items.items) (flat_shape c.in-Some.y))) (sym c.if-not-are_low.false)
    ∙ split_is known p.at st code body c.args.t low c.in-Some.y c.in-Some-items.items c.items.result c.are_low.result c.in-Some.ensures c.in-Some-items.is c.items.ensures is_low c.are_low.ensures
