use Rattle.std.proofs.Common.{◌≡◌, refl, ap, ◌∙◌, ℕ, ◌<◌, ◌≤◌, ◌-◌, take, drop, length, option_map, arith}
use Rattle.um_verify.specs.StackShape.{join_items}
use Rattle.um_stacks.specs.FlatShapes.{flat_shape, flat_shapes}
use Rattle.um_stacks.specs.Stacks.{stack_at}
use Rattle.um_verifier.proofs.Taken.{low_cut}
use Rattle.um_verifier.proofs.TakenMany.{list_few, list_is}
use Rattle.um_verifier.proofs.rules.make_list.Goals as goal

pub returns-then-height-n : goal.returns-then-height-n
returns-then-height-n c = λ code body.
    let p = c.args.point.now in
    let st = stack_at p.stacks.now p.stack in
    let few : length st < c.args.n = omega (arith, c.height-height.ensures.height, c.if-height-n.true) in
    list_few p.known.now p.at st code body c.args.n few

pub pushed_list-requires : goal.pushed_list-requires
pushed_list-requires c =
    let p = c.args.point.now in
    low_cut p.known.now (stack_at p.stacks.now p.stack) (stack_at p.stacks.now c.lower-low.result) _ p.low c.lower-low.ensures.part

pub returns : goal.returns
returns c = λ code body.
    let p = c.args.point.now in
    let st = stack_at p.stacks.now p.stack in
    let many : c.args.n ≤ length st = omega (arith, c.height-height.ensures.height, c.if-height-n.false) in
    let cut : stack_at p.stacks.now c.lower-low.result ≡ take (length st - c.args.n) st = c.lower-low.ensures.part ∙ ap (λ (m : ℕ). take (m - c.args.n) st) c.height-height.ensures.height in
    let joined : option_map flat_shape c.joined_items-item.result ≡ join_items (flat_shapes (drop (length st - c.args.n) st)) = c.joined_items-item.ensures ∙ ap (λ (m : ℕ). join_items (flat_shapes (drop (m - c.args.n) st))) c.height-height.ensures.height in
    c.pushed_list.ensures ∙ list_is p.known.now p.at st code body c.args.n (stack_at p.stacks.now c.lower-low.result) (drop (length st - c.args.n) st) c.joined_items-item.result many cut refl joined
