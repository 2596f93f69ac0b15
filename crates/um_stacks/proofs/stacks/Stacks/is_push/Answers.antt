use Rattle.std.proofs.Common.{◌≡◌, ap, ◌∙◌, ◌++◌, ◌∷◌, []}
use Rattle.std.proofs.lemmas.List.{map_push}
use Rattle.um_stacks.specs.FlatShapes.{flat_shape, flat_shapes}
use Rattle.um_stacks.specs.Stacks.{shapes_at, stack_at}
use Rattle.um_stacks.proofs.SameShapes.{same_push}
use Rattle.um_stacks.proofs.stacks.Stacks.is_push.Goals as goal

pub returns-else-node-below-clause-stack : goal.returns-else-node-below-clause-stack
returns-else-node-below-clause-stack c =
    let s = c.args.self.now in
    let node = c.in-Some.node in
    let whole : shapes_at s c.args.stack ≡ shapes_at s c.args.below ++ flat_shape node.top ∷ [] = ap flat_shapes c.in-Some.ensures.whole ∙ map_push flat_shape (stack_at s node.below) node.top ∙ ap (λ k. shapes_at s k ++ flat_shape node.top ∷ []) c.if-node-below.false in
    same_push c.are_same.result (flat_shape node.top) (flat_shape c.args.top) (shapes_at s c.args.stack) (shapes_at s c.args.below) node.top.lists c.args.stack whole c.are_same.ensures
