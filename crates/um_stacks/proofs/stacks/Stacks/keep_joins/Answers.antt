use Rattle.std.proofs.Common.{◌≡◌, sym, ap, subst, ◌<◌, List, length, Some, arith}
use Rattle.um_verify.specs.StackShape.{join_all}
use Rattle.um_stacks.specs.declared.flat.FlatShape.{FlatShape}
use Rattle.um_stacks.specs.Stacks.{stack_at, shapes_at}
use Rattle.um_stacks.proofs.KeptJoins.{parts_join}
use Rattle.um_stacks.proofs.stacks.Stacks.keep_joins.Goals as goal

pub keep_join-requires : goal.keep_join-requires
keep_join-requires c =
    let s = c.loop-height.self in
    let same : s ≡ c.args.self.now = c.loop-height.invariant in
    let many : length s ≡ length c.args.self.now = ap (λ (s : List (List FlatShape)). length s) same in
    let number : c.lower-part.result < length s = omega (arith, c.lower-part.ensures.number, many, c.requires.number) in
    let whole : Some (shapes_at s c.args.join) ≡ join_all (shapes_at s c.args.one) (shapes_at s c.args.other) = subst (λ (s : List (List FlatShape)). Some (shapes_at s c.args.join) ≡ join_all (shapes_at s c.args.one) (shapes_at s c.args.other)) (sym same) c.requires.join in
    (number, parts_join c.loop-height.height (stack_at s c.args.one) (stack_at s c.args.other) (stack_at s c.args.join) (stack_at s c.lower-low.result) (stack_at s c.lower-under.result) (stack_at s c.lower-part.result) whole c.lower-low.ensures.part c.lower-under.ensures.part c.lower-part.ensures.part)
