use Rattle.std.proofs.Common.{refl, ◌∷◌, ◌++◌, [], List, Some}
use Rattle.um_stacks.specs.Stacks.{stack_at, IsPassed}
use Rattle.um_stacks.specs.declared.flat.FlatShape.{FlatShape}
use Rattle.um_stacks.proofs.Passed.{passed_top, passed_both}
use Rattle.um_stacks.proofs.stacks.Stacks.jump_above.Goals as goal

pub returns-then-height-middle-clause-passed : goal.returns-then-height-middle-clause-passed
returns-then-height-middle-clause-passed c =
    let low : List FlatShape = stack_at c.args.self.now c.args.below in
    let middle : List FlatShape = stack_at c.args.self.now c.jump-first.result.to in
    let whole : List FlatShape = low ++ c.args.top ∷ [] in
    let upper : IsPassed middle whole c.joined-upper.result =
    passed_both middle low whole c.jump-first.result.passed (Some c.args.top) c.joined-upper.result c.jump-first.ensures.passed (passed_top low whole c.args.top refl) c.joined-upper.ensures in
    passed_both (stack_at c.args.self.now c.jump-second.result.to) middle whole c.jump-second.result.passed c.joined-upper.result c.joined.result c.jump-second.ensures.passed upper c.joined.ensures

pub returns-else-height-middle-clause-passed : goal.returns-else-height-middle-clause-passed
returns-else-height-middle-clause-passed c =
    passed_top (stack_at c.args.self.now c.args.below) (stack_at c.args.self.now c.args.below ++ c.args.top ∷ []) c.args.top refl
