use Rattle.std.proofs.Common.{◌≡◌, sym, subst, ◌≤◌, List, arith}
use Rattle.um_stacks.specs.declared.flat.FlatShape.{FlatShape}
use Rattle.um_stacks.specs.Stacks.{stack_at, ClashUpTo}
use Rattle.um_stacks.proofs.KeptJoins.{parts_clash}
use Rattle.um_stacks.proofs.stacks.Stacks.keep_clashes.Goals as goal

pub keep_join-requires : goal.keep_join-requires
keep_join-requires c =
    let s = c.loop-height.self in
    let same : s ≡ c.args.self.now = c.loop-height.invariant in
    let clash : ClashUpTo s c.args.one c.args.other c.args.from = subst (λ (s : List (List FlatShape)). ClashUpTo s c.args.one c.args.other c.args.from) (sym same) c.requires in
    let higher : c.args.from ≤ c.loop-height.height = omega (arith, c.loop-height-test.true) in
    parts_clash c.args.from c.loop-height.height (stack_at s c.args.one) (stack_at s c.args.other) (stack_at s c.lower-low.result) (stack_at s c.lower-under.result) clash higher c.lower-low.ensures.part c.lower-under.ensures.part
