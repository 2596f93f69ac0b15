use Rattle.std.proofs.Common.{sym, subst, ◌∙◌}
use Rattle.um_stacks.specs.Stacks.{stack_at, IsShared}
use Rattle.um_stacks.specs.declared.join.Shared.{Shared}
use Rattle.um_stacks.proofs.JoinedStacks.{lengths_apart}
use Rattle.um_stacks.proofs.KeptJoins.{whole_clash}
use Rattle.um_stacks.proofs.stacks.Stacks.join_known.Goals as goal

pub returns-then-height-clause-join : goal.returns-then-height-clause-join
returns-then-height-clause-join c =
    lengths_apart (stack_at c.args.self.now c.args.one) (stack_at c.args.self.now c.args.other) (λ e. c.if-height.true (c.height.ensures.height ∙ e ∙ sym c.height-2.ensures.height))

pub returns-in_ok-keep_clashes-in-Clash-clause-join : goal.returns-in_ok-keep_clashes-in-Clash-clause-join
returns-in_ok-keep_clashes-in-Clash-clause-join c =
    whole_clash c.in-Clash.height (stack_at c.args.self.now c.args.one) (stack_at c.args.self.now c.args.other) (subst (λ (s : Shared). IsShared c.args.self.now c.args.one c.args.other c.shared.new.passed.items s) c.in-Clash.is c.in_ok-height.ensures)
