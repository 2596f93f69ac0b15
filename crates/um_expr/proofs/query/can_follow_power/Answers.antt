use Rattle.std.proofs.Common.{sym, ap, ◌∙◌}
use Rattle.um_unit_texts.specs.UnitTokens.{unit_token}
use Rattle.um_unit_texts.specs.UnitMachine.{power_in}
use Rattle.um_operands.specs.ExprOperands.{operand_expr}
use Rattle.um_operands.specs.ExprStack.{frames_of}
use Rattle.um_operands.specs.Standing.{stands}
use Rattle.um_expr.proofs.Standing.{power_alike, power_refused}
use Rattle.um_expr.proofs.query.can_follow_power.Goals as goal

pub returns-then-is_glued_less : goal.returns-then-is_glued_less
returns-then-is_glued_less c at =
    let k = c.args.kind.now in
    power_refused (frames_of c.args.frames.now) (operand_expr c.args.operand.now) k at c.args.glued (power_in (unit_token k))
    (sym c.is_glued_less.ensures ∙ c.if-is_glued_less.true)

pub returns-else-is_glued_less : goal.returns-else-is_glued_less
returns-else-is_glued_less c at =
    let k = c.args.kind.now in
    c.can_follow.ensures at
    ∙ ap stands (power_alike (frames_of c.args.frames.now) (operand_expr c.args.operand.now) k at c.args.glued (power_in (unit_token k))
    (sym c.is_glued_less.ensures ∙ c.if-is_glued_less.false))
