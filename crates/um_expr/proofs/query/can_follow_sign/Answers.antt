use Rattle.std.proofs.Common.{None, sym, ap, ◌∙◌}
use Rattle.um_operands.specs.ExprOperands.{operand_expr}
use Rattle.um_operands.specs.ExprStack.{frames_of}
use Rattle.um_operands.specs.Standing.{stands}
use Rattle.um_expr.specs.ExprMachine.{after}
use Rattle.um_expr.proofs.Standing.{mark_token}
use Rattle.um_expr.proofs.query.can_follow_sign.Goals as goal

pub returns-in-None : goal.returns-in-None
returns-in-None c at =
    let is = mark_token c.args.symbol (c.plain_operator.ensures.none c.in-None.is) c.in_default.not-Less c.in_default.not-Greater in
    c.can_follow_mark.ensures at
    ∙ ap (λ w. stands (after (frames_of c.args.frames.now) (operand_expr c.args.operand.now) w at c.args.glued None)) (sym is)
