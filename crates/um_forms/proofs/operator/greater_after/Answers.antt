use Rattle.std.proofs.Common.{arith}
use Rattle.um_operands.specs.ExprOperands.{operand_expr}
use Rattle.um_operands.specs.ExprStack.{frames_of}
use Rattle.um_operands.specs.ExprFocus.{open_in}
use Rattle.um_operands.specs.declared.begun.Begun.{Begun}
use Rattle.um_forms.proofs.ExprRefusals.{greater_refused}
use Rattle.um_forms.proofs.operator.greater_after.Goals as goal

pub returns-in_ok-whole : goal.returns-in_ok-whole
returns-in_ok-whole c =
    let b : Begun = record { frames = c.whole.new.frames; focus = c.args.begun.now.focus } in
    greater_refused c.args.at (open_in c.args.begun.now) (frames_of c.ended.new.frames) b (operand_expr c.args.operand) (operand_expr c.in_ok-left.left)
    c.in_ok-whole.field-0 c.in_ok-left.ensures (omega (arith, c.bound.ensures, c.if-bound-gt6.false)) c.in_ok-whole.ensures
