use Rattle.std.proofs.Common.{arith, ap, ◌∙◌}
use Rattle.um_operands.specs.Ranks.{left_limit}
use Rattle.um_operands.specs.ExprBegun.{reduce}
use Rattle.um_operands.specs.ExprOperands.{operand_expr}
use Rattle.um_operands.specs.ExprStack.{frames_of}
use Rattle.um_operands.specs.ExprFocus.{open_in}
use Rattle.um_operands.specs.declared.begun.Begun.{Begun}
use Rattle.um_forms.proofs.ExprRefusals.{limit_low, sign_refused}
use Rattle.um_forms.proofs.operator.infix_after.Goals as goal

pub returns-in_ok-whole : goal.returns-in_ok-whole
returns-in_ok-whole c =
    let sign = c.args.sign in
    let b : Begun = record { frames = c.whole.new.frames; focus = c.args.begun.now.focus } in
    let left = c.in_ok-left.ensures ∙ ap (λ n. reduce n (open_in c.args.begun.now) (operand_expr c.args.operand)) c.left_limit.ensures in
    sign_refused sign c.args.at (left_limit sign) (open_in c.args.begun.now) (frames_of c.ended.new.frames) b (operand_expr c.args.operand) (operand_expr c.in_ok-left.left)
    c.in_ok-whole.field-0 (limit_low sign) left (omega (arith, c.rank.ensures, c.bound.ensures, c.if-rank-bound.false)) c.in_ok-whole.ensures
