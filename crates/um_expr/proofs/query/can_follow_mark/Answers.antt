use Rattle.std.proofs.Common.{refl, sym, ap, ◌∙◌}
use Rattle.um_operands.specs.ExprOperands.{operand_expr}
use Rattle.um_operands.specs.ExprStack.{frames_of}
use Rattle.um_operands.specs.Standing.{stands}
use Rattle.um_vocabulary.specs.declared.vocabulary.Symbol.TheVariants as symbol
use Rattle.um_forms.specs.declared.token.ExprToken.TheVariants.{Mark as mark}
use Rattle.um_expr.specs.ExprMachine.{mark_after}
use Rattle.um_expr.proofs.Standing.{argument_stands, other_mark}
use Rattle.um_expr.proofs.query.can_follow_mark.Goals as goal

pub returns-in-LeftBracket : goal.returns-in-LeftBracket
returns-in-LeftBracket c at =
    let frames = frames_of c.args.frames.now in
    let t = operand_expr c.args.operand.now in
    c.can_argue-in-LeftBracket.ensures ∙ argument_stands frames t (mark symbol.LeftBracket) at refl
    ∙ ap (λ s. stands (mark_after frames t s at)) (sym c.in-LeftBracket.is)

pub returns-in-LeftBrace : goal.returns-in-LeftBrace
returns-in-LeftBrace c at =
    let frames = frames_of c.args.frames.now in
    let t = operand_expr c.args.operand.now in
    c.can_argue-in-LeftBrace.ensures ∙ argument_stands frames t (mark symbol.LeftBrace) at refl
    ∙ ap (λ s. stands (mark_after frames t s at)) (sym c.in-LeftBrace.is)

pub returns-in_default : goal.returns-in_default
returns-in_default c at =
    let frames = frames_of c.args.frames.now in
    let t = operand_expr c.args.operand.now in
    let other = c.in_default in
    c.can_end_by_mark.ensures t
    ∙ ap stands (other_mark frames t c.args.symbol at other.not-LeftParen other.not-LeftBracket other.not-LeftBrace other.not-Dot)
