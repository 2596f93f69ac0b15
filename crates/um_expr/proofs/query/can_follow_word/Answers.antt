use Rattle.std.proofs.Common.{true, false, None, refl, sym, ap, ◌∙◌, inl, inr}
use Rattle.um_operands.specs.ExprOperands.{operand_expr}
use Rattle.um_operands.specs.ExprStack.{frames_of}
use Rattle.um_operands.specs.Standing.{stands}
use Rattle.um_forms.specs.declared.token.ExprToken.TheVariants.{Truth as truth}
use Rattle.um_forms.specs.ExprTokens.{keyword_token}
use Rattle.um_expr.specs.ExprMachine.{after}
use Rattle.um_expr.proofs.Standing.{argument_stands}
use Rattle.um_expr.proofs.query.can_follow_word.Goals as goal

pub returns-in-None : goal.returns-in-None
returns-in-None c at glued =
    let frames = frames_of c.args.frames.now in
    let t = operand_expr c.args.operand.now in
    elim (c.plain_word.ensures.none c.in-None.is) [
      | inl is_true ↦
          c.can_argue.ensures ∙ argument_stands frames t (truth true) at refl
          ∙ ap (λ k. stands (after frames t (keyword_token k) at glued None)) (sym is_true)
      | inr is_false ↦
          c.can_argue.ensures ∙ argument_stands frames t (truth false) at refl
          ∙ ap (λ k. stands (after frames t (keyword_token k) at glued None)) (sym is_false)
    ]
