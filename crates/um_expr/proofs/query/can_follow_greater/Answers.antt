use Rattle.std.proofs.Common.{◌∷◌, refl, sym, ap, ◌∙◌}
use Rattle.um_tree.specs.declared.expression.Sign.TheVariants as compare
use Rattle.um_operands.specs.declared.infix.Infix.TheVariants as between
use Rattle.um_operands.specs.ExprBegun.{InRight}
use Rattle.um_operands.specs.Standing.{stands}
use Rattle.um_expr.proofs.Standing.{greater_equal, greater_other}
use Rattle.um_expr.proofs.query.can_follow_greater.Goals as goal

pub returns-then-is_equal : goal.returns-then-is_equal
returns-then-is_equal c frames place left at =
    greater_equal frames place left c.args.kind.now at c.args.glued (sym c.is_equal.ensures ∙ c.if-is_equal.true)

pub returns-else-is_equal : goal.returns-else-is_equal
returns-else-is_equal c frames place left at =
    c.can_begin.ensures (InRight place (between.Compare compare.Gt) left ∷ frames) at refl refl
    ∙ ap stands (greater_other frames place left c.args.kind.now at c.args.glued (sym c.is_equal.ensures ∙ c.if-is_equal.false))
