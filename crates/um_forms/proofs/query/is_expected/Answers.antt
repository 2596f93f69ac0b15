use Rattle.std.proofs.Common.{false, cond, is_some, sym, ap, ◌∙◌}
use Rattle.um_unit_texts.specs.UnitTokens.{unit_token}
use Rattle.um_unit_texts.specs.UnitMachine.{power_in}
use Rattle.um_operands.specs.ExprFocus.{view_expected}
use Rattle.um_operands.specs.Standing.{stands}
use Rattle.um_forms.specs.ExprForms.{inside}
use Rattle.um_forms.specs.ExprTokens.{expr_token}
use Rattle.um_forms.proofs.Standing.{digits_stand, some_pos}
use Rattle.um_forms.proofs.query.is_expected.Goals as goal

pub returns-then-expects_digits : goal.returns-then-expects_digits
returns-then-expects_digits c frames at =
    let wanted = view_expected c.args.wanted.now in
    let power = power_in (unit_token c.args.kind.now) in
    c.is_some.ensures ∙ ap is_some (sym c.written_power.ensures) ∙ some_pos power
    ∙ ap (λ b. cond b (is_some power) false) (sym c.if-expects_digits.true ∙ c.expects_digits.ensures)
    ∙ digits_stand frames wanted c.in-Number.value at power
    ∙ ap (λ k. stands (inside frames wanted (expr_token k) at power)) (sym c.in-Number.is)

pub returns-else-expects_digits : goal.returns-else-expects_digits
returns-else-expects_digits c frames at =
    let wanted = view_expected c.args.wanted.now in
    let power = power_in (unit_token c.args.kind.now) in
    c.if-expects_digits.false
    ∙ ap (λ b. cond b (is_some power) false) (sym c.if-expects_digits.false ∙ c.expects_digits.ensures)
    ∙ digits_stand frames wanted c.in-Number.value at power
    ∙ ap (λ k. stands (inside frames wanted (expr_token k) at power)) (sym c.in-Number.is)
