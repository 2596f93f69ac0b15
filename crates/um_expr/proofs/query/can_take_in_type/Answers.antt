use Rattle.std.proofs.Common.{sym, ◌∙◌}
use Rattle.um_types.specs.TypeMachine.{type_act, type_finish}
use Rattle.um_types.specs.TypeView.{type_state}
use Rattle.um_forms.specs.ExprTokens.{expr_token}
use Rattle.um_expr.specs.ExprMachine.{type_ends}
use Rattle.um_expr.proofs.Standing.{type_on, type_over, type_found, type_open}
use Rattle.um_expr.proofs.query.can_take_in_type.Goals as goal

pub returns-then-can_take : goal.returns-then-can_take
returns-then-can_take c frames place at =
    let s = type_state c.args.ty.now in
    let ended = type_ends frames place (type_finish s) (expr_token c.args.kind.now) in
    c.if-can_take.true ∙ type_on frames place (type_act s c.args.kind.now at) ended (sym c.if-can_take.true ∙ c.can_take.ensures at)

pub returns-then-is_whole : goal.returns-then-is_whole
returns-then-is_whole c frames place at =
    let s = type_state c.args.ty.now in
    let token = expr_token c.args.kind.now in
    let ended = type_ends frames place (type_finish s) token in
    type_found frames place (type_finish s) token c.ends_type.result (sym c.if-is_whole.true ∙ c.is_whole.ensures) (c.ends_type.ensures frames place)
    ∙ type_over frames place (type_act s c.args.kind.now at) ended (sym c.if-can_take.false ∙ c.can_take.ensures at)

pub returns-else-is_whole : goal.returns-else-is_whole
returns-else-is_whole c frames place at =
    let s = type_state c.args.ty.now in
    let token = expr_token c.args.kind.now in
    let ended = type_ends frames place (type_finish s) token in
    c.if-is_whole.false ∙ type_open frames place (type_finish s) token (sym c.if-is_whole.false ∙ c.is_whole.ensures)
    ∙ type_over frames place (type_act s c.args.kind.now at) ended (sym c.if-can_take.false ∙ c.can_take.ensures at)
