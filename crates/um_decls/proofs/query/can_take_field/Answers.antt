use Rattle.std.proofs.Common.{◌∙◌}
use Rattle.um_types.specs.TypeMachine.{type_act, type_finish}
use Rattle.um_types.specs.TypeView.{type_state}
use Rattle.um_forms.specs.ExprTokens.{expr_token}
use Rattle.um_decls.proofs.DeclStanding.{field_stands}
use Rattle.um_decls.proofs.query.can_take_field.Goals as goal

pub returns : goal.returns
returns c at x vs fs place y p =
    let s = type_state c.args.ty.now in
    c.goes_in_type.ensures p
    ∙ field_stands at x vs fs place y (type_act s c.args.kind.now p) (type_finish s) (expr_token c.args.kind.now) c.ends_field.result (c.ends_field.ensures at x vs fs place y)
