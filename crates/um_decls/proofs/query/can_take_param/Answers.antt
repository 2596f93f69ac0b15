use Rattle.std.proofs.Common.{◌∙◌}
use Rattle.um_types.specs.TypeMachine.{type_act, type_finish}
use Rattle.um_types.specs.TypeView.{type_state}
use Rattle.um_forms.specs.ExprTokens.{expr_token}
use Rattle.um_decls.proofs.DeclStanding.{param_stands}
use Rattle.um_decls.proofs.query.can_take_param.Goals as goal

pub returns : goal.returns
returns c head ps b p =
    let s = type_state c.args.ty.now in
    c.goes_in_type.ensures p
    ∙ param_stands head ps b (type_act s c.args.kind.now p) (type_finish s) (expr_token c.args.kind.now) c.ends_param.result (c.ends_param.ensures head ps b)
