use Rattle.std.proofs.Common.{◌∙◌}
use Rattle.um_types.specs.TypeMachine.{type_act, type_finish}
use Rattle.um_types.specs.TypeView.{type_state}
use Rattle.um_forms.specs.ExprTokens.{expr_token}
use Rattle.um_decls.proofs.DeclStanding.{result_stands}
use Rattle.um_decls.proofs.query.can_take_result.Goals as goal

pub returns : goal.returns
returns c head ps p =
    let s = type_state c.args.ty.now in
    c.goes_in_type.ensures p
    ∙ result_stands head ps (type_act s c.args.kind.now p) (type_finish s) (expr_token c.args.kind.now) c.ends_result.result (c.ends_result.ensures head ps)
