use Rattle.std.proofs.Common.{ap, map, drop, ◌+◌}
use Rattle.std.specs.List.{flat_map}
use Rattle.um_tree.specs.RawTree.{ParamSyntax, param_syntax, type_syntax}
use Rattle.um_measures.specs.Variables.{first_occurrences, type_variables}
use Rattle.um_measures.proofs.Stages.{map_from_more}
use Rattle.um_measures.proofs.Occurrences.{occur_next}
use Rattle.um_measures.proofs.variables.in_params.Goals as goal

pub loop-param-preserved : goal.loop-param-preserved
loop-param-preserved c =
    let ps = c.args.params.now in
    let i = c.loop-param.param-index in
    let x = c.param-item.result in
    occur_next (first_occurrences c.args.names.now (flat_map (λ p. type_variables p.type) (map param_syntax ps))) c.loop-param.names c.add_type_variables.new.names (flat_map (λ p. type_variables p.type) (map param_syntax (drop i ps))) (type_variables (type_syntax x.ty)) (flat_map (λ p. type_variables p.type) (map param_syntax (drop (i + 1) ps)))
    c.loop-param.invariant (ap (flat_map (λ (p : ParamSyntax). type_variables p.type)) (map_from_more param_syntax ps i x c.loop-param-test.true c.param-item.is)) c.in_ok-add_type_variables.ensures
