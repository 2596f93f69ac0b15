use Rattle.std.proofs.Common.{◌≡◌, ℕ, List, [], map, sym, ap, ◌∙◌, subst, Ok}
use Rattle.um_tree.specs.declared.raw.RawParam.{RawParam}
use Rattle.um_tree.specs.declared.raw.RawVar.{RawVar}
use Rattle.um_tree.specs.TypeTree.{note_tree}
use Rattle.um_tree.specs.ProgramTree.{result_tree}
use Rattle.um_tree.specs.RawTree.{var_syntax, param_syntax, whole_function_syntax}
use Rattle.um_measures.specs.Known.{is_among}
use Rattle.um_names.specs.Resolution.{resolved_parameters, resolved_params, scope_of}
use Rattle.um_names.specs.Tables.{known_of, own_callable}
use Rattle.um_names.proofs.Wholes.{head_is}
use Rattle.um_names.proofs.declare.head_of.Goals as goal

pub returns-clause-new : goal.returns-clause-new
returns-clause-new c =
    sym (c.has.ensures ∙ ap (is_among c.args.tables.now.function_names) c.as_slice.ensures ∙ ap (λ (ns : List (List ℕ)). is_among ns c.args.raw.now.name) c.requires.functions) ∙ c.if-has.false

pub returns-clause-exact : goal.returns-clause-exact
returns-clause-exact c =
    let k = known_of c.args.tables.now in
    let f = whole_function_syntax c.args.raw.now in
    let us = c.add_unit_parameters.new.names in
    let added = subst (λ (ns : List (List ℕ)). resolved_parameters ns (map var_syntax c.deref.result.now) ≡ Ok us) c.with_digest-unit_params.ensures c.in_ok-add_unit_parameters.ensures.exact in
    let units = subst (λ (vs : List RawVar). resolved_parameters [] (map var_syntax vs) ≡ Ok us) c.deref.ensures.value added in
    let params = subst (λ (ps : List RawParam). resolved_params k c.in_ok-variables.variables [] (map param_syntax ps) ≡ Ok (map note_tree c.in_ok-notes.field-0.notes.items)) c.deref-2.ensures.value c.in_ok-notes.ensures.exact in
    let scope : c.in_ok-notes.field-0.scope ≡ scope_of f = c.in_ok-notes.ensures.scope ∙ ap (λ (ps : List RawParam). map (λ q. q.binder.name) (map param_syntax ps)) c.deref-2.ensures.value in
    head_is k f c.count-units.result c.count-named.result us c.in_ok-variables.variables (map note_tree c.in_ok-notes.field-0.notes.items) (result_tree c.in_ok-result.result) (own_callable c.in_ok-own.own) c.in_ok-notes.field-0.scope
    c.count-units.ensures c.count-named.ensures (returns-clause-new c) units c.in_ok-variables.ensures params c.in_ok-result.ensures.exact c.in_ok-own.ensures scope
