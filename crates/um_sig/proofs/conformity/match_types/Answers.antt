use Rattle.std.proofs.Common.{◌<◌, ◌+◌, ◌^◌, map, subst, sym}
use Rattle.std.specs.Prelude.{All}
use Rattle.std.proofs.lemmas.Result.{err_from_is_err_and}
use Rattle.um_tree.specs.TypeTree.{type_tree}
use Rattle.um_tree.specs.ProgramTree.{scheme_tree}
use Rattle.um_tree.specs.Scheme.{type_variables}
use Rattle.um_sig.specs.Instances.{scheme_types}
use Rattle.um_sig.proofs.TypesRead.{type_read, same_form_there, variables_there}
use Rattle.um_sig.proofs.MatchingSteps.{no_type_matched, type_matched, type_refused}
use Rattle.um_sig.proofs.conformity.match_types.Goals as goal

pub loop-i-init : goal.loop-i-init
loop-i-init c =
    no_type_matched c.args.bases c.args.scheme.now.vars (scheme_types (scheme_tree c.args.scheme.now)) (map type_tree c.args.types.now) c.in_ok-solver.solver c.in_ok-solver.ensures.fresh

pub match_type_at-requires-clause-alike : goal.match_type_at-requires-clause-alike
match_type_at-requires-clause-alike c =
    same_form_there (scheme_types (scheme_tree c.args.scheme.now)) (map type_tree c.args.types.now) c.loop-i.i (type_tree c.own_type-own.result.now) (type_tree c.index-types-i.result)
    c.requires.alike c.own_type-own.ensures (type_read c.args.types.now c.loop-i.i c.index-types-i.result c.loop-i-test.true c.index-types-i.is)

pub match_type_at-requires-clause-variables : goal.match_type_at-requires-clause-variables
match_type_at-requires-clause-variables c =
    let s = type_tree c.own_type-own.result.now in
    let vars = c.args.scheme.now.vars in
    subst (λ m. All (λ k. k < m) (type_variables s)) (sym c.loop-i.invariant.count)
    (variables_there (λ k. k < vars) (scheme_types (scheme_tree c.args.scheme.now)) c.loop-i.i s c.own_type-own.ensures c.requires.variables)

pub match_type_at-requires-clause-room : goal.match_type_at-requires-clause-room
match_type_at-requires-clause-room c =
    let b = c.args.bases in
    variables_there (λ k. b + k < 2 ^ 32) (map type_tree c.args.types.now) c.loop-i.i (type_tree c.index-types-i.result)
    (type_read c.args.types.now c.loop-i.i c.index-types-i.result c.loop-i-test.true c.index-types-i.is) c.requires.room

pub loop-i-preserved : goal.loop-i-preserved
loop-i-preserved c =
    let own = scheme_types (scheme_tree c.args.scheme.now) in
    let ts = map type_tree c.args.types.now in
    type_matched c.args.bases c.args.scheme.now.vars own ts c.loop-i.i (type_tree c.own_type-own.result.now) (type_tree c.index-types-i.result) c.loop-i.solver
    c.own_type-own.ensures (type_read c.args.types.now c.loop-i.i c.index-types-i.result c.loop-i-test.true c.index-types-i.is) c.loop-i.invariant c.match_type_at.new.solver c.in_ok-match_type_at.ensures

pub returns-in_err-match_type_at : goal.returns-in_err-match_type_at
returns-in_err-match_type_at c =
    let own = scheme_types (scheme_tree c.args.scheme.now) in
    let ts = map type_tree c.args.types.now in
    let p = err_from_is_err_and c.from_residual-in_err-match_type_at.result c.from_residual-in_err-match_type_at.ensures.1 in
    rw (p.1, p.2) (type_refused c.args.bases c.args.scheme.now.vars own ts c.loop-i.i (type_tree c.own_type-own.result.now) (type_tree c.index-types-i.result) c.loop-i.solver
    c.own_type-own.ensures (type_read c.args.types.now c.loop-i.i c.index-types-i.result c.loop-i-test.true c.index-types-i.is) c.loop-i.invariant c.in_err-match_type_at.field-0.0 c.in_err-match_type_at.ensures)
