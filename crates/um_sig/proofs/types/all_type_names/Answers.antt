use Rattle.std.proofs.Common.{refl, map, drop, ap, ◌+◌, ◌∙◌}
use Rattle.std.proofs.lemmas.Result.{err_from_is_err_and}
use Rattle.um_tree.specs.RawTree.{type_syntax}
use Rattle.um_sig.specs.SignatureNames.{type_names, all_type_names}
use Rattle.um_names.specs.Tables.{known_of}
use Rattle.um_sig.proofs.NameChecks.{check_next, check_stops}
use Rattle.um_measures.proofs.Stages.{map_from_more, map_from-end}
use Rattle.um_sig.proofs.types.all_type_names.Goals as goal

pub loop-text-preserved : goal.loop-text-preserved
loop-text-preserved c =
    let k = known_of c.args.tables.now in
    let v = c.args.variables.now in
    let ts = c.args.raw.now in
    let i = c.loop-text.text-index in
    let x = c.text-item.result in
    check_next (type_names k v) (all_type_names k v) (λ y ys. refl) (all_type_names k v (map type_syntax ts)) (type_syntax x) (map type_syntax (drop i ts)) (map type_syntax (drop (i + 1) ts)) tt
    c.loop-text.invariant (map_from_more type_syntax ts i x c.loop-text-test.true c.text-item.is) c.in_ok-type_names.ensures.exact

pub returns-clause-exact : goal.returns-clause-exact
returns-clause-exact c = c.loop-text.invariant ∙ ap (all_type_names (known_of c.args.tables.now) c.args.variables.now) (map_from-end type_syntax c.args.raw.now c.loop-text.text-index c.loop-text-test.false)

pub returns-in_err-type_names-clause-faults : goal.returns-in_err-type_names-clause-faults
returns-in_err-type_names-clause-faults c =
    let k = known_of c.args.tables.now in
    let v = c.args.variables.now in
    let ts = c.args.raw.now in
    let i = c.loop-text.text-index in
    let x = c.text-item.result in
    let p = err_from_is_err_and c.from_residual.result c.from_residual.ensures.1 in
    rw (p.1, p.2)
    (check_stops (type_names k v) (all_type_names k v) (λ y ys. refl) (all_type_names k v (map type_syntax ts)) (type_syntax x) (map type_syntax (drop i ts)) (map type_syntax (drop (i + 1) ts)) c.in_err-type_names.field-0.0
    c.loop-text.invariant (map_from_more type_syntax ts i x c.loop-text-test.true c.text-item.is) c.in_err-type_names.ensures.faults)
