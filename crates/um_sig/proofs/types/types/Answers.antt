use Rattle.std.proofs.Common.{◌≡◌, List, [], ◌∷◌, ◌++◌, map, ap, ◌∙◌}
use Rattle.std.proofs.lemmas.List.{map-append}
use Rattle.std.proofs.lemmas.Result.{err_from_is_err_and}
use Rattle.um_tree.specs.declared.types.Ty.{Ty}
use Rattle.um_tree.specs.RawTree.{type_syntax}
use Rattle.um_tree.specs.TypeTree.{type_tree}
use Rattle.um_sig.specs.SignatureNames.{one_type}
use Rattle.um_names.specs.Tables.{known_of}
use Rattle.um_measures.proofs.Stages.{stage_first, stage_pushed, stage_stops, stage_ends}
use Rattle.um_sig.proofs.types.types.Goals as goal

pub loop-text-init : goal.loop-text-init
loop-text-init c = stage_first (one_type (known_of c.args.tables.now) c.args.variables.now) type_syntax c.args.raw.now (map type_tree c.new-types.result.items) (ap (λ (ts : List Ty). map type_tree ts) c.new-types.ensures.items)

pub loop-text-preserved : goal.loop-text-preserved
loop-text-preserved c =
    let pushed : map type_tree c.push.new.self.items ≡ map type_tree c.loop-text.types.items ++ type_tree c.in_ok-type_of.field-0 ∷ [] =
    ap (λ (ts : List Ty). map type_tree ts) c.in_ok-push.ensures.items ∙ map-append type_tree c.loop-text.types.items (c.in_ok-type_of.field-0 ∷ []) in
    stage_pushed (one_type (known_of c.args.tables.now) c.args.variables.now) type_syntax c.args.raw.now (map type_tree c.loop-text.types.items) (map type_tree c.push.new.self.items) c.loop-text.text-index c.text-item.result (type_tree c.in_ok-type_of.field-0)
    c.loop-text.invariant c.loop-text-test.true c.text-item.is c.in_ok-type_of.ensures.exact pushed

pub returns-clause-exact : goal.returns-clause-exact
returns-clause-exact c = stage_ends (one_type (known_of c.args.tables.now) c.args.variables.now) type_syntax c.args.raw.now (map type_tree c.loop-text.types.items) c.loop-text.text-index c.loop-text.invariant c.loop-text-test.false

pub returns-in_err-type_of-clause-faults : goal.returns-in_err-type_of-clause-faults
returns-in_err-type_of-clause-faults c =
    let p = err_from_is_err_and c.from_residual.result c.from_residual.ensures.1 in
    rw (p.1, p.2)
    (stage_stops (one_type (known_of c.args.tables.now) c.args.variables.now) type_syntax c.args.raw.now (map type_tree c.loop-text.types.items) c.loop-text.text-index c.text-item.result c.in_err-type_of.field-0.0
    c.loop-text.invariant c.loop-text-test.true c.text-item.is c.in_err-type_of.ensures.faults)
