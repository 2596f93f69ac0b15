use Rattle.std.proofs.Common.{length, sym, subst}
use Rattle.std.proofs.lemmas.Bool.{ltb-true}
use Rattle.um_tree.specs.TypeTree.{type_tree}
use Rattle.um_rows.specs.Rules.{local_rule}
use Rattle.um_rows.specs.Walk.{node}
use Rattle.um_rows.specs.Reached.{IsReached}
use Rattle.um_rows.proofs.NodeLaws.{mapped_past, node_local}
use Rattle.um_rows.proofs.rules.local.Goals as goal

pub returns-in_ok-copied-in-Some-clause-reached : goal.returns-in_ok-copied-in-Some-clause-reached
returns-in_ok-copied-in-Some-clause-reached c =
    let found = c.in-Some.ensures.lookup in
    let progress = c.args.progress.now in
    node_local progress.rows.items progress.holes c.args.at c.args.scope.now c.args.k c.in-Some.ty.now (type_tree c.in_ok-copied-in-Some.field-0) (ltb-true c.args.k (length c.args.scope.now) (sym found.0)) found.1 c.in_ok-copied-in-Some.ensures.same c.in_ok-copied-in-Some.ensures.fits

pub returns-in-None-clause-reached : goal.returns-in-None-clause-reached
returns-in-None-clause-reached c =
    let progress = c.args.progress.now in
    subst (λ o. IsReached (node progress.rows.items progress.holes (local_rule c.args.at o)) c.mismatch.new.progress c.mismatch.result) (sym (mapped_past type_tree c.args.scope.now c.args.k c.in-None.ensures.lookup.3)) c.mismatch.ensures.reached
