use Rattle.std.proofs.Common.{map, subst}
use Rattle.um_units.specs.PowerMap.{nth}
use Rattle.um_tree.specs.TypeTree.{type_tree}
use Rattle.um_tree.specs.Typing.{put}
use Rattle.um_equal_types.specs.Against.{types_against as types_against_steps}
use Rattle.um_equal_types.specs.Pushed.{AreBehind}
use Rattle.um_rows.proofs.NodeLaws.{node_made}
use Rattle.um_rows.proofs.calls.scheme_call.Goals as goal

pub returns-clause-reached : goal.returns-clause-reached
returns-clause-reached c =
    let progress = c.args.progress.now in
    let at = c.args.at in
    let by = nth c.args.by.now in
    let scheme = c.args.scheme.now in
    let arguments = map type_tree c.args.arguments.now in
    let old = progress.rows.items in
    let new = c.arguments_against.new.rows.items in
    let behind = subst (λ ps. AreBehind (types_against_steps at (map (put by) (map type_tree ps)) arguments) old new) c.deref.ensures.value c.in_ok-arguments_against.ensures in
    node_made old new progress.holes at (types_against_steps at (map (put by) (map type_tree scheme.params.items.items)) arguments) (put by (type_tree scheme.result)) (type_tree c.in_ok-result.result) behind c.in_ok-result.ensures.exact c.in_ok-result.ensures.fits
