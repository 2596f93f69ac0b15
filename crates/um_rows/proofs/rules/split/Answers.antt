use Rattle.std.proofs.Common.{◌++◌}
use Rattle.um_tree.specs.TypeTree.{type_tree}
use Rattle.um_equal_types.specs.Against.{against}
use Rattle.um_rows.specs.Rules.{asks_list}
use Rattle.um_equal_types.proofs.PushLaws.{behind_then}
use Rattle.um_rows.proofs.NodeLaws.{node_formed}
use Rattle.um_rows.proofs.rules.split.Goals as goal

pub returns-clause-reached : goal.returns-clause-reached
returns-clause-reached c =
    let progress = c.args.progress.now in
    let at = c.args.at in
    let asked = asks_list at (type_tree c.args.list.now) in
    let rows = against at (type_tree c.args.empty) (type_tree c.args.full.now) in
    node_formed progress.rows.items c.against.new.rows.items progress.holes at (asked ++ rows) (type_tree c.args.empty)
    (behind_then asked rows progress.rows.items c.ask_list.new.rows.items c.against.new.rows.items c.in_ok-ask_list.ensures c.in_ok-against.ensures)
    c.requires.fits
