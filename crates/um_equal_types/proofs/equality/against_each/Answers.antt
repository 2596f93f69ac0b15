use Rattle.std.proofs.Common.{map, rules}
use Rattle.um_tree.specs.TypeTree.{type_tree}
use Rattle.um_equal_types.specs.Steps.{first_past}
use Rattle.um_equal_types.specs.Against.{against_each}
use Rattle.um_equal_types.specs.Pushed.{StopsPast}
use Rattle.um_equal_types.proofs.PushLaws.{each_next, each_stops}
use Rattle.um_equal_types.proofs.equality.against_each.Goals as goal

pub returns-in_err-against : goal.returns-in_err-against
returns-in_err-against c =
    let err = c.in_err-against.field-0.0 in
    let left = type_tree c.args.left.now in
    let others = c.args.others.now in
    let stops : StopsPast (first_past (against_each c.args.at left (map type_tree others))) err =
    each_stops c.args.at left others c.loop-t.t-index c.t-item.result c.loop-t-test.true c.t-item.is c.args.rows.now.items c.loop-t.rows.items c.loop-t.invariant err c.in_err-against.ensures in
    search (rules, stops)

pub loop-t-preserved : goal.loop-t-preserved
loop-t-preserved c =
    each_next c.args.at (type_tree c.args.left.now) c.args.others.now c.loop-t.t-index c.t-item.result c.loop-t-test.true c.t-item.is c.args.rows.now.items c.loop-t.rows.items c.loop-t.invariant c.against.new.rows.items c.in_ok-against.ensures
