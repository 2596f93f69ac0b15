use Rattle.std.proofs.Common.{map, ap}
use Rattle.um_tree.specs.TypeTree.{shape_tree}
use Rattle.um_image.specs.Reading.{low_shape_at, shapes_at}
use Rattle.um_image.proofs.Loops.{counted_done, counted_fails}
use Rattle.um_image.proofs.record.read_shapes.Goals as goal

pub returns-in-Ok : goal.returns-in-Ok
unfolding shapes_at
returns-in-Ok c = counted_done low_shape_at c.args.bytes.now c.in_ok-count.count c.in_ok-count.rest.now c.in_ok-count.ensures (map shape_tree c.new-items.result.items) (ap (map shape_tree) c.new-items.ensures.items) (map shape_tree c.add_shapes.new.shapes.items, c.in-Ok.rest.now) c.in-Ok.ensures

pub returns-in-Err : goal.returns-in-Err
unfolding shapes_at
returns-in-Err c = counted_fails low_shape_at c.args.bytes.now c.in_ok-count.count c.in_ok-count.rest.now c.in_ok-count.ensures (map shape_tree c.new-items.result.items) (ap (map shape_tree) c.new-items.ensures.items) c.in-Err.stop c.in-Err.ensures
