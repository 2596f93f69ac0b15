use Rattle.std.proofs.Common.{map, ap}
use Rattle.um_tree.specs.ProgramTree.{field_tree}
use Rattle.um_image.specs.Reading.{field_at, fields_at}
use Rattle.um_image.proofs.Loops.{counted_done, counted_fails}
use Rattle.um_image.proofs.record.read_fields.Goals as goal

pub returns-in-Ok : goal.returns-in-Ok
unfolding fields_at
returns-in-Ok c = counted_done field_at c.args.bytes.now c.in_ok-count.count c.in_ok-count.rest.now c.in_ok-count.ensures (map field_tree c.new-items.result.items) (ap (map field_tree) c.new-items.ensures.items) (map field_tree c.add_fields.new.fields.items, c.in-Ok.rest.now) c.in-Ok.ensures

pub returns-in-Err : goal.returns-in-Err
unfolding fields_at
returns-in-Err c = counted_fails field_at c.args.bytes.now c.in_ok-count.count c.in_ok-count.rest.now c.in_ok-count.ensures (map field_tree c.new-items.result.items) (ap (map field_tree) c.new-items.ensures.items) c.in-Err.stop c.in-Err.ensures
