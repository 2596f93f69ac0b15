use Rattle.std.proofs.Common.{map, ap}
use Rattle.um_tree.specs.ProgramTree.{record_tree}
use Rattle.um_image.specs.Reading.{record_at, records_at}
use Rattle.um_image.proofs.Loops.{counted_done, counted_fails}
use Rattle.um_image.proofs.record.read_records.Goals as goal

pub returns-in-Ok : goal.returns-in-Ok
unfolding records_at
returns-in-Ok c = counted_done record_at c.args.bytes.now c.in_ok-count.count c.in_ok-count.rest.now c.in_ok-count.ensures (map record_tree c.new-items.result.items) (ap (map record_tree) c.new-items.ensures.items) (map record_tree c.add_records.new.records.items, c.in-Ok.rest.now) c.in-Ok.ensures

pub returns-in-Err : goal.returns-in-Err
unfolding records_at
returns-in-Err c = counted_fails record_at c.args.bytes.now c.in_ok-count.count c.in_ok-count.rest.now c.in_ok-count.ensures (map record_tree c.new-items.result.items) (ap (map record_tree) c.new-items.ensures.items) c.in-Err.stop c.in-Err.ensures
