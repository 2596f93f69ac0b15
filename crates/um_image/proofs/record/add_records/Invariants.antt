use Rattle.std.proofs.Common.{◌-◌, map}
use Rattle.um_tree.specs.ProgramTree.{record_tree}
use Rattle.um_image.specs.Reading.{record_at, many_at, with_front}
use Rattle.um_image.proofs.Loops.{Rest}
use Rattle.um_image.proofs.record.add_records.Given as goal

abbrev pub invariant-loop : goal.invariant-loop
invariant-loop l = Rest record_at (map record_tree l.records.items) (l.count - l.counter) l.rest (with_front (map record_tree l.initial.records.items) (many_at record_at l.count l.bytes))
