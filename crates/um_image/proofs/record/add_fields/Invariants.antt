use Rattle.std.proofs.Common.{◌-◌, map}
use Rattle.um_tree.specs.ProgramTree.{field_tree}
use Rattle.um_image.specs.Reading.{field_at, many_at, with_front}
use Rattle.um_image.proofs.Loops.{Rest}
use Rattle.um_image.proofs.record.add_fields.Given as goal

abbrev pub invariant-loop : goal.invariant-loop
invariant-loop l = Rest field_at (map field_tree l.fields.items) (l.count - l.counter) l.rest (with_front (map field_tree l.initial.fields.items) (many_at field_at l.count l.bytes))
