use Rattle.std.proofs.Common.{◌-◌, map}
use Rattle.um_tree.specs.TypeTree.{shape_tree}
use Rattle.um_image.specs.Reading.{low_shape_at, many_at, with_front}
use Rattle.um_image.proofs.Loops.{Rest}
use Rattle.um_image.proofs.record.add_shapes.Given as goal

abbrev pub invariant-loop : goal.invariant-loop
invariant-loop l = Rest low_shape_at (map shape_tree l.shapes.items) (l.count - l.counter) l.rest (with_front (map shape_tree l.initial.shapes.items) (many_at low_shape_at l.count l.bytes))
