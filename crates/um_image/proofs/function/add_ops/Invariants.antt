use Rattle.std.proofs.Common.{◌-◌}
use Rattle.um_image.specs.Reading.{op_at, many_at, with_front}
use Rattle.um_image.proofs.Loops.{Rest}
use Rattle.um_image.proofs.function.add_ops.Given as goal

abbrev pub invariant-loop : goal.invariant-loop
invariant-loop l = Rest op_at l.ops.items (l.count - l.counter) l.rest (with_front l.initial.ops.items (many_at op_at l.count l.bytes))
