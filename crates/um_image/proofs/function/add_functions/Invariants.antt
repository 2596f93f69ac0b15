use Rattle.std.proofs.Common.{◌≤◌, ◌+◌, ◌-◌, List, length}
use Rattle.um_image.specs.Encoding.{FunctionPart}
use Rattle.um_image.specs.Reading.{function_at, many_at, with_front}
use Rattle.um_image.specs.FunctionsRead.{Holds}
use Rattle.um_image.proofs.Loops.{Rest}
use Rattle.um_image.proofs.function.add_functions.Given as goal

abbrev pub invariant-loop : goal.invariant-loop
invariant-loop l = record {
  room : length l.functions.ops.items + length l.rest ≤ 16777216;
  kept : (fs : List FunctionPart) → Holds l.initial.functions fs →
      (gs : List FunctionPart) × Holds l.functions gs × Rest function_at gs (l.count - l.counter) l.rest (with_front fs (many_at function_at l.count l.bytes));
}
