use Rattle.std.proofs.Common.{◌≡◌, take}
use Rattle.um_unit_texts.specs.UnitFrames.{stack}
use Rattle.um_unit_texts.specs.Standing.{in_brackets}
use Rattle.um_unit_texts.proofs.unit_query.in_brackets.Given as goal

abbrev pub invariant-loop-k : goal.invariant-loop-k
invariant-loop-k l = in_brackets (stack (take l.k l.frames.entries.items)) ≡ in_brackets (stack l.frames.entries.items)
