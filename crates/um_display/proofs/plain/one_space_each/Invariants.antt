use Rattle.std.proofs.Common.{◌≡◌, ◌++◌, drop}
use Rattle.um_display.specs.UnitWords.{one_space_each}
use Rattle.um_display.proofs.plain.one_space_each.Given as goal

abbrev pub invariant-loop-i : goal.invariant-loop-i
invariant-loop-i l = l.text.items ++ one_space_each (drop l.i l.bytes) ≡ one_space_each l.bytes
