use Rattle.std.proofs.Common.{◌≡◌, take}
use Rattle.um_units.proofs.Units.copy.Given as goal

abbrev pub invariant-loop-unit : goal.invariant-loop-unit
invariant-loop-unit l = l.items.items ≡ take l.unit-index l.unit-items
