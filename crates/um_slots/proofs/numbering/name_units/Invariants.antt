use Rattle.std.proofs.Common.{◌≡◌, take, map}
use Rattle.um_slots.specs.Slotting.{name_unit}
use Rattle.um_slots.proofs.numbering.name_units.Given as goal

abbrev pub invariant-loop-slot : goal.invariant-loop-slot
invariant-loop-slot l = l.units.items ≡ map name_unit (take l.slot-index l.names)
