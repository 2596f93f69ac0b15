use Rattle.std.proofs.Common.{◌≡◌, length, Ok}
use Rattle.um_slots.specs.Keys.{name_keys}
use Rattle.um_slots.specs.Slotting.{HaveSlots}
use Rattle.um_slots.proofs.slots.names_slots.Given as goal

abbrev pub invariant-loop-k : goal.invariant-loop-k
invariant-loop-k l = record {
  slots : HaveSlots (name_keys 0 l.k) l.fn.slots l.slots (Ok tt);
  counted : length l.slots.holes.items ≡ length l.fn.slots.holes.items;
}
