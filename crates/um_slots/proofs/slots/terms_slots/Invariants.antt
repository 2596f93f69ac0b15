use Rattle.std.proofs.Common.{◌≡◌, map, take, length, Ok}
use Rattle.std.specs.List.{flat_map}
use Rattle.um_tree.specs.Scheme.{atom_variables}
use Rattle.um_slots.specs.Keys.{name}
use Rattle.um_slots.specs.Slotting.{HaveSlots}
use Rattle.um_slots.proofs.slots.terms_slots.Given as goal

abbrev pub invariant-loop-term : goal.invariant-loop-term
invariant-loop-term l = record {
  slots : HaveSlots (map name (flat_map (λ t. atom_variables t.atom) (take l.term-index l.terms))) l.fn.slots l.slots (Ok tt);
  counted : length l.slots.holes.items ≡ length l.fn.slots.holes.items;
}
