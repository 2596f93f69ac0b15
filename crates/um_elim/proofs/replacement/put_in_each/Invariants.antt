use Rattle.std.proofs.Common.{◌≡◌, take}
use Rattle.um_units.specs.PowerMap.{replace}
use Rattle.um_elim.specs.ElimStep.{multiply}
use Rattle.um_elim.proofs.HeldSlots.{changed}
use Rattle.um_elim.proofs.IndexBut.{IsIndexBut}
use Rattle.um_elim.proofs.replacement.put_in_each.Given as goal

abbrev pub invariant-loop-slot : goal.invariant-loop-slot
invariant-loop-slot l = record {
  units : l.units.items ≡ changed (replace (multiply l.replacement.variable l.replacement.change.now)) (take l.slot-index l.slot-items) l.initial.units.items;
  indexed : IsIndexBut l.replacement.variable l.units.items l.index.items;
}
