use Rattle.std.proofs.Common.{◌≡◌, map, take}
use Rattle.std.specs.Prelude.{All}
use Rattle.um_units.specs.PowerMap.{one, replace}
use Rattle.um_elim.specs.ElimStep.{substitute}
use Rattle.um_wide.specs.Room.{IsNarrow}
use Rattle.um_reasons.proofs.powers.all_without.Given as goal

abbrev pub invariant-loop-unit : goal.invariant-loop-unit
invariant-loop-unit l = record {
  exact : l.out.items ≡ map (replace (substitute l.m one)) (take l.unit-index l.units);
  narrow : All IsNarrow l.out.items;
}
