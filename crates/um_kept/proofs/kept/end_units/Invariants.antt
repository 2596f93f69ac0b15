use Rattle.std.proofs.Common.{◌≡◌, ◌++◌, map, take, drop, length}
use Rattle.um_units.specs.PowerMap.{one, replace}
use Rattle.um_elim.specs.ElimStep.{substitute}
use Rattle.um_kept.proofs.kept.end_units.Given as goal

abbrev pub invariant-loop-j : goal.invariant-loop-j
invariant-loop-j l = record {
  count : length l.units.items ≡ length l.initial.units.items;
  done : l.units.items ≡ map (replace (substitute l.m one)) (take l.j l.initial.units.items) ++ drop l.j l.initial.units.items;
}
