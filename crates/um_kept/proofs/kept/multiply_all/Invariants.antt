use Rattle.std.proofs.Common.{◌≡◌, ◌++◌, map, take, drop, length}
use Rattle.um_units.specs.PowerMap.{replace}
use Rattle.um_elim.specs.ElimStep.{multiply}
use Rattle.um_kept.proofs.kept.multiply_all.Given as goal

abbrev pub invariant-loop-j : goal.invariant-loop-j
invariant-loop-j l = record {
  count : length l.units.items ≡ length l.initial.units.items;
  done : l.units.items ≡ map (replace (multiply l.m l.w)) (take l.j l.initial.units.items) ++ drop l.j l.initial.units.items;
}
