use Rattle.std.proofs.Common.{take}
use Rattle.std.specs.List.{flat_map}
use Rattle.um_tree.specs.Scheme.{unit_variables, FirstComeInOrder}
use Rattle.um_elim.proofs.in_order.behind_units.Given as goal

abbrev pub invariant-loop-unit : goal.invariant-loop-unit
invariant-loop-unit l = FirstComeInOrder l.initial.last (flat_map unit_variables (take l.unit-index l.units)) l.last
