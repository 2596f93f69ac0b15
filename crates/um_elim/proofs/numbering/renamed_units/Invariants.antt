use Rattle.std.proofs.Common.{◌≡◌, take, map}
use Rattle.std.specs.List.{flat_map}
use Rattle.um_units.specs.PowerMap.{replace}
use Rattle.um_tree.specs.Scheme.{unit_variables}
use Rattle.um_elim.specs.Numbering.{by_place}
use Rattle.um_elim.specs.Order.{with_variables}
use Rattle.um_elim.proofs.numbering.renamed_units.Given as goal

abbrev pub invariant-loop-unit : goal.invariant-loop-unit
invariant-loop-unit l = record {
  order : l.order ≡ with_variables l.initial.order (flat_map unit_variables (take l.unit-index l.unit-items));
  items : l.items.items ≡ map (replace (by_place l.order)) (take l.unit-index l.unit-items);
}
