use Rattle.std.proofs.Common.{◌≡◌}
use Rattle.um_units.specs.PowerMap.{one}
use Rattle.um_tree.specs.RawTree.{unit_syntax}
use Rattle.um_measures.specs.Known.{short_unit}
use Rattle.um_measures.specs.UnitNames.{product_of, products_fit}
use Rattle.um_measures.proofs.UnitLoops.{units_from}
use Rattle.um_measures.proofs.unit.+evaluated.Given as goal

abbrev pub invariant-product-loop-i : goal.invariant-product-loop-i
invariant-product-loop-i l = record {
  value : product_of (short_unit l.measures) l.variables one (units_from unit_syntax l.units 0) ≡ product_of (short_unit l.measures) l.variables l.running (units_from unit_syntax l.units l.i);
  range : products_fit (short_unit l.measures) l.variables one (units_from unit_syntax l.units 0) ≡ products_fit (short_unit l.measures) l.variables l.running (units_from unit_syntax l.units l.i);
}

abbrev pub invariant-product_of_few-loop-i : goal.invariant-product_of_few-loop-i
invariant-product_of_few-loop-i l = record {
  value : product_of (short_unit l.measures) l.variables one (units_from unit_syntax l.units 0) ≡ product_of (short_unit l.measures) l.variables l.before (units_from unit_syntax l.units l.i);
  range : products_fit (short_unit l.measures) l.variables one (units_from unit_syntax l.units 0) ≡ products_fit (short_unit l.measures) l.variables l.before (units_from unit_syntax l.units l.i);
}
