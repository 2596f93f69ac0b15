use Rattle.std.proofs.Common.{rules, ◌≡◌, ◌+◌, map, ap, arith}
use Rattle.um_tree.specs.declared.raw.RawUnit.{RawUnit, the_lemmas}
use Rattle.um_tree.specs.declared.raw.RawUnit.TheVariants as raw
use Rattle.um_tree.specs.declared.raw.RawUnits.{roll-RawUnits}
use Rattle.um_tree.specs.RawTree.{unit_syntax, units_in_order, side_syntax}
use Rattle.um_tree.specs.Heights.{unit_height, tallest_unit}
use Rattle.um_unit_texts.proofs.unit_operand.Operands.whole.Goals as goal

pub invariant_of-result : goal.invariant_of-result
invariant_of-result c =
    let whole : RawUnit = raw.Side (roll-RawUnits (record { items = c.args.self.units })) in
    let seen : unit_syntax whole ≡ side_syntax (units_in_order (map unit_syntax c.args.self.units.items)) = search (rules, the_lemmas) in
    let high : unit_height (unit_syntax whole) ≡ tallest_unit (units_in_order (map unit_syntax c.args.self.units.items)) + 1 = ap unit_height seen in
    record { counted_height = omega (arith, c.one_higher.ensures, c.args.self.counted_height, high) }
