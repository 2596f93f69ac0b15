use Rattle.std.proofs.Common.{map, ap, arith}
use Rattle.um_tree.specs.RawTree.{unit_syntax, units_in_order}
use Rattle.um_tree.specs.Heights.{tallest_unit}
use Rattle.um_unit_texts.proofs.UnitOperands.{tallest_more}
use Rattle.um_unit_texts.proofs.unit_operand.Operands.with.Goals as goal

pub invariant_of-result : goal.invariant_of-result
invariant_of-result c = record {
  counted_height =
      omega (
        arith,
        c.higher.ensures,
        c.args.self.counted_height,
        c.args.last.counted_height,
        tallest_more c.args.self.units.items c.args.last.unit,
        ap (λ w. tallest_unit (units_in_order (map unit_syntax w))) c.in_ok-push.ensures.items,
      );
}
