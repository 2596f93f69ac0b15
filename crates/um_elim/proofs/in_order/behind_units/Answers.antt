use Rattle.std.proofs.Common.{subst}
use Rattle.std.specs.List.{flat_map}
use Rattle.std.proofs.lemmas.List.{take_all}
use Rattle.um_tree.specs.Scheme.{unit_variables, FirstComeInOrder}
use Rattle.um_elim.proofs.NumberedAlready.{in_order_grows}
use Rattle.um_elim.proofs.in_order.behind_units.Goals as goal

pub loop-unit-preserved : goal.loop-unit-preserved
loop-unit-preserved c =
    let last = c.in_ok-last.last in
    let at = subst (λ u. FirstComeInOrder c.loop-unit.last (unit_variables u) last) c.unit-item.is c.in_ok-last.ensures in
    in_order_grows unit_variables c.args.units.now c.loop-unit.unit-index c.unit-item.result c.loop-unit-test.true c.args.next c.loop-unit.last last c.loop-unit.invariant at

pub returns : goal.returns
returns c =
    subst (λ us. FirstComeInOrder c.args.next (flat_map unit_variables us) c.loop-unit.last) (take_all c.loop-unit.unit-index c.args.units.now c.loop-unit-test.false) c.loop-unit.invariant
