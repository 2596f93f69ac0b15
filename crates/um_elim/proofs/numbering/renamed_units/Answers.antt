use Rattle.std.proofs.Common.{◌<◌, sym, ap, subst, ◌∙◌}
use Rattle.std.specs.Prelude.{All}
use Rattle.std.specs.List.{flat_map}
use Rattle.um_units.specs.PowerMap.{replace}
use Rattle.um_tree.specs.Scheme.{unit_variables}
use Rattle.um_elim.specs.Numbering.{by_place}
use Rattle.um_elim.specs.Order.{with_variables}
use Rattle.um_elim.proofs.GrowingOrder.{All-at, order_grows, items_grow, unit_stays}
use Rattle.um_elim.proofs.numbering.renamed_units.Goals as goal

pub renamed_unit-requires : goal.renamed_unit-requires
renamed_unit-requires c =
    let us = c.as_slice-unit-items.result.now in
    let i = c.loop-unit.unit-index in
    subst (λ u. All (λ k. k < 4294967295) (unit_variables u)) (sym c.unit-item.is)
    (All-at (λ k. k < 4294967295) unit_variables us i c.unit-item.result c.loop-unit-test.true (subst (λ vs. All (λ k. k < 4294967295) (flat_map unit_variables vs)) (sym c.as_slice-unit-items.ensures.items) c.requires))

pub loop-unit-preserved : goal.loop-unit-preserved
loop-unit-preserved c =
    let us = c.as_slice-unit-items.result.now in
    let i = c.loop-unit.unit-index in
    let u = c.unit-item.result in
    let new = c.renamed_unit.new.order in
    let order = c.in_ok-renamed_unit.ensures.order ∙ ap (λ v. with_variables c.loop-unit.order (unit_variables v)) c.unit-item.is in
    let made = c.in_ok-renamed_unit.ensures.renamed ∙ ap (replace (by_place new)) c.unit-item.is in
    record {
      order = order_grows unit_variables (λ o v. replace (by_place o) v) unit_stays c.args.order.now us i u c.loop-unit-test.true c.loop-unit.order new c.loop-unit.invariant.order order;
      items = items_grow unit_variables (λ o v. replace (by_place o) v) unit_stays c.args.order.now us i u c.loop-unit-test.true c.loop-unit.order new c.loop-unit.items.items c.push.new.self.items c.in_ok-renamed_unit.field-0 c.loop-unit.invariant.order order c.loop-unit.invariant.items c.in_ok-push.ensures.items made;
    }
