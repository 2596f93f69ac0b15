use Rattle.std.proofs.Common.{◌<◌, sym, subst}
use Rattle.std.specs.Prelude.{All}
use Rattle.std.specs.List.{flat_map}
use Rattle.um_tree.specs.Scheme.{unit_variables}
use Rattle.um_elim.proofs.GrowingOrder.{All-at}
use Rattle.um_infer.proofs.general.generalised_units.Goals as goal

pub generalised_unit-requires-clause-variables : goal.generalised_unit-requires-clause-variables
generalised_unit-requires-clause-variables c =
    let us = c.as_slice-unit-items.result.now in
    let n = c.args.slots in
    subst (λ u. All (λ k. k < n) (unit_variables u)) (sym c.unit-item.is)
    (All-at (λ k. k < n) unit_variables us c.loop-unit.unit-index c.unit-item.result c.loop-unit-test.true (subst (λ vs. All (λ k. k < n) (flat_map unit_variables vs)) (sym c.as_slice-unit-items.ensures.items) c.requires.variables))
