use Rattle.std.proofs.Common.{length, sym, subst}
use Rattle.um_units.specs.Variables.{VariablesBelow}
use Rattle.um_slots.proofs.types.renamed_units.Goals as goal

pub renamed_unit-requires-clause-below : goal.renamed_unit-requires-clause-below
renamed_unit-requires-clause-below c =
    subst (VariablesBelow (length c.args.by.now)) (sym c.unit-item.is) (c.requires.below c.loop-unit.unit-index c.unit-item.result c.loop-unit-test.true)
