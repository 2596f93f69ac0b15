use Rattle.std.proofs.Common.{sym, subst}
use Rattle.std.proofs.lemmas.List.Elements.{All-get_or}
use Rattle.um_units.specs.Variables.{VariablesBelow}
use Rattle.um_elim.proofs.VariablesKept.{unit_all}
use Rattle.um_proof.proofs.renaming.general_solution.Goals as goal

pub generalised_unit-requires-clause-variables : goal.generalised_unit-requires-clause-variables
generalised_unit-requires-clause-variables c =
    let n = c.args.head.slots in
    unit_all n c.unit-item.result
    (subst (VariablesBelow n) (sym c.unit-item.is) (All-get_or (VariablesBelow n) c.args.solution.now c.loop-unit.unit-index c.unit-item.result c.loop-unit-test.true c.requires.below))
