use Rattle.std.proofs.Common.{length, subst, sym}
use Rattle.um_units.specs.Variables.{VariablesBelow}
use Rattle.um_elim.proofs.VariablesKept.{unit_below}
use Rattle.um_sig.proofs.RowLaws.{row_below}
use Rattle.um_sig.proofs.matching.match_unit.Goals as goal

pub add-requires : goal.add-requires
add-requires c =
    let n = length c.args.solver.now.units in
    subst (VariablesBelow n) (sym c.in_ok-row.ensures.exact) (row_below c.args.bases n c.args.own.now c.args.other.now (unit_below n c.args.own.now c.requires.variables))
