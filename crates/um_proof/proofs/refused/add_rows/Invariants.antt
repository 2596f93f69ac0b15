use Rattle.std.proofs.Common.{◌≡◌, false, drop, length}
use Rattle.um_rows.specs.FirstUnsolvable.{solve}
use Rattle.um_proof.proofs.refused.add_rows.Given as goal

abbrev pub invariant-loop-row : goal.invariant-loop-row
invariant-loop-row l = record {
  goes_on : solve l.row-index (drop l.row-index l.rows) l.solver.units ≡ solve 0 l.rows l.initial.solver.units;
  unspent : l.solver.spent ≡ false;
  count : length l.solver.units ≡ length l.initial.solver.units;
}
