use Rattle.std.proofs.Common.{◌≡◌, false, take, length}
use Rattle.std.specs.Prelude.{replicate}
use Rattle.um_tree.specs.Scheme.{unit_variables}
use Rattle.um_proof.proofs.HeldVariables.{AreMarked}
use Rattle.um_proof.proofs.renaming.held_variables.Given as goal

abbrev pub invariant-loop-unit : goal.invariant-loop-unit
invariant-loop-unit l = record {
  count : length l.marks.items ≡ l.count;
  marks : AreMarked unit_variables (replicate l.count false) l.marks.items (take l.unit-index l.units);
}
