use Rattle.std.proofs.Common.{◌≡◌, take}
use Rattle.um_sig.specs.Heads.{with_shorts}
use Rattle.um_names.specs.Tables.{AreTables, known_of}
use Rattle.um_sig.proofs.heads.with_shorts.Given as goal

abbrev pub invariant-loop-i : goal.invariant-loop-i
invariant-loop-i l = record {
  are : AreTables l.all;
  known : known_of l.all ≡ with_shorts (known_of l.initial.all) (take l.i l.shorts);
}
