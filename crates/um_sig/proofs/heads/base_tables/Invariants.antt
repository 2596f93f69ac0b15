use Rattle.std.proofs.Common.{◌≡◌, take}
use Rattle.um_sig.specs.Heads.{only_bases}
use Rattle.um_names.specs.Tables.{AreTables, known_of}
use Rattle.um_sig.proofs.heads.base_tables.Given as goal

abbrev pub invariant-loop-i : goal.invariant-loop-i
invariant-loop-i l = record {
  are : AreTables l.tables;
  known : known_of l.tables ≡ only_bases (take l.i l.names);
}
