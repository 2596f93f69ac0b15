use Rattle.std.proofs.Common.{◌≡◌, take, map}
use Rattle.um_tree.specs.ProgramTree.{record_tree}
use Rattle.um_sig.specs.Heads.{with_heads}
use Rattle.um_names.specs.Tables.{AreTables, known_of}
use Rattle.um_sig.proofs.heads.with_heads.Given as goal

abbrev pub invariant-loop-i : goal.invariant-loop-i
invariant-loop-i l = record {
  are : AreTables l.all;
  known : known_of l.all ≡ with_heads (known_of l.initial.all) (map record_tree (take l.i l.records));
}
