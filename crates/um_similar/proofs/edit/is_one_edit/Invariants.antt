use Rattle.std.proofs.Common.{◌≡◌, ◌≤◌, length, drop}
use Rattle.um_similar.specs.OneEdit.{one_edit}
use Rattle.um_similar.proofs.edit.is_one_edit.Given as goal

abbrev pub invariant-loop-i : goal.invariant-loop-i
invariant-loop-i l = record {
  within : l.i ≤ length l.second;
  same : one_edit (drop l.i l.first) (drop l.i l.second) ≡ one_edit l.first l.second;
}
