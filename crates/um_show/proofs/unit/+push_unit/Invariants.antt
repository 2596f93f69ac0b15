use Rattle.std.proofs.Common.{◌≡◌, ◌++◌, take, codes}
use Rattle.std.specs.List.{join_by}
use Rattle.um_tree.specs.RawTree.{unit_syntax}
use Rattle.um_show.specs.Pieces.{text_of}
use Rattle.um_show.specs.Layout.{unit_pieces}
use Rattle.um_show.proofs.unit.+push_unit.Given as goal

abbrev pub invariant-push_side-loop-i : goal.invariant-push_side-loop-i
invariant-push_side-loop-i l = l.text.items ≡ l.initial.text.items ++ join_by (λ u. text_of (unit_pieces (unit_syntax u))) (codes " ") (take l.i l.units)
