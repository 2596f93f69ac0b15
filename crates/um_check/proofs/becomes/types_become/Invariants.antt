use Rattle.std.proofs.Common.{◌≡◌, ℕ, ◌<◌, get_or, map}
use Rattle.um_units.specs.PowerMap.{nth}
use Rattle.um_tree.specs.TypeTree.{bool_type, type_tree}
use Rattle.um_tree.specs.Typing.{put}
use Rattle.um_check.proofs.becomes.types_become.Given as goal

abbrev pub invariant-loop-i : goal.invariant-loop-i
invariant-loop-i l = (k : ℕ) → k < l.i → put (nth l.by) (get_or (map type_tree l.types) k bool_type) ≡ get_or (map type_tree l.wanted) k bool_type
