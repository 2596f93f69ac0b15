use Rattle.std.proofs.Common.{◌≡◌, map, take}
use Rattle.um_tree.specs.TypeTree.{type_tree}
use Rattle.um_unit_reasons.specs.TypeTexts.{named_types}
use Rattle.um_unit_reasons.proofs.named.named_types.Given as goal

abbrev pub invariant-loop-one : goal.invariant-loop-one
invariant-loop-one l = map type_tree l.types.items ≡ named_types (take l.one-index l.named)
