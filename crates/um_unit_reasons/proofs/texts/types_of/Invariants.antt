use Rattle.std.proofs.Common.{◌≡◌, map, take}
use Rattle.um_tree.specs.TypeTree.{type_tree}
use Rattle.um_unit_reasons.specs.UnitReasons.{types_of}
use Rattle.um_unit_reasons.specs.Answers.{told_trees}
use Rattle.um_unit_reasons.proofs.texts.types_of.Given as goal

abbrev pub invariant-loop-one : goal.invariant-loop-one
invariant-loop-one l = map type_tree l.types.items ≡ types_of (told_trees (take l.one-index l.agreements))
