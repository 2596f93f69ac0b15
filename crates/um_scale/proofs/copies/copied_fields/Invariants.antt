use Rattle.std.proofs.Common.{◌≡◌, map, take}
use Rattle.um_tree.specs.ProgramTree.{field_tree}
use Rattle.um_scale.proofs.copies.copied_fields.Given as goal

abbrev pub invariant-loop-field : goal.invariant-loop-field
invariant-loop-field l = map field_tree l.items.items ≡ map field_tree (take l.field-index l.fields)
