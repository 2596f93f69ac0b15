use Rattle.std.proofs.Common.{map}
use Rattle.um_tree.specs.ProgramTree.{field_tree}
use Rattle.um_image.specs.ProgramImage.{plain_field}
use Rattle.um_image.proofs.Mapped.{MadeLeft}
use Rattle.um_image.proofs.program.add_fields.Given as goal

abbrev pub invariant-loop-i : goal.invariant-loop-i
invariant-loop-i l = MadeLeft plain_field field_tree l.fields l.i (map field_tree l.initial.plain.items) (map field_tree l.plain.items)
