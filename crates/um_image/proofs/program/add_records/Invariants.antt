use Rattle.std.proofs.Common.{map}
use Rattle.um_tree.specs.ProgramTree.{record_tree}
use Rattle.um_image.specs.ProgramImage.{plain_record}
use Rattle.um_image.proofs.Mapped.{MadeLeft}
use Rattle.um_image.proofs.program.add_records.Given as goal

abbrev pub invariant-loop-i : goal.invariant-loop-i
invariant-loop-i l = MadeLeft plain_record record_tree l.records l.i (map record_tree l.initial.plain.items) (map record_tree l.plain.items)
