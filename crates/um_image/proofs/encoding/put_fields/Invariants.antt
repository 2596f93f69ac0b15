use Rattle.um_tree.specs.ProgramTree.{field_tree}
use Rattle.um_image.specs.Pieces.{field_bytes}
use Rattle.um_image.specs.Places.{FieldFits}
use Rattle.um_image.proofs.Fitting.{Until}
use Rattle.um_image.proofs.Added.{Left}
use Rattle.um_image.proofs.encoding.put_fields.Given as goal

abbrev pub invariant-loop-i : goal.invariant-loop-i
invariant-loop-i l = Left field_bytes field_tree l.fields l.i l.initial.out.items l.out.items × Until FieldFits field_tree l.fields l.i
