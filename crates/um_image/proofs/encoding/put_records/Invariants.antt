use Rattle.um_tree.specs.ProgramTree.{record_tree}
use Rattle.um_image.specs.Pieces.{record_bytes}
use Rattle.um_image.specs.Places.{RecordFits}
use Rattle.um_image.proofs.Fitting.{Until}
use Rattle.um_image.proofs.Added.{Left}
use Rattle.um_image.proofs.encoding.put_records.Given as goal

abbrev pub invariant-loop-i : goal.invariant-loop-i
invariant-loop-i l = Left record_bytes record_tree l.records l.i l.initial.out.items l.out.items × Until RecordFits record_tree l.records l.i
