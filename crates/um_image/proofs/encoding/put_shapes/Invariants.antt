use Rattle.um_tree.specs.TypeTree.{shape_tree}
use Rattle.um_image.specs.Pieces.{shape_bytes}
use Rattle.um_image.specs.Places.{ShapeFits}
use Rattle.um_image.proofs.Fitting.{Until}
use Rattle.um_image.proofs.Added.{Left}
use Rattle.um_image.proofs.encoding.put_shapes.Given as goal

abbrev pub invariant-loop-i : goal.invariant-loop-i
invariant-loop-i l = Left shape_bytes shape_tree l.shapes l.i l.initial.out.items l.out.items × Until ShapeFits shape_tree l.shapes l.i
