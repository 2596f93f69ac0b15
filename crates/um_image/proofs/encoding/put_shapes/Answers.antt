use Rattle.std.proofs.Common.{rules, ◌≤◌, length}
use Rattle.um_tree.specs.TypeTree.{shape_tree}
use Rattle.um_image.specs.Pieces.{shape_bytes}
use Rattle.um_image.specs.Places.{ShapeFits}
use Rattle.um_image.proofs.Added.{left_next}
use Rattle.um_image.proofs.Fitting.{until_last, until_next}
use Rattle.um_image.proofs.encoding.put_shapes.Goals as goal

pub loop-i-preserved : goal.loop-i-preserved
loop-i-preserved c = (
  left_next shape_bytes shape_tree c.args.shapes.now c.loop-i.i c.index-shapes-i.result c.put_number.new.out.items c.loop-i.out.items c.put_shape.new.out.items c.loop-i-test.true c.index-shapes-i.is c.loop-i.invariant.0 c.in_ok-put_shape.ensures.bytes,
  until_next ShapeFits shape_tree c.args.shapes.now c.loop-i.i c.index-shapes-i.result c.loop-i-test.true c.index-shapes-i.is c.in_ok-put_shape.ensures.fits c.loop-i.invariant.1,
)

pub returns-clause-fits : goal.returns-clause-fits
returns-clause-fits c =
    let past : length c.args.shapes.now ≤ c.loop-i.i = search rules in
    until_last ShapeFits shape_tree c.args.shapes.now c.loop-i.i past c.loop-i.invariant.1
