use Rattle.std.proofs.Common.{◌≡◌, ◌∷◌, ◌++◌, [], map}
use Rattle.std.proofs.lemmas.Result.{err_from_is_err_and}
use Rattle.std.proofs.lemmas.List.{map_push}
use Rattle.um_tree.specs.TypeTree.{shape_tree}
use Rattle.um_image.specs.Reading.{low_shape_at, many_at, with_front}
use Rattle.um_image.proofs.Loops.{goes_on, ends}
use Rattle.um_image.proofs.record.add_shapes.Goals as goal

pub returns-in_err-shape : goal.returns-in_err-shape
returns-in_err-shape c =
    let p = err_from_is_err_and c.from_residual.result c.from_residual.ensures.1 in
    rw (p.1, p.2) (ends low_shape_at c.in_err-shape.field-0.0 (map shape_tree c.loop.shapes.items) c.args.count c.loop.counter c.loop.rest.now (with_front (map shape_tree c.args.shapes.now.items) (many_at low_shape_at c.args.count c.args.bytes.now)) c.loop-test.true c.in_err-shape.ensures c.loop.invariant)

pub loop-preserved : goal.loop-preserved
loop-preserved c =
    let e : map shape_tree c.push.new.self.items ≡ map shape_tree c.loop.shapes.items ++ shape_tree c.in_ok-shape.shape ∷ [] = rw c.in_ok-push.ensures.items (map_push _ c.loop.shapes.items c.in_ok-shape.shape) in
    rw e (goes_on low_shape_at (map shape_tree c.loop.shapes.items) c.args.count c.loop.counter c.loop.rest.now (shape_tree c.in_ok-shape.shape) c.in_ok-shape.after.now (with_front (map shape_tree c.args.shapes.now.items) (many_at low_shape_at c.args.count c.args.bytes.now)) c.loop-test.true c.in_ok-shape.ensures c.loop.invariant)
