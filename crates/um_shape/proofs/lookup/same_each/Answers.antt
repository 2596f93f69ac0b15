use Rattle.std.proofs.Common.{sym, ◌∙◌}
use Rattle.std.proofs.lemmas.List.{length-map}
use Rattle.um_shape.specs.FlatShapes.{flat_shape, flat_shapes}
use Rattle.um_shape.proofs.SameShape.{other_lengths}
use Rattle.um_shape.proofs.lookup.same_each.Goals as goal

pub returns-then-shapes-others : goal.returns-then-shapes-others
returns-then-shapes-others c =
    let ss = c.args.shapes.now in
    let ts = c.args.others.now in
    sym (other_lengths (flat_shapes ss) (flat_shapes ts) (λ e. c.if-shapes-others.true (sym (length-map ss flat_shape) ∙ e ∙ length-map ts flat_shape)))
