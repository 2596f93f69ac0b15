use Rattle.std.proofs.Common.{sym, ap, ◌∙◌, ◌+◌}
use Rattle.um_shape.specs.FlatShapes.{known_records, item_shape}
use Rattle.um_shape.proofs.SameShape.{height_in_lists}
use Rattle.um_shape.proofs.lookup.height.Goals as goal

pub returns-clause-height : goal.returns-clause-height
returns-clause-height c =
    let shape = c.args.shape in
    ap (λ n. shape.lists + n) c.item_height.ensures.height ∙ sym (height_in_lists (known_records c.args.records.now) shape.lists (item_shape shape.item))
