use Rattle.std.proofs.Common.{◌≡◌, ◌∙◌, map, rules}
use Rattle.um_tree.specs.TypeTree.{type_tree}
use Rattle.um_tree.specs.Shapes.{type_shape}
use Rattle.um_mismatch.specs.FlatShapes.{flat_shapes}
use Rattle.um_mismatch.proofs.FieldShapes.{shapes_of_trees}
use Rattle.um_mismatch.proofs.functions.known_record.Goals as goal

pub returns : goal.returns
returns c =
    let fields = c.args.declared.now.fields.items.items in
    let seen : flat_shapes c.in_ok-fields.fields.items ≡ map (λ f. type_shape (type_tree f.ty)) fields = search rules in
    seen ∙ shapes_of_trees fields
