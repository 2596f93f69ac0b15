use Rattle.um_tree.proofs.ShapeLaws.{typed_expression_has_shape, typed_has_shape}
use Rattle.um_tree.proofs.laws.shapes_of_types.Goals as goal

pub returns : goal.returns
returns c = record { expressions = typed_expression_has_shape; functions = typed_has_shape }
