use Rattle.um_rows.proofs.TypedShapes.{shaped_functions_form_no_wrong_shape}
use Rattle.um_rows.proofs.laws.right_shapes.Goals as goal

pub returns : goal.returns
returns c = shaped_functions_form_no_wrong_shape
