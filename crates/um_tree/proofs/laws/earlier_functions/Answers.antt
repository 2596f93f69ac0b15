use Rattle.um_tree.proofs.Below.{earlier_typings, earlier_shapes_are}
use Rattle.um_tree.proofs.laws.earlier_functions.Goals as goal

pub returns : goal.returns
returns c = record { typings = earlier_typings; shapes = earlier_shapes_are }
