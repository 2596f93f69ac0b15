use Rattle.um_shape.proofs.Complete.{faultless_is_shaped, refused_has_no_shapes}
use Rattle.um_shape.proofs.Unique.{shapes_are_unique}
use Rattle.um_shape.proofs.laws.shapes_of_programs.Goals as goal

pub returns-clause-faultless : goal.returns-clause-faultless
returns-clause-faultless c = faultless_is_shaped

pub returns-clause-unique : goal.returns-clause-unique
returns-clause-unique c = shapes_are_unique

pub returns-clause-refused : goal.returns-clause-refused
returns-clause-refused c = refused_has_no_shapes
