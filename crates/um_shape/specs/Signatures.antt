-- The shapes of functions that the code keeps as trees. This mirrors the code.
-- Source: this project's own.
use Rattle.std.specs.Prelude.{List, map}
use Rattle.um_tree.specs.TypeTree.{shape_tree}
use Rattle.um_tree.specs.Shapes.{ShapeSignature}
use Rattle.um_shape.specs.declared.signature.Signature.{Signature}

abbrev pub signature_shapes : Signature → ShapeSignature
signature_shapes s = record { params = map shape_tree s.params.items; result = shape_tree s.result }

abbrev pub signatures_shapes : List Signature → List ShapeSignature
signatures_shapes ss = map signature_shapes ss
