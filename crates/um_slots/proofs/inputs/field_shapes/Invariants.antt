use Rattle.std.proofs.Common.{◌≡◌, take, map}
use Rattle.um_tree.specs.declared.program.FieldDecl.{FieldDecl}
use Rattle.um_tree.specs.TypeTree.{type_tree, shape_tree}
use Rattle.um_tree.specs.Shapes.{type_shape}
use Rattle.um_slots.proofs.inputs.field_shapes.Given as goal

abbrev pub invariant-loop-field : goal.invariant-loop-field
invariant-loop-field l = map shape_tree l.shapes.items ≡ map (λ (f : FieldDecl). type_shape (type_tree f.ty)) (take l.field-index l.field-items)
