use Rattle.std.proofs.Common.{map, ap, ◌∙◌, arith}
use Rattle.std.proofs.lemmas.List.{take_all}
use Rattle.um_tree.specs.declared.program.FieldDecl.{FieldDecl}
use Rattle.um_tree.specs.TypeTree.{type_tree}
use Rattle.um_tree.specs.Shapes.{type_shape}
use Rattle.um_slots.proofs.InputLoops.{field_shapes-are}
use Rattle.um_slots.proofs.inputs.field_shapes.Goals as goal

pub returns : goal.returns
returns c =
    let fs = c.deref-field-items.result.now in
    c.loop-field.invariant ∙ ap (map (λ (f : FieldDecl). type_shape (type_tree f.ty))) (take_all c.loop-field.field-index fs (omega (arith, c.loop-field-test.false))) ∙ ap (map (λ (f : FieldDecl). type_shape (type_tree f.ty))) c.deref-field-items.ensures.value ∙ field_shapes-are c.args.declared.now.fields.items.items
