use Rattle.std.proofs.Common.{◌≡◌, ◌<◌, List, map, length, sym, ap, subst, ◌∙◌, arith}
use Rattle.std.proofs.lemmas.List.{length-map}
use Rattle.um_tree.specs.declared.program.Function.{Function}
use Rattle.um_tree.specs.declared.program.Program.{Program}
use Rattle.um_tree.specs.declared.note.Note.{Note}
use Rattle.um_tree.specs.TypeTree.{ShapeTree, note_tree}
use Rattle.um_tree.specs.ProgramTree.{function_tree, program_tree}
use Rattle.um_tree.specs.Shapes.{note_shape}
use Rattle.um_shape.specs.ShapedProgram.{IsResultShape}
use Rattle.um_verify.specs.ImageTree.{head_tree}
use Rattle.um_image.proofs.Mapped.{head_is}
use Rattle.um_image.proofs.program.head_of.Goals as goal

pub returns-in-Ok : goal.returns-in-Ok
returns-in-Ok c =
    let p = c.args.shaped.now in
    let xs = c.deref-functions.result.now in
    let g = c.index-functions-f.result in
    let same : xs ≡ p.functions.items.items = c.deref-functions.ensures.value ∙ ap (λ (q : Program). q.functions.items.items) c.program.ensures.program in
    let below : c.args.f < length p.functions.items.items = omega (arith, c.requires, length-map p.functions.items.items function_tree) in
    let within : c.args.f < length xs = subst (λ (fs : List Function). c.args.f < length fs) (sym same) below in
    let params = c.in_ok-params.ensures ∙ ap (λ (ns : List Note). map note_shape (map note_tree ns)) c.deref.ensures.value in
    let shape = subst (λ (s : ShapeTree). IsResultShape (program_tree p) c.args.f s) (sym c.in-Ok.ensures) c.result_shape.ensures.shape in
    head_is p xs c.args.f g (head_tree (record { name = c.in_ok-name.name; params = c.in_ok-params.params; result = c.in-Ok.result })) same within c.index-functions-f.is c.in_ok-name.ensures params shape
