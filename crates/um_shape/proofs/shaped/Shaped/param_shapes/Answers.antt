use Rattle.std.proofs.Common.{◌<◌, List, map, refl, length, sym, subst, arith}
use Rattle.std.proofs.lemmas.List.{length-map}
use Rattle.std.proofs.lemmas.Option.{slice_get_read}
use Rattle.um_tree.specs.declared.types.Shape.{Shape}
use Rattle.um_tree.specs.TypeTree.{shape_tree}
use Rattle.um_tree.specs.ProgramTree.{program_tree}
use Rattle.um_tree.proofs.Moved.{slice_get_moved}
use Rattle.um_shape.specs.ShapedProgram.{AreParamShapes}
use Rattle.um_shape.specs.Signatures.{signature_shapes, signatures_shapes}
use Rattle.um_shape.proofs.SoundProgram.{kept_function, params_are}
use Rattle.um_shape.proofs.shaped.Shaped.param_shapes.Goals as goal

pub index-requires : goal.index-requires
index-requires c =
    let inside = c.self.inside in
    let all = inside.signatures.items in
    let p = program_tree inside.program in
    let has : c.args.f < length p.functions = subst (λ program. c.args.f < length (program_tree program).functions) (sym c.self.view_is) c.requires.function in
    let kept = kept_function p (signatures_shapes all) c.self.invariant.1 c.args.f has in
    omega (arith, kept, length-map all signature_shapes, inside.signatures.ok.0)

pub returns : goal.returns
returns c =
    let inside = c.self.inside in
    let all = inside.signatures.items in
    let p = program_tree inside.program in
    let has : c.args.f < length p.functions = subst (λ program. c.args.f < length (program_tree program).functions) (sym c.self.view_is) c.requires.function in
    let kept = kept_function p (signatures_shapes all) c.self.invariant.1 c.args.f has in
    let below : c.args.f < length all = omega (arith, kept, length-map all signature_shapes) in
    let g = c.index.result.now in
    let there = slice_get_moved signature_shapes all c.args.f g (slice_get_read all (length all) c.args.f g refl below c.index.ensures) in
    record { shapes = rw (← c.self.view_is) (subst (λ (ss : List Shape). AreParamShapes p c.args.f (map shape_tree ss)) (sym c.deref.ensures.value) (params_are p (signatures_shapes all) c.self.invariant.1 c.args.f (signature_shapes g) there)) }
