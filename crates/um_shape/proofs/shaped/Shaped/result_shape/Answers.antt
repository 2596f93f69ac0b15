use Rattle.std.proofs.Common.{◌<◌, refl, length, sym, subst, arith}
use Rattle.std.proofs.lemmas.List.{length-map}
use Rattle.std.proofs.lemmas.Option.{slice_get_read}
use Rattle.um_tree.specs.ProgramTree.{program_tree}
use Rattle.um_tree.proofs.Moved.{slice_get_moved}
use Rattle.um_shape.specs.Signatures.{signature_shapes, signatures_shapes}
use Rattle.um_shape.proofs.SoundProgram.{kept_function, result_is}
use Rattle.um_shape.proofs.LowShapes.{low_result_shape}
use Rattle.um_shape.proofs.shaped.Shaped.result_shape.Goals as goal

pub index-requires : goal.index-requires
index-requires c =
    let inside = c.self.inside in
    let all = inside.signatures.items in
    let p = program_tree inside.program in
    let has : c.args.f < length p.functions = subst (λ program. c.args.f < length (program_tree program).functions) (sym c.self.view_is) c.requires.function in
    let kept = kept_function p (signatures_shapes all) c.self.invariant.1 c.args.f has in
    omega (arith, kept, length-map all signature_shapes, inside.signatures.ok.0)

pub returns-clause-shape : goal.returns-clause-shape
returns-clause-shape c =
    let inside = c.self.inside in
    let all = inside.signatures.items in
    let p = program_tree inside.program in
    let has : c.args.f < length p.functions = subst (λ program. c.args.f < length (program_tree program).functions) (sym c.self.view_is) c.requires.function in
    let kept = kept_function p (signatures_shapes all) c.self.invariant.1 c.args.f has in
    let below : c.args.f < length all = omega (arith, kept, length-map all signature_shapes) in
    let there = slice_get_read all (length all) c.args.f c.index.result.now refl below c.index.ensures in
    rw (← c.self.view_is) (result_is p (signatures_shapes all) c.self.invariant.1 c.args.f (signature_shapes c.index.result.now) (slice_get_moved signature_shapes all c.args.f c.index.result.now there))

pub returns-clause-low : goal.returns-clause-low
returns-clause-low c =
    let inside = c.self.inside in
    let all = inside.signatures.items in
    let p = program_tree inside.program in
    let has : c.args.f < length p.functions = subst (λ program. c.args.f < length (program_tree program).functions) (sym c.self.view_is) c.requires.function in
    let kept = kept_function p (signatures_shapes all) c.self.invariant.1 c.args.f has in
    let below : c.args.f < length all = omega (arith, kept, length-map all signature_shapes) in
    let there = slice_get_read all (length all) c.args.f c.index.result.now refl below c.index.ensures in
    rw (← c.self.view_is) (low_result_shape p (signatures_shapes all) c.self.invariant.1 c.args.f (signature_shapes c.index.result.now) (slice_get_moved signature_shapes all c.args.f c.index.result.now there))
