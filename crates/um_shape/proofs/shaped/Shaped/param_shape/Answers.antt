use Rattle.std.proofs.Common.{◌<◌, refl, length, sym, subst, arith}
use Rattle.std.proofs.lemmas.List.{length-map}
use Rattle.std.proofs.lemmas.Option.{slice_get_read, slice_get_within}
use Rattle.um_tree.specs.TypeTree.{shape_tree}
use Rattle.um_tree.specs.ProgramTree.{program_tree}
use Rattle.um_tree.proofs.Moved.{slice_get_moved}
use Rattle.um_shape.specs.ShapedProgram.{HasParam}
use Rattle.um_shape.specs.Signatures.{signature_shapes, signatures_shapes}
use Rattle.um_shape.proofs.SoundProgram.{kept_function, kept_param, param_is}
use Rattle.um_shape.proofs.LowShapes.{low_param}
use Rattle.um_shape.proofs.shaped.Shaped.param_shape.Goals as goal

pub index-requires : goal.index-requires
index-requires c =
    let inside = c.self.inside in
    let all = inside.signatures.items in
    let p = program_tree inside.program in
    let has : HasParam p c.args.f c.args.k = subst (λ program. HasParam (program_tree program) c.args.f c.args.k) (sym c.self.view_is) c.requires.param in
    let kept = kept_function p (signatures_shapes all) c.self.invariant.1 c.args.f (slice_get_within p.functions c.args.f has.0 has.1) in
    omega (arith, kept, length-map all signature_shapes, inside.signatures.ok.0)

pub index-requires-2 : goal.index-requires-2
index-requires-2 c =
    let inside = c.self.inside in
    let all = inside.signatures.items in
    let p = program_tree inside.program in
    let has : HasParam p c.args.f c.args.k = subst (λ program. HasParam (program_tree program) c.args.f c.args.k) (sym c.self.view_is) c.requires.param in
    let kept = kept_function p (signatures_shapes all) c.self.invariant.1 c.args.f (slice_get_within p.functions c.args.f has.0 has.1) in
    let below : c.args.f < length all = omega (arith, kept, length-map all signature_shapes) in
    let there = slice_get_read all (length all) c.args.f c.index.result.now refl below c.index.ensures in
    let param = kept_param p (signatures_shapes all) c.self.invariant.1 c.args.f c.args.k (signature_shapes c.index.result.now) has (slice_get_moved signature_shapes all c.args.f c.index.result.now there) in
    omega (arith, param, length-map c.index.result.now.params.items shape_tree, c.index.result.now.params.ok.0)

pub returns-clause-shape : goal.returns-clause-shape
returns-clause-shape c =
    let inside = c.self.inside in
    let all = inside.signatures.items in
    let p = program_tree inside.program in
    let has : HasParam p c.args.f c.args.k = subst (λ program. HasParam (program_tree program) c.args.f c.args.k) (sym c.self.view_is) c.requires.param in
    let kept = kept_function p (signatures_shapes all) c.self.invariant.1 c.args.f (slice_get_within p.functions c.args.f has.0 has.1) in
    let below : c.args.f < length all = omega (arith, kept, length-map all signature_shapes) in
    let there = slice_get_read all (length all) c.args.f c.index.result.now refl below c.index.ensures in
    let param = kept_param p (signatures_shapes all) c.self.invariant.1 c.args.f c.args.k (signature_shapes c.index.result.now) has (slice_get_moved signature_shapes all c.args.f c.index.result.now there) in
    let params = c.index.result.now.params.items in
    let inner : c.args.k < length params = omega (arith, param, length-map params shape_tree) in
    let here = slice_get_read params (length params) c.args.k c.index-2.result.now refl inner c.index-2.ensures in
    rw (← c.self.view_is) (param_is p (signatures_shapes all) c.self.invariant.1 c.args.f c.args.k (signature_shapes c.index.result.now) (shape_tree c.index-2.result.now) (slice_get_moved signature_shapes all c.args.f c.index.result.now there) (slice_get_moved shape_tree c.index.result.now.params.items c.args.k c.index-2.result.now here))

pub returns-clause-low : goal.returns-clause-low
returns-clause-low c =
    let inside = c.self.inside in
    let all = inside.signatures.items in
    let p = program_tree inside.program in
    let has : HasParam p c.args.f c.args.k = subst (λ program. HasParam (program_tree program) c.args.f c.args.k) (sym c.self.view_is) c.requires.param in
    let kept = kept_function p (signatures_shapes all) c.self.invariant.1 c.args.f (slice_get_within p.functions c.args.f has.0 has.1) in
    let below : c.args.f < length all = omega (arith, kept, length-map all signature_shapes) in
    let there = slice_get_read all (length all) c.args.f c.index.result.now refl below c.index.ensures in
    let param = kept_param p (signatures_shapes all) c.self.invariant.1 c.args.f c.args.k (signature_shapes c.index.result.now) has (slice_get_moved signature_shapes all c.args.f c.index.result.now there) in
    let params = c.index.result.now.params.items in
    let inner : c.args.k < length params = omega (arith, param, length-map params shape_tree) in
    let here = slice_get_read params (length params) c.args.k c.index-2.result.now refl inner c.index-2.ensures in
    rw (← c.self.view_is) (low_param p (signatures_shapes all) c.self.invariant.1 c.args.f c.args.k (signature_shapes c.index.result.now) (shape_tree c.index-2.result.now) (slice_get_moved signature_shapes all c.args.f c.index.result.now there) (slice_get_moved shape_tree c.index.result.now.params.items c.args.k c.index-2.result.now here))
