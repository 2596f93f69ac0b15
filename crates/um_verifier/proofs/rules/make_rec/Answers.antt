use Rattle.std.proofs.Common.{rules, ◌≡◌, refl, sym, ap, ◌∙◌, ◌<◌, length, slice_get, Some, List}
use Rattle.std.proofs.lemmas.Option.{slice_get_read}
use Rattle.um_verify.specs.StackShape.{StackShape}
use Rattle.um_stacks.specs.FlatShapes.{flat_shapes}
use Rattle.um_verifier.specs.KnownImages.{known_heights, known_fields, lowered, fit_many}
use Rattle.um_stacks.specs.declared.flat.FlatShape.{FlatShape}
use Rattle.um_verifier.proofs.TakenMany.{rec_is, fields_there}
use Rattle.um_stacks.specs.Stacks.{stack_at}
use Rattle.um_verifier.proofs.rules.make_rec.Goals as goal

pub returns : goal.returns
returns c = λ code body.
    let p = c.args.point.now in
    let st = stack_at p.stacks.now p.stack in
    let rs = p.known.now.records.items in
    let within : c.args.r < length rs = search rules in
    let there : slice_get rs c.args.r ≡ Some c.index.result.now = slice_get_read rs (length rs) c.args.r c.index.result.now refl within c.index.ensures in
    let ss = c.deref-fields.result.now in
    let fields : slice_get (known_fields p.known.now) c.args.r ≡ Some (flat_shapes ss) = fields_there rs c.args.r c.index.result.now there ∙ ap (λ (l : List FlatShape). Some (flat_shapes l)) (sym c.deref-fields.ensures.value) in
    let count : length ss ≡ c.args.n = search rules in
    c.on_all.ensures ∙ ap (λ (s : StackShape). lowered (known_heights p.known.now) (fit_many p.at (flat_shapes st) (flat_shapes ss) s)) c.of.ensures ∙ rec_is p.known.now p.at st code body c.args.r c.args.n ss fields count
