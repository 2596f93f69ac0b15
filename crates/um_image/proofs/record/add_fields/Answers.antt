use Rattle.std.proofs.Common.{◌≡◌, ◌∷◌, ◌++◌, [], map}
use Rattle.std.proofs.lemmas.Result.{err_from_is_err_and}
use Rattle.std.proofs.lemmas.List.{map_push}
use Rattle.um_tree.specs.ProgramTree.{field_tree}
use Rattle.um_image.specs.Reading.{field_at, many_at, with_front}
use Rattle.um_image.proofs.Loops.{goes_on, ends}
use Rattle.um_image.proofs.record.add_fields.Goals as goal

pub returns-in_err-field : goal.returns-in_err-field
returns-in_err-field c =
    let p = err_from_is_err_and c.from_residual.result c.from_residual.ensures.1 in
    rw (p.1, p.2) (ends field_at c.in_err-field.field-0.0 (map field_tree c.loop.fields.items) c.args.count c.loop.counter c.loop.rest.now (with_front (map field_tree c.args.fields.now.items) (many_at field_at c.args.count c.args.bytes.now)) c.loop-test.true c.in_err-field.ensures c.loop.invariant)

pub loop-preserved : goal.loop-preserved
loop-preserved c =
    let e : map field_tree c.push.new.self.items ≡ map field_tree c.loop.fields.items ++ field_tree c.in_ok-field.field ∷ [] = rw c.in_ok-push.ensures.items (map_push _ c.loop.fields.items c.in_ok-field.field) in
    rw e (goes_on field_at (map field_tree c.loop.fields.items) c.args.count c.loop.counter c.loop.rest.now (field_tree c.in_ok-field.field) c.in_ok-field.after.now (with_front (map field_tree c.args.fields.now.items) (many_at field_at c.args.count c.args.bytes.now)) c.loop-test.true c.in_ok-field.ensures c.loop.invariant)
