use Rattle.std.proofs.Common.{◌≡◌, ◌∷◌, ◌++◌, [], map}
use Rattle.std.proofs.lemmas.Result.{err_from_is_err_and}
use Rattle.std.proofs.lemmas.List.{map_push}
use Rattle.um_tree.specs.ProgramTree.{record_tree}
use Rattle.um_image.specs.Reading.{record_at, many_at, with_front}
use Rattle.um_image.proofs.Loops.{goes_on, ends}
use Rattle.um_image.proofs.record.add_records.Goals as goal

pub returns-in_err-record : goal.returns-in_err-record
returns-in_err-record c =
    let p = err_from_is_err_and c.from_residual.result c.from_residual.ensures.1 in
    rw (p.1, p.2) (ends record_at c.in_err-record.field-0.0 (map record_tree c.loop.records.items) c.args.count c.loop.counter c.loop.rest.now (with_front (map record_tree c.args.records.now.items) (many_at record_at c.args.count c.args.bytes.now)) c.loop-test.true c.in_err-record.ensures c.loop.invariant)

pub loop-preserved : goal.loop-preserved
loop-preserved c =
    let e : map record_tree c.push.new.self.items ≡ map record_tree c.loop.records.items ++ record_tree c.in_ok-record.record ∷ [] = rw c.in_ok-push.ensures.items (map_push _ c.loop.records.items c.in_ok-record.record) in
    rw e (goes_on record_at (map record_tree c.loop.records.items) c.args.count c.loop.counter c.loop.rest.now (record_tree c.in_ok-record.record) c.in_ok-record.after.now (with_front (map record_tree c.args.records.now.items) (many_at record_at c.args.count c.args.bytes.now)) c.loop-test.true c.in_ok-record.ensures c.loop.invariant)
