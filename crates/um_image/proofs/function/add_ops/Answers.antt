use Rattle.std.proofs.Common.{◌≡◌, ◌∷◌, ◌++◌, []}
use Rattle.std.proofs.lemmas.Result.{err_from_is_err_and}
use Rattle.um_image.specs.Reading.{op_at, many_at, with_front}
use Rattle.um_image.proofs.Loops.{goes_on, ends}
use Rattle.um_image.proofs.function.add_ops.Goals as goal

pub returns-in_err-op : goal.returns-in_err-op
returns-in_err-op c =
    let p = err_from_is_err_and c.from_residual.result c.from_residual.ensures.1 in
    rw (p.1, p.2) (ends op_at c.in_err-op.field-0.0 c.loop.ops.items c.args.count c.loop.counter c.loop.rest.now (with_front c.args.ops.now.items (many_at op_at c.args.count c.args.bytes.now)) c.loop-test.true c.in_err-op.ensures c.loop.invariant)

pub loop-preserved : goal.loop-preserved
loop-preserved c =
    let e : c.push.new.self.items ≡ c.loop.ops.items ++ c.in_ok-op.op ∷ [] = c.in_ok-push.ensures.items in
    rw e (goes_on op_at c.loop.ops.items c.args.count c.loop.counter c.loop.rest.now c.in_ok-op.op c.in_ok-op.after.now (with_front c.args.ops.now.items (many_at op_at c.args.count c.args.bytes.now)) c.loop-test.true c.in_ok-op.ensures c.loop.invariant)
