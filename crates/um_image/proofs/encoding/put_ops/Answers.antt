use Rattle.std.proofs.Common.{rules, ◌≤◌, length}
use Rattle.um_image.specs.Places.{OpFits}
use Rattle.um_image.proofs.Added.{ops_next}
use Rattle.um_image.proofs.Fitting.{all_until, until_next}
use Rattle.um_image.proofs.encoding.put_ops.Goals as goal

pub loop-i-preserved : goal.loop-i-preserved
loop-i-preserved c = (
  ops_next c.args.ops.now c.loop-i.i c.index-ops-i.result c.put_number.new.out.items c.loop-i.out.items c.put_op.new.out.items c.loop-i-test.true c.index-ops-i.is c.loop-i.invariant.0 c.in_ok-put_op.ensures.bytes,
  until_next OpFits (λ i. i) c.args.ops.now c.loop-i.i c.index-ops-i.result c.loop-i-test.true c.index-ops-i.is c.in_ok-put_op.ensures.fits c.loop-i.invariant.1,
)

pub returns-clause-fits : goal.returns-clause-fits
returns-clause-fits c =
    let past : length c.args.ops.now ≤ c.loop-i.i = search rules in
    all_until OpFits c.args.ops.now c.loop-i.i past c.loop-i.invariant.1
