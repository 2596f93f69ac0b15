use Rattle.um_image.specs.Places.{OpFits}
use Rattle.um_image.proofs.Fitting.{Until}
use Rattle.um_image.proofs.Added.{OpsLeft}
use Rattle.um_image.proofs.encoding.put_ops.Given as goal

abbrev pub invariant-loop-i : goal.invariant-loop-i
invariant-loop-i l = OpsLeft l.ops l.i l.initial.out.items l.out.items × Until OpFits (λ i. i) l.ops l.i
