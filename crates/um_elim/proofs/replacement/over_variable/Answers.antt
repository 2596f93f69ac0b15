use Rattle.std.proofs.Common.{subst, negsuc}
use Rattle.um_units.specs.PowerMap.{mul, pow}
use Rattle.um_units.specs.Range.{fits, RangeUnless}
use Rattle.um_elim.proofs.InRange.{only_memory}
use Rattle.um_elim.proofs.LastStep.{over_variable, fits-over_variable}
use Rattle.um_elim.proofs.replacement.over_variable.Goals as goal

pub returns-clause-memory : goal.returns-clause-memory
returns-clause-memory c =
    let u = c.args.unit.now in
    only_memory c.mul_pow.result (fits (over_variable c.args.m u)) (fits-over_variable c.args.m u c.requires.absent c.requires.fits)
    (subst (λ v. RangeUnless c.mul_pow.result (fits (mul u (pow v (negsuc 0))))) c.in_ok-variable.ensures.exact c.mul_pow.ensures.range)
