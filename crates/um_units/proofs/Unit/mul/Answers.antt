use Rattle.std.proofs.Common.{◌≡◌, subst}
use Rattle.std.specs.Prelude.{IfOk}
use Rattle.um_units.specs.PowerMap.{mul}
use Rattle.um_units.specs.Range.{fits, RangeUnless}
use Rattle.um_units.proofs.Group.{pow-one}
use Rattle.um_units.proofs.Unit.mul.Goals as goal

pub returns-clause-exact : goal.returns-clause-exact
returns-clause-exact c = subst (λ v. IfOk c.mul_pow.result (λ unit. unit ≡ mul c.args.self.now v)) (pow-one c.args.other.now) c.mul_pow.ensures.exact

pub returns-clause-range : goal.returns-clause-range
returns-clause-range c = subst (λ v. RangeUnless c.mul_pow.result (fits (mul c.args.self.now v))) (pow-one c.args.other.now) c.mul_pow.ensures.range
