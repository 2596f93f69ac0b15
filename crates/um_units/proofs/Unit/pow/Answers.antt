use Rattle.std.proofs.Common.{◌≡◌, ◌∙◌, ap, subst, w32, ℤ}
use Rattle.std.proofs.lemmas.Int.{to_z-of_z}
use Rattle.std.specs.Prelude.{IfOk}
use Rattle.um_units.specs.PowerMap.{PowerMap, mul, one, pow}
use Rattle.um_units.specs.Range.{fits, RangeUnless}
use Rattle.um_units.proofs.Group.{one-mul}
use Rattle.um_units.proofs.Unit.pow.Goals as goal

by_one : (unit of : PowerMap) (k l : ℤ) → unit ≡ one → l ≡ k → mul unit (pow of l) ≡ pow of k
by_one unit of k l e f = ap (λ u. mul u (pow of l)) e ∙ one-mul (pow of l) ∙ ap (pow of) f

pub returns-clause-exact : goal.returns-clause-exact
returns-clause-exact c =
    let e = by_one c.one-one.result c.args.self.now c.args.k _ c.one-one.ensures.exact (to_z-of_z w32 c.args.k c.ranges.k) in
    subst (λ u. IfOk c.mul_pow.result (λ unit. unit ≡ u)) e c.mul_pow.ensures.exact

pub returns-clause-range : goal.returns-clause-range
returns-clause-range c =
    let e = by_one c.one-one.result c.args.self.now c.args.k _ c.one-one.ensures.exact (to_z-of_z w32 c.args.k c.ranges.k) in
    subst (λ u. RangeUnless c.mul_pow.result (fits u)) e c.mul_pow.ensures.range
