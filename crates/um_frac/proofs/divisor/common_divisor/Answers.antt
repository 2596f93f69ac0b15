use Rattle.std.proofs.Common.{◌∙◌}
use Rattle.um_frac.proofs.Gcd.{gcd-mod, gcd-none, gcd_above}
use Rattle.um_frac.proofs.divisor.common_divisor.Goals as goal

pub loop-y-preserved : goal.loop-y-preserved
loop-y-preserved c = gcd-mod c.loop-y.x c.loop-y.y ∙ c.loop-y.invariant

pub returns : goal.returns
returns c =
    let value = gcd-none c.loop-y.x c.loop-y.y c.loop-y-test.false ∙ c.loop-y.invariant in
    record { value = value; positive = gcd_above c.args.a c.args.b c.loop-y.x value }
