use Rattle.std.proofs.Common.{◌∙◌}
use Rattle.um_frac.proofs.Gcd.{gcd-mod, gcd-none, gcd_above}
use Rattle.um_frac.proofs.divisor.wide_common_divisor.Goals as goal

pub loop-y-preserved : goal.loop-y-preserved
loop-y-preserved c = gcd-mod c.loop-y.x c.loop-y.y ∙ c.loop-y.invariant

pub returns-then-y-eq0 : goal.returns-then-y-eq0
returns-then-y-eq0 c =
    let value = gcd-none c.loop-y.x c.loop-y.y c.if-y-eq0.true ∙ c.loop-y.invariant in
    record { value = value; positive = gcd_above c.args.a c.args.b c.loop-y.x value }

pub returns : goal.returns
returns c =
    let value = c.common_divisor.ensures.value ∙ gcd-mod c.loop-y.x c.loop-y.y ∙ c.loop-y.invariant in
    record { value = value; positive = gcd_above c.args.a c.args.b c.common_divisor.result value }
