use Rattle.std.proofs.Common.{◌≡◌, ◌∙◌, ap, subst}
use Rattle.std.specs.Prelude.{IfOk}
use Rattle.um_units.specs.PowerMap.{image, mul, nth, pow, replace}
use Rattle.um_units.specs.Range.{fits, RangeUnless}
use Rattle.um_units.proofs.ShortUnits.{product_put}
use Rattle.um_units.proofs.short.put_in_product.Goals as goal

exact : (c : goal.After-times_put) → mul c.in-Some.left.now (pow (image (nth c.args.by.now) c.args.second.atom) c.args.second.power) ≡ replace (nth c.args.by.now) c.args.unit.now
exact c =
    let s = nth c.args.by.now in
    let k = c.args.second.power in
    ap (λ v. mul v (pow (image s c.args.second.atom) k)) c.in-Some.ensures.put ∙ product_put s c.args.unit.now c.args.first c.args.second.atom k c.requires

pub returns-in-Some-clause-exact : goal.returns-in-Some-clause-exact
returns-in-Some-clause-exact c = subst (λ u. IfOk c.times_put.result (λ unit. unit ≡ u)) (exact c) c.times_put.ensures.exact

pub returns-in-Some-clause-range : goal.returns-in-Some-clause-range
returns-in-Some-clause-range c = subst (λ u. RangeUnless c.times_put.result (fits u)) (exact c) c.times_put.ensures.range
