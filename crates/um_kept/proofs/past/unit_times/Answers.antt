use Rattle.std.proofs.Common.{◌≡◌, ℤ, pos, to_z, w32, w64, sym, ap, subst, ◌∙◌}
use Rattle.std.proofs.lemmas.Int.{to_z-of_z}
use Rattle.std.proofs.lemmas.Result.{IfOk-weaker}
use Rattle.um_units.specs.PowerMap.{PowerMap, mul, pow}
use Rattle.um_units.specs.Range.{fits, RangeUnless}
use Rattle.um_units.proofs.Group.{pow-one}
use Rattle.um_kept.proofs.past.unit_times.Goals as goal

pub returns-then-sign-eq1-clause-exact : goal.returns-then-sign-eq1-clause-exact
returns-then-sign-eq1-clause-exact c =
    let u = c.args.unit.now in
    let v = c.args.other.now in
    let one : c.args.sign ≡ pos 1 = sym (to_z-of_z w64 c.args.sign c.ranges.sign) ∙ ap (to_z w64) c.if-sign-eq1.true in
    let same = sym (ap (pow u) one ∙ pow-one u) in
    IfOk-weaker c.mul_pow.result _ _
    (λ made e. e ∙ ap (λ (z : ℤ). mul u (pow v z)) (to_z-of_z w32 c.args.k c.ranges.k) ∙ ap (λ w. mul w (pow v c.args.k)) same)
    c.mul_pow.ensures.exact

pub returns-then-sign-eq1-clause-range : goal.returns-then-sign-eq1-clause-range
returns-then-sign-eq1-clause-range c =
    let u = c.args.unit.now in
    let v = c.args.other.now in
    let one : c.args.sign ≡ pos 1 = sym (to_z-of_z w64 c.args.sign c.ranges.sign) ∙ ap (to_z w64) c.if-sign-eq1.true in
    let same = sym (ap (pow u) one ∙ pow-one u) in
    subst (λ (w : PowerMap). RangeUnless c.mul_pow.result (fits (mul w (pow v c.args.k)))) same
    (subst (λ (z : ℤ). RangeUnless c.mul_pow.result (fits (mul u (pow v z)))) (to_z-of_z w32 c.args.k c.ranges.k) c.mul_pow.ensures.range)
