use Rattle.std.proofs.Common.{rules, ◌≡◌, sym, ap, subst, to_z, of_z, w32, FitsSigned}
use Rattle.std.proofs.lemmas.Int.{to_z-of_z}
use Rattle.std.specs.Prelude.{IfOk}
use Rattle.um_units.specs.PowerMap.{image, mul, nth, pow}
use Rattle.um_units.specs.Range.{fits, RangeUnless}
use Rattle.um_units.proofs.ShortUnits.{power_passed}
use Rattle.um_units.proofs.short.times_put.Goals as goal

pub returns-in-Some-clause-exact : goal.returns-in-Some-clause-exact
returns-in-Some-clause-exact c =
    let k = c.args.term.power in
    let f : FitsSigned w32 c.args.term.power = search rules in
    let same = power_passed c.args.left.now c.in-Some.put.now (image (nth c.args.by.now) c.args.term.atom) k (to_z w32 (of_z w32 k)) c.in-Some.ensures.put (to_z-of_z w32 k f) in
    subst (λ u. IfOk c.mul_pow.result (λ unit. unit ≡ u)) same c.mul_pow.ensures.exact

pub returns-in-Some-clause-range : goal.returns-in-Some-clause-range
returns-in-Some-clause-range c =
    let k = c.args.term.power in
    let f : FitsSigned w32 c.args.term.power = search rules in
    let same = power_passed c.args.left.now c.in-Some.put.now (image (nth c.args.by.now) c.args.term.atom) k (to_z w32 (of_z w32 k)) c.in-Some.ensures.put (to_z-of_z w32 k f) in
    subst (λ u. RangeUnless c.mul_pow.result (fits u)) same c.mul_pow.ensures.range

pub returns-in-None-clause-exact : goal.returns-in-None-clause-exact
returns-in-None-clause-exact c =
    subst (λ u. IfOk c.times_term.result (λ unit. unit ≡ u)) (ap (λ v. mul c.args.left.now (pow v c.args.term.power)) (sym c.in-None.ensures.stays)) c.times_term.ensures.exact

pub returns-in-None-clause-range : goal.returns-in-None-clause-range
returns-in-None-clause-range c =
    subst (λ u. RangeUnless c.times_term.result (fits u)) (ap (λ v. mul c.args.left.now (pow v c.args.term.power)) (sym c.in-None.ensures.stays)) c.times_term.ensures.range
