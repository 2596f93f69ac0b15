use Rattle.std.proofs.Common.{rules, ◌≡◌, ◌∙◌, ap, subst, to_z, of_z, w32, FitsSigned}
use Rattle.std.proofs.lemmas.Int.{to_z-of_z}
use Rattle.std.specs.Prelude.{IfOk}
use Rattle.um_units.specs.PowerMap.{image, nth, pow, replace}
use Rattle.um_units.specs.Range.{fits, RangeUnless}
use Rattle.um_units.proofs.ShortUnits.{power_put}
use Rattle.um_units.proofs.short.put_in_power.Goals as goal

exact : (c : goal.After-pow) → pow c.in-Some.put.now (to_z w32 (of_z w32 c.args.term.power)) ≡ replace (nth c.args.by.now) c.args.unit.now
exact c =
    let s = nth c.args.by.now in
    let k = c.args.term.power in
    let f : FitsSigned w32 c.args.term.power = search rules in
    ap (λ v. pow v (to_z w32 (of_z w32 k))) c.in-Some.ensures.put
    ∙ ap (pow (image s c.args.term.atom)) (to_z-of_z w32 k f)
    ∙ power_put s c.args.unit.now c.args.term.atom k c.requires

pub returns-in-Some-clause-exact : goal.returns-in-Some-clause-exact
returns-in-Some-clause-exact c = subst (λ u. IfOk c.pow.result (λ unit. unit ≡ u)) (exact c) c.pow.ensures.exact

pub returns-in-Some-clause-range : goal.returns-in-Some-clause-range
returns-in-Some-clause-range c = subst (λ u. RangeUnless c.pow.result (fits u)) (exact c) c.pow.ensures.range
