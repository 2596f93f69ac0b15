use Rattle.std.proofs.Common.{◌≡◌, ◌∙◌, sym, ap, subst}
use Rattle.std.specs.Int.{w128}
use Rattle.std.specs.Prelude.{IfOk}
use Rattle.std.proofs.lemmas.Int.{to_z-of_z}
use Rattle.um_units.specs.PowerMap.{PowerMap, mul, pow}
use Rattle.um_elim.proofs.Shear.{replace-multiply}
use Rattle.um_reasons.proofs.powers.multiplied.Goals as goal

pub returns-clause-exact : goal.returns-clause-exact
returns-clause-exact c =
    subst (λ (u : PowerMap). IfOk c.times.result (λ made. made ≡ u))
    (ap (λ k. mul c.args.unit.now (pow c.args.w.now k)) (to_z-of_z w128 c.power_of-power.result (record { sfits = c.power_of-power.type_inv }) ∙ c.power_of-power.ensures.power)
    ∙ sym (replace-multiply c.args.m c.args.w.now c.args.unit.now))
    c.times.ensures.exact
