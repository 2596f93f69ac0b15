use Rattle.std.proofs.Common.{◌≡◌, sym, ◌∙◌, ap, subst, to_z, of_z, w32}
use Rattle.std.specs.Prelude.{IfOk}
use Rattle.std.proofs.lemmas.Int.{to_z-of_z}
use Rattle.um_units.specs.PowerMap.{mul, pow, replace}
use Rattle.um_units.specs.Range.{fits, RangeUnless}
use Rattle.um_elim.specs.ElimStep.{multiply}
use Rattle.um_elim.proofs.Shear.{replace-multiply}
use Rattle.um_elim.proofs.elim_step.multiplied.Goals as goal

exact : (c : goal.After-mul_pow) → mul c.args.unit.now (pow c.args.w.now (to_z w32 (of_z w32 c.power_of-power.result))) ≡ replace (multiply c.args.m c.args.w.now) c.args.unit.now
exact c =
    ap (λ k. mul c.args.unit.now (pow c.args.w.now k)) (to_z-of_z w32 c.power_of-power.result (record { sfits = c.power_of-power.type_inv }) ∙ c.power_of-power.ensures.power)
    ∙ sym (replace-multiply c.args.m c.args.w.now c.args.unit.now)

pub returns-clause-exact : goal.returns-clause-exact
returns-clause-exact c = subst (λ u. IfOk c.mul_pow.result (λ unit. unit ≡ u)) (exact c) c.mul_pow.ensures.exact

pub returns-clause-range : goal.returns-clause-range
returns-clause-range c = subst (λ u. RangeUnless c.mul_pow.result (fits u)) (exact c) c.mul_pow.ensures.range
