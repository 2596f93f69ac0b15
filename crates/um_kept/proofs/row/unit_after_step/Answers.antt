use Rattle.std.proofs.Common.{◌≡◌, ◌≤◌, ◌∙◌, true, false, ℤ, pos, neg_ℤ, nat_abs, ◌-ℤ◌, sym, ap, subst, to_z, of_z, w32, FitsSigned}
use Rattle.std.specs.Prelude.{MatchResult}
use Rattle.std.proofs.lemmas.Int.{to_z-of_z}
use Rattle.um_units.specs.declared.Atom.TheVariants.{Var}
use Rattle.um_units.specs.PowerMap.{PowerMap, power_of, replace}
use Rattle.um_units.proofs.Group.{power_of-inv}
use Rattle.um_units.proofs.InRange.{fits-power_of}
use Rattle.um_elim.specs.ElimStep.{multiply, signed}
use Rattle.um_elim.proofs.InRange.{kept32}
use Rattle.um_kept.specs.Answers.{CarriesPower}
use Rattle.um_kept.proofs.Limits.{negated32}
use Rattle.um_kept.proofs.Times.{times_is, negated_passed}
use Rattle.um_kept.proofs.row.unit_after_step.Goals as goal

pub overflow_sub-power : goal.overflow_sub-power
overflow_sub-power c =
    let z = c.power_of-power.result in
    let h : nat_abs z ≤ 2147483647 = subst (λ n. nat_abs n ≤ 2147483647) (sym c.power_of-power.ensures.power) (fits-power_of c.args.r.now c.power_of-power.ensures.fits (Var c.args.step.now.variable)) in
    subst (λ (n : ℤ). FitsSigned w32 (pos 0 -ℤ n)) (sym (kept32 z h)) (negated32 z h)

pub returns-then-step : goal.returns-then-step
returns-then-step c =
    let r = c.args.r.now in
    let m = c.args.step.now.variable in
    let w = c.args.step.now.by in
    let z = c.power_of-power.result in
    let h : nat_abs z ≤ 2147483647 = subst (λ n. nat_abs n ≤ 2147483647) (sym c.power_of-power.ensures.power) (fits-power_of r c.power_of-power.ensures.fits (Var m)) in
    let k = to_z w32 (of_z w32 (pos 0 -ℤ to_z w32 (of_z w32 z))) in
    let power : k ≡ power_of (signed true r) (Var m) = negated_passed z h ∙ ap neg_ℤ c.power_of-power.ensures.power ∙ sym (power_of-inv r (Var m)) in
    subst (λ (u : PowerMap). MatchResult c.times.result (λ left. left ≡ u) (CarriesPower 2147483647 u))
    (times_is true m w r k power ∙ ap (λ b. replace (multiply m w) (signed b r)) (sym c.if-step.true))
    c.times.ensures

pub returns : goal.returns
returns c =
    let r = c.args.r.now in
    let m = c.args.step.now.variable in
    let w = c.args.step.now.by in
    let k = to_z w32 (of_z w32 c.power_of-power.result) in
    let power : k ≡ power_of r (Var m) = to_z-of_z w32 c.power_of-power.result (record { sfits = c.power_of-power.type_inv }) ∙ c.power_of-power.ensures.power in
    subst (λ (u : PowerMap). MatchResult c.times-2.result (λ left. left ≡ u) (CarriesPower 2147483647 u))
    (times_is false m w r k power ∙ ap (λ b. replace (multiply m w) (signed b r)) (sym c.if-step.false))
    c.times-2.ensures
