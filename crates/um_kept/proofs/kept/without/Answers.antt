use Rattle.std.proofs.Common.{◌≡◌, ◌≤◌, ◌<◌, ℕ, ℤ, pos, neg_ℤ, ◌-ℤ◌, nat_abs, to_z, of_z, w32, sym, ap, ◌∙◌, subst, arith, FitsSigned}
use Rattle.std.specs.Prelude.{IsTrue}
use Rattle.um_units.specs.declared.Atom.TheVariants.{Var}
use Rattle.um_units.specs.PowerMap.{PowerMap, power_of, one, atom, mul, pow, replace}
use Rattle.um_units.specs.Range.{fits}
use Rattle.um_units.proofs.InRange.{fits-power_of}
use Rattle.um_elim.specs.ElimStep.{substitute}
use Rattle.um_elim.proofs.InRange.{kept32, fits-substitute_one}
use Rattle.um_kept.specs.Formed.{IsPowerIn}
use Rattle.um_kept.proofs.Limits.{negated32}
use Rattle.um_kept.proofs.Times.{without_is, negated_passed}
use Rattle.um_kept.proofs.kept.without.Goals as goal

pub overflow_sub-power_of : goal.overflow_sub-power_of
overflow_sub-power_of c =
    let z = c.power_of.result in
    let h : nat_abs z ≤ 2147483647 = subst (λ n. nat_abs n ≤ 2147483647) (sym c.power_of.ensures.power) (fits-power_of c.args.unit.now c.power_of.ensures.fits (Var c.args.m)) in
    subst (λ (n : ℤ). FitsSigned w32 (pos 0 -ℤ n)) (sym (kept32 z h)) (negated32 z h)

-- the product that the code forms
formed : (m : ℕ) (u variable : PowerMap) (z : ℤ) → variable ≡ atom (Var m) → z ≡ power_of u (Var m) → IsTrue (fits u) →
    mul (pow u (pos 1)) (pow variable (to_z w32 (of_z w32 (pos 0 -ℤ to_z w32 (of_z w32 z))))) ≡ replace (substitute m one) u
formed m u variable z e f fit =
    let h : nat_abs z ≤ 2147483647 = subst (λ n. nat_abs n ≤ 2147483647) (sym f) (fits-power_of u fit (Var m)) in
    ap (λ v. mul (pow u (pos 1)) (pow v (to_z w32 (of_z w32 (pos 0 -ℤ to_z w32 (of_z w32 z)))))) e
    ∙ without_is m u (to_z w32 (of_z w32 (pos 0 -ℤ to_z w32 (of_z w32 z)))) (negated_passed z h ∙ ap neg_ℤ f)

pub returns-in-Ok : goal.returns-in-Ok
returns-in-Ok c =
    c.in-Ok.ensures ∙ formed c.args.m c.args.unit.now c.in_ok-variable.variable c.power_of.result c.in_ok-variable.ensures.exact c.power_of.ensures.power c.power_of.ensures.fits

pub unreachable-requires : goal.unreachable-requires
unreachable-requires c =
    let m = c.args.m in
    let u = c.args.unit.now in
    let same = formed m u c.in_ok-variable.variable c.power_of.result c.in_ok-variable.ensures.exact c.power_of.ensures.power c.power_of.ensures.fits in
    let w = rw c.in-Err-CertRange.field-0-is at c.in-Err-CertRange.ensures in
    let past : 2147483647 < nat_abs c.in-Err-CertRange.field-0-0 = w.1 in
    let at : IsPowerIn c.in-Err-CertRange.field-0-0 (replace (substitute m one) u) = subst (IsPowerIn c.in-Err-CertRange.field-0-0) same w.0 in
    let low : nat_abs c.in-Err-CertRange.field-0-0 ≤ 2147483647 = subst (λ n. nat_abs n ≤ 2147483647) at.1 (fits-power_of (replace (substitute m one) u) (fits-substitute_one m u c.power_of.ensures.fits) at.0) in
    omega (arith, past, low)
