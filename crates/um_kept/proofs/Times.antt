-- A unit times another's power, as a step and the end of a variable want it.
use Rattle.std.proofs.Common.{◌≡◌, ◌≤◌, ℕ, Bool, true, false, ℤ, pos, negsuc, neg_ℤ, nat_abs, ◌*ℤ◌, ◌-ℤ◌, to_z, of_z, w32, sym, ap, ◌∙◌, arith}
use Rattle.std.proofs.lemmas.Int.{ints, to_z-of_z}
use Rattle.um_units.specs.declared.Atom.TheVariants.{Var}
use Rattle.um_units.specs.PowerMap.{PowerMap, power_of, one, atom, mul, inv, pow, replace}
use Rattle.um_units.proofs.Group.{pow-one, pow-pow}
use Rattle.um_elim.specs.ElimStep.{substitute, multiply, signed}
use Rattle.um_elim.proofs.InRange.{kept32}
use Rattle.um_elim.proofs.Shear.{replace-multiply, multiply_nothing, substitute-one}
use Rattle.um_kept.specs.Steps.{sign_of}
use Rattle.um_kept.proofs.Limits.{negated32}

pub times_is : (b : Bool) (m : ℕ) (w r : PowerMap) (k : ℤ) → k ≡ power_of (signed b r) (Var m) → mul (pow r (sign_of b)) (pow w k) ≡ replace (multiply m w) (signed b r)
times_is true m w r k e = ap (λ z. mul (inv r) (pow w z)) e ∙ sym (replace-multiply m w (inv r))
times_is false m w r k e = ap (λ v. mul v (pow w k)) (pow-one r) ∙ ap (λ z. mul r (pow w z)) e ∙ sym (replace-multiply m w r)

pub without_is : (m : ℕ) (u : PowerMap) (k : ℤ) → k ≡ neg_ℤ (power_of u (Var m)) → mul (pow u (pos 1)) (pow (atom (Var m)) k) ≡ replace (substitute m one) u
without_is m u k e =
    ap (λ v. mul v (pow (atom (Var m)) k)) (pow-one u)
    ∙ ap (λ z. mul u (pow (atom (Var m)) z)) (e ∙ as_product (power_of u (Var m)))
    ∙ ap (mul u) (sym (pow-pow (atom (Var m)) (negsuc 0) (power_of u (Var m))))
    ∙ sym (replace-multiply m (inv (atom (Var m))) u)
    ∙ ap (λ s. replace s u) (substitute-one m)
  where
    as_product : (z : ℤ) → neg_ℤ z ≡ z *ℤ negsuc 0
    as_product z = omega (arith, ints)

-- a unit without the variable is left
pub absent_without : (m : ℕ) (u : PowerMap) → power_of u (Var m) ≡ pos 0 → replace (substitute m one) u ≡ u
absent_without m u e = ap (λ s. replace s u) (sym (substitute-one m)) ∙ multiply_nothing m (inv (atom (Var m))) u e

-- a negated power, as the code passes it
pub negated_passed : (z : ℤ) → nat_abs z ≤ 2147483647 → to_z w32 (of_z w32 (pos 0 -ℤ to_z w32 (of_z w32 z))) ≡ neg_ℤ z
negated_passed z h = ap (λ y. to_z w32 (of_z w32 (pos 0 -ℤ y))) (kept32 z h) ∙ to_z-of_z w32 (pos 0 -ℤ z) (negated32 z h) ∙ negated z
  where
    negated : (z : ℤ) → pos 0 -ℤ z ≡ neg_ℤ z
    negated z = omega (arith, ints)
