-- Powers in range: the quotients of a unit, and a unit in which 1 is put for a variable.
use Rattle.std.proofs.Common.{◌≡◌, ℕ, ◌<◌, ◌≤◌, false, Some, ℤ, pos, negsuc, ◌+ℤ◌, ◌*ℤ◌, neg_ℤ, nat_abs, refl, sym, ap, ◌∙◌, subst, arith, to_z, of_z, w32}
use Rattle.std.specs.Prelude.{IsTrue, Bool, Result, Ok, Err, IfErr}
use Rattle.um_units.specs.declared.UnitStop.{UnitStop}
use Rattle.um_units.specs.declared.UnitStop.TheVariants.{Range, NoMemory}
use Rattle.std.specs.Int.{int_div_euclid}
use Rattle.std.proofs.lemmas.Int.{ints}
use Rattle.um_units.specs.declared.Atom.{Atom}
use Rattle.um_units.specs.declared.Atom.TheVariants.{Var}
use Rattle.um_units.specs.Atoms.{same_atom}
use Rattle.um_units.specs.NormalForm.{same_atom-eq}
use Rattle.um_units.specs.Terms.{indicator}
use Rattle.um_units.specs.PowerMap.{PowerMap, power_of, one, atom, inv, replace}
use Rattle.um_units.specs.Range.{fits, RangeUnless}
use Rattle.um_units.proofs.Group.{weight-inv, power_of-atom, power_of-other_atom}
use Rattle.um_units.proofs.InRange.{fits-power_of, fits_from_powers}
use Rattle.um_pivots.specs.declared.pivot.Pivot.{Pivot}
use Rattle.um_pivots.specs.Pivot.{pivot}
use Rattle.um_elim.specs.ElimStep.{substitute, quotients}
use Rattle.um_elim.proofs.Cases.{on_test}
use Rattle.um_elim.proofs.Shear.{power_of-multiply, substitute-one}
use Rattle.um_elim.proofs.PivotLaws.{is_pivot}
use Rattle.um_elim.proofs.StepLaws.{power_of-quotients_pivot, power_of-quotients_other, positive_size}

-- a quotient is no greater than what is divided
quotient-low : (a : ℤ) (p : ℕ) → 0 < p → nat_abs (neg_ℤ (int_div_euclid a (pos p))) ≤ nat_abs a
quotient-low (pos a) p h = omega (arith, ints, h)
quotient-low (negsuc a) p h = omega (arith, ints, h)

pub fits-quotients : (m p : ℕ) (r : PowerMap) → 0 < p → IsTrue (fits r) → IsTrue (fits (quotients m p r))
fits-quotients m p r h f = fits_from_powers (quotients m p r) (λ y.
    on_test (same_atom (Var m) y)
    (λ e. let q : Var m ≡ y = same_atom-eq (Var m) y e in
    let z : nat_abs (power_of (quotients m p r) y) ≡ 0 = ap (λ x. nat_abs (power_of (quotients m p r) x)) (sym q) ∙ ap nat_abs (power_of-quotients_pivot m p r) in omega (arith, z))
    (λ e. let z = ap nat_abs (power_of-quotients_other m p r y e) in
    let l = quotient-low (power_of r y) p h in
    let i = fits-power_of r f y in omega (arith, z, l, i)))

-- ---- 1 for a variable
pub power_of-substitute_one : (m : ℕ) (u : PowerMap) (x : Atom) → same_atom x (Var m) ≡ false → power_of (replace (substitute m one) u) x ≡ power_of u x
power_of-substitute_one m u x e =
    ap (λ s. power_of (replace s u) x) (sym (substitute-one m)) ∙ power_of-multiply m (inv (atom (Var m))) u x
    ∙ ap (λ n. power_of u x +ℤ power_of u (Var m) *ℤ n) (weight-inv (indicator x) (atom (Var m)) ∙ ap neg_ℤ (power_of-other_atom x (Var m) e))
    ∙ nothing (power_of u x) (power_of u (Var m))
  where
    nothing : (a b : ℤ) → a +ℤ b *ℤ pos 0 ≡ a
    nothing a b = omega (arith, ints)

power_of-substitute_one_same : (m : ℕ) (u : PowerMap) → power_of (replace (substitute m one) u) (Var m) ≡ pos 0
power_of-substitute_one_same m u =
    ap (λ s. power_of (replace s u) (Var m)) (sym (substitute-one m)) ∙ power_of-multiply m (inv (atom (Var m))) u (Var m)
    ∙ ap (λ n. power_of u (Var m) +ℤ power_of u (Var m) *ℤ n) (weight-inv (indicator (Var m)) (atom (Var m)) ∙ ap neg_ℤ (power_of-atom (Var m)))
    ∙ cancelled (power_of u (Var m))
  where
    cancelled : (a : ℤ) → a +ℤ a *ℤ negsuc 0 ≡ pos 0
    cancelled a = omega (arith, ints)

pub fits-substitute_one : (m : ℕ) (u : PowerMap) → IsTrue (fits u) → IsTrue (fits (replace (substitute m one) u))
fits-substitute_one m u f = fits_from_powers (replace (substitute m one) u) (λ x.
    on_test (same_atom x (Var m))
    (λ e. let q = same_atom-eq x (Var m) e in
    let z : nat_abs (power_of (replace (substitute m one) u) x) ≡ 0 = ap (λ y. nat_abs (power_of (replace (substitute m one) u) y)) q ∙ ap nat_abs (power_of-substitute_one_same m u) in omega (arith, z))
    (λ e. let z = ap nat_abs (power_of-substitute_one m u x e) in let i = fits-power_of u f x in omega (arith, z, i)))

-- ---- the pivot's power
pub pivot-in_range : (r : PowerMap) (p : Pivot) → IsTrue (fits r) → pivot r ≡ Some p → nat_abs p.power ≤ 2147483647
pivot-in_range r p f e = subst (λ z. nat_abs z ≤ 2147483647) (is_pivot r p e).is (fits-power_of r f (Var p.variable))

pub pivot-positive : (r : PowerMap) (p : Pivot) → pivot r ≡ Some p → 0 < nat_abs p.power
pivot-positive r p e = positive_size p.power (is_pivot r p e).nonzero

-- a power in range is kept by 32 bits
pub kept32 : (z : ℤ) → nat_abs z ≤ 2147483647 → to_z w32 (of_z w32 z) ≡ z
kept32 z h = omega (arith, ints)

-- where the result is in range, only memory can be wanting
pub only_memory : {X : Type 0} (r : Result X UnitStop) (b : Bool) → IsTrue b → RangeUnless r b → IfErr r (λ stop. stop ≡ NoMemory)
only_memory (Ok x) b h k = tt
only_memory (Err Range) b h k = cc
only_memory (Err NoMemory) b h k = refl
