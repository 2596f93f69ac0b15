-- The last step of a row in one step: where a variable is multiplied by a unit that doesn't hold it and 1 is put for it
-- then, that unit is put for it.
use Rattle.std.proofs.Common.{◌≡◌, ℕ, ◌<◌, ◌&&◌, List, [], ◌∷◌, map, ℤ, pos, ◌+ℤ◌, ◌*ℤ◌, nat_abs, refl, sym, ap, ◌∙◌, subst, arith}
use Rattle.std.specs.Prelude.{IsTrue, All}
use Rattle.std.specs.List.{list_all}
use Rattle.std.proofs.lemmas.Int.{ints}
use Rattle.std.proofs.lemmas.List.Elements.{All-head, All-tail}
use Rattle.um_frac.proofs.Integers.{*ℤ-+ℤ}
use Rattle.um_units.specs.declared.Atom.TheVariants.{Var}
use Rattle.um_units.specs.Atoms.{same_atom}
use Rattle.um_units.specs.NormalForm.{same_atom-eq}
use Rattle.um_units.specs.PowerMap.{PowerMap, power_of, one, atom, mul, inv, replace}
use Rattle.um_units.specs.Range.{fits}
use Rattle.um_units.specs.Variables.{VariablesBelow}
use Rattle.um_units.proofs.Equality.{same_unit}
use Rattle.um_units.proofs.Group.{mul_comm, mul_assoc, mul-inv, mul-one, power_of-mul, power_of-inv, power_of-atom, power_of-other_atom}
use Rattle.um_units.proofs.InRange.{fits-power_of, fits_from_powers}
use Rattle.um_units.proofs.Variables.{VariablesBelow-mul, VariablesBelow-inv}
use Rattle.um_elim.specs.ElimStep.{substitute, multiply}
use Rattle.um_elim.proofs.Cases.{on_test}
use Rattle.um_elim.proofs.Shear.{power_of-multiply, power_of-multiply_same, substitute-one}
use Rattle.um_elim.proofs.InRange.{power_of-substitute_one, fits-substitute_one}
use Rattle.um_elim.proofs.VariablesKept.{own_below}

-- the unit divided by variable m
abbrev pub over_variable : ℕ → PowerMap → PowerMap
over_variable m w = mul w (inv (atom (Var m)))

-- variable m times it is the unit
pub multiply-over_variable : (m : ℕ) (w : PowerMap) → multiply m (over_variable m w) ≡ substitute m w
multiply-over_variable m w =
    let x = atom (Var m) in
    ap (substitute m) (mul_comm x (mul w (inv x)) ∙ mul_assoc w (inv x) x ∙ ap (mul w) (mul_comm (inv x) x ∙ mul-inv x) ∙ mul-one w)

pub over_variable-below : (n m : ℕ) (w : PowerMap) → m < n → VariablesBelow n w → VariablesBelow n (over_variable m w)
over_variable-below n m w h below = VariablesBelow-mul n w (inv (atom (Var m))) below (VariablesBelow-inv n (atom (Var m)) (own_below n m h))

-- ---- the unit doesn't hold the variable
module _ (m : ℕ) (w : PowerMap) (absent : power_of w (Var m) ≡ pos 0) where
  pub fits-over_variable : IsTrue (fits w) → IsTrue (fits (over_variable m w))
  fits-over_variable f = fits_from_powers (over_variable m w) (λ x.
      let p = power_of-mul w (inv (atom (Var m))) x in
      let i = power_of-inv (atom (Var m)) x in
      on_test (same_atom x (Var m))
      (λ e. let q = same_atom-eq x (Var m) e in
      let z : power_of w x ≡ pos 0 = ap (power_of w) q ∙ absent in
      let o : power_of (atom (Var m)) x ≡ pos 1 = ap (power_of (atom (Var m))) q ∙ power_of-atom (Var m) in
      omega (arith, ints, p, i, z, o))
      (λ e. let o = power_of-other_atom x (Var m) e in
      let l = fits-power_of w f x in
      omega (arith, ints, p, i, o, l)))

  distributed : (a b c d : ℤ) → (a +ℤ b *ℤ c) +ℤ b *ℤ d ≡ a +ℤ b *ℤ (c +ℤ d)
  distributed a b c d = omega (arith, ints, *ℤ-+ℤ b c d)

  pub one_for_multiplied : (u : PowerMap) → replace (substitute m one) (replace (multiply m w) u) ≡ replace (substitute m w) u
  one_for_multiplied u =
      let v = replace (multiply m w) u in
      let i = inv (atom (Var m)) in
      ap (λ s. replace s v) (sym (substitute-one m))
      ∙ same_unit (replace (multiply m i) v) (replace (multiply m (mul w i)) u) (λ x. power_of-multiply m i v x
      ∙ ap (λ n. n +ℤ power_of v (Var m) *ℤ power_of i x) (power_of-multiply m w u x)
      ∙ ap (λ n. (power_of u x +ℤ power_of u (Var m) *ℤ power_of w x) +ℤ n *ℤ power_of i x) (power_of-multiply_same m w u absent)
      ∙ distributed (power_of u x) (power_of u (Var m)) (power_of w x) (power_of i x)
      ∙ ap (λ n. power_of u x +ℤ power_of u (Var m) *ℤ n) (sym (power_of-mul w i x))
      ∙ sym (power_of-multiply m (mul w i) u x))
      ∙ ap (λ s. replace s u) (multiply-over_variable m w)

  pub one_for_all_multiplied : (us : List PowerMap) → map (replace (substitute m one)) (map (replace (multiply m w)) us) ≡ map (replace (substitute m w)) us
  one_for_all_multiplied [] = refl
  one_for_all_multiplied (u ∷ us) =
      ap (λ v. v ∷ map (replace (substitute m one)) (map (replace (multiply m w)) us)) (one_for_multiplied u)
      ∙ ap (λ vs. replace (substitute m w) u ∷ vs) (one_for_all_multiplied us)

  -- ---- the powers pass the range in the one step exactly where they do before 1 is put for the variable
  fits-multiplied : (u : PowerMap) → IsTrue (fits u) → IsTrue (fits (replace (substitute m w) u)) → IsTrue (fits (replace (multiply m w) u))
  fits-multiplied u f g =
      let v = replace (multiply m w) u in
      fits_from_powers v (λ x.
      on_test (same_atom x (Var m))
      (λ e. let z : nat_abs (power_of v x) ≡ nat_abs (power_of u (Var m)) = ap (λ y. nat_abs (power_of v y)) (same_atom-eq x (Var m) e) ∙ ap nat_abs (power_of-multiply_same m w u absent) in
      let l = fits-power_of u f (Var m) in omega (arith, z, l))
      (λ e. let z : nat_abs (power_of (replace (substitute m w) u) x) ≡ nat_abs (power_of v x) = ap (λ t. nat_abs (power_of t x)) (sym (one_for_multiplied u)) ∙ ap nat_abs (power_of-substitute_one m v x e) in
      let l = fits-power_of (replace (substitute m w) u) g x in omega (arith, z, l)))

  fits-alike : (u : PowerMap) → IsTrue (fits u) → fits (replace (substitute m w) u) ≡ fits (replace (multiply m w) u)
  fits-alike u f =
      on_test (fits (replace (multiply m w) u))
      (λ e. subst (λ t. IsTrue (fits t)) (one_for_multiplied u) (fits-substitute_one m (replace (multiply m w) u) e) ∙ sym e)
      (λ e. on_test (fits (replace (substitute m w) u))
      (λ g. let h = fits-multiplied u f g in cc)
      (λ g. g ∙ sym e))

  pub all_fit-alike : (us : List PowerMap) → All (λ u. IsTrue (fits u)) us → list_all fits (map (replace (substitute m w)) us) ≡ list_all fits (map (replace (multiply m w)) us)
  all_fit-alike [] all = refl
  all_fit-alike (u ∷ us) all =
      ap (λ b. b && list_all fits (map (replace (substitute m w)) us)) (fits-alike u (All-head (λ t. IsTrue (fits t)) u us all))
      ∙ ap (λ b. fits (replace (multiply m w) u) && b) (all_fit-alike us (All-tail (λ t. IsTrue (fits t)) u us all))
