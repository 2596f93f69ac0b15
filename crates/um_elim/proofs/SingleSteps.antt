-- Steps at a variable whose power is 1 or -1: nothing but the variable is left, and it is multiplied by the variable over
-- the unit.
use Rattle.std.proofs.Common.{◌≡◌, ℕ, ◌<◌, ◌≤◌, true, false, not, ◌||◌, ℤ, pos, negsuc, ◌+ℤ◌, ◌*ℤ◌, neg_ℤ, nat_abs, to_z, of_z, w32, refl, sym, ap, ◌∙◌, subst, arith}
use Rattle.std.specs.Prelude.{IsTrue}
use Rattle.std.specs.Int.{int_div_euclid, int_rem_euclid}
use Rattle.std.specs.List.{list_any}
use Rattle.std.proofs.lemmas.Int.{ints}
use Rattle.std.proofs.lemmas.Bool.{eq-eqb}
use Rattle.um_units.specs.declared.Atom.{Atom}
use Rattle.um_units.specs.declared.Atom.TheVariants.{Var}
use Rattle.um_units.specs.declared.Term.{Term}
use Rattle.um_units.specs.Atoms.{same_atom}
use Rattle.um_units.specs.NormalForm.{same_atom-eq, same_atom_refl}
use Rattle.um_units.specs.PowerMap.{PowerMap, power_of, atom, mul, inv, pow, replace}
use Rattle.um_units.specs.Range.{fits}
use Rattle.um_units.proofs.Integers.{div-rem_euclid, rem_euclid-below}
use Rattle.um_units.proofs.Equality.{same_unit}
use Rattle.um_units.proofs.Group.{mul_comm, mul_assoc, mul-one, mul-inv, pow-one, inv-inv, power_of-atom, power_of-inv, power_of-mul, power_of-other_atom, terms-atom}
use Rattle.um_units.proofs.InRange.{fits-inv}
use Rattle.um_elim.specs.declared.elim_step.ElimStep.{ElimStep}
use Rattle.um_pivots.specs.Pivot.{is_base, is_other, has_base, has_other}
use Rattle.um_elim.specs.ElimStep.{inverted_if_negative, is_negative, multiply, quotients, signed, step, IsStepOf}
use Rattle.um_elim.proofs.Cases.{on_test}
use Rattle.um_elim.proofs.PivotLaws.{is_pivot}
use Rattle.um_elim.proofs.InRange.{fits-quotients, kept32}
use Rattle.um_elim.proofs.StepLaws.{power_of-quotients_pivot, power_of-quotients_other, power_of-step_pivot, power_of-step_other, positive_pivot, signed_inverted}
use Rattle.um_elim.proofs.StepsOfCode.{IsSet}

over_one : (a : ℤ) → int_div_euclid a (pos 1) ≡ a
over_one a =
    let w = rem_euclid-below a 1 (omega arith) in
    whole a (int_div_euclid a (pos 1)) (int_rem_euclid a (pos 1)) w.0 (div-rem_euclid a 1 (omega arith)) w.1 w.2
  where
    whole : (a q r : ℤ) (c : ℕ) → q *ℤ pos 1 +ℤ r ≡ a → r ≡ pos c → c < 1 → q ≡ a
    whole a q r c e f l = omega (arith, ints, e, f, l)

other_way : (m : ℕ) (y : Atom) → same_atom (Var m) y ≡ false → same_atom y (Var m) ≡ false
other_way m y e = on_test (same_atom y (Var m))
    (λ f. let g : same_atom (Var m) y ≡ true = ap (same_atom (Var m)) (same_atom-eq y (Var m) f) ∙ same_atom_refl (Var m) in cc)
    (λ f. f)

-- ---- what the variable is multiplied by
quotients_by_one : (m : ℕ) (r : PowerMap) → power_of r (Var m) ≡ pos 1 → mul (atom (Var m)) (inv r) ≡ quotients m 1 r
quotients_by_one m r one = same_unit _ _ (λ y.
    let p = power_of-mul (atom (Var m)) (inv r) y in
    let i = power_of-inv r y in
    on_test (same_atom (Var m) y)
    (λ e. let q : Var m ≡ y = same_atom-eq (Var m) y e in
    let a : power_of (atom (Var m)) y ≡ pos 1 = ap (power_of (atom (Var m))) (sym q) ∙ power_of-atom (Var m) in
    let o : power_of r y ≡ pos 1 = ap (power_of r) (sym q) ∙ one in
    let z : power_of (quotients m 1 r) y ≡ pos 0 = ap (power_of (quotients m 1 r)) (sym q) ∙ power_of-quotients_pivot m 1 r in
    omega (arith, ints, p, i, a, o, z))
    (λ e. let a = power_of-other_atom y (Var m) (other_way m y e) in
    let z = power_of-quotients_other m 1 r y e ∙ ap neg_ℤ (over_one (power_of r y)) in
    omega (arith, ints, p, i, a, z)))

variable_over : (m : ℕ) (a : ℤ) (u : PowerMap) → nat_abs a ≡ 1 → power_of u (Var m) ≡ a → mul (atom (Var m)) (pow u (neg_ℤ a)) ≡ quotients m (nat_abs a) (inverted_if_negative a u)
variable_over m (pos n) u h e =
    ap (λ k. mul (atom (Var m)) (pow u (neg_ℤ (pos k)))) h
    ∙ quotients_by_one m u (e ∙ ap pos h)
    ∙ ap (λ k. quotients m k u) (sym h)
variable_over m (negsuc n) u h e =
    ap (λ k. mul (atom (Var m)) (pow u (pos k))) h
    ∙ ap (mul (atom (Var m))) (pow-one u ∙ sym (inv-inv u))
    ∙ quotients_by_one m (inv u) (power_of-inv u (Var m) ∙ ap neg_ℤ e ∙ ap pos h)
    ∙ ap (λ k. quotients m k (inv u)) (sym h)

fits-inverted : (a : ℤ) (u : PowerMap) → IsTrue (fits u) → IsTrue (fits (inverted_if_negative a u))
fits-inverted (pos n) u f = f
fits-inverted (negsuc n) u f = fits-inv u f

fits-variable_over : (m : ℕ) (a : ℤ) (u : PowerMap) → nat_abs a ≡ 1 → IsTrue (fits u) → IsTrue (fits (quotients m (nat_abs a) (inverted_if_negative a u)))
fits-variable_over m a u h f = fits-quotients m (nat_abs a) (inverted_if_negative a u) (omega (arith, h)) (fits-inverted a u f)

-- the negated power as the code passes it, in 32 bits
pub passed_negated : (a k : ℤ) → nat_abs a ≡ 1 → k ≡ neg_ℤ (to_z w32 (of_z w32 a)) → to_z w32 (of_z w32 k) ≡ neg_ℤ a
passed_negated a k h e =
    let f : k ≡ neg_ℤ a = e ∙ ap neg_ℤ (kept32 a (omega (arith, h))) in
    ap (λ z. to_z w32 (of_z w32 z)) f ∙ kept32 (neg_ℤ a) (low a h)
  where
    low : (z : ℤ) → nat_abs z ≡ 1 → nat_abs (neg_ℤ z) ≤ 2147483647
    low z i = omega (arith, ints, i)

-- as the code has it: v is the variable, and k the negated power
module _ (v u : PowerMap) (m : ℕ) (a k : ℤ) (is : v ≡ atom (Var m)) (negated : k ≡ neg_ℤ a) (h : nat_abs a ≡ 1) (e : power_of u (Var m) ≡ a) where
  pub product_over : mul v (pow u k) ≡ quotients m (nat_abs a) (inverted_if_negative a u)
  product_over = ap (λ w. mul w (pow u k)) is ∙ ap (λ z. mul (atom (Var m)) (pow u z)) negated ∙ variable_over m a u h e

  pub fits-product_over : IsTrue (fits u) → fits (mul v (pow u k)) ≡ true
  fits-product_over f = ap fits product_over ∙ fits-variable_over m a u h f

-- ---- what is left
left_alone : (m n : ℕ) (r : PowerMap) → n ≡ 1 → power_of r (Var m) ≡ pos n → replace (step m n r) r ≡ atom (Var m)
left_alone m n r h e = same_unit _ _ (λ y. on_test (same_atom (Var m) y)
    (λ s. let q : Var m ≡ y = same_atom-eq (Var m) y s in
    ap (power_of (replace (step m n r) r)) (sym q) ∙ power_of-step_pivot m n r ∙ e ∙ ap pos h ∙ sym (power_of-atom (Var m)) ∙ ap (power_of (atom (Var m))) q)
    (λ s. let w = power_of-step_other m n r (omega (arith, h)) e y s in
    w.1 ∙ ap pos (none w.0 w.2) ∙ sym (power_of-other_atom y (Var m) (other_way m y s))))
  where
    none : (c : ℕ) → c < n → c ≡ 0
    none c l = omega (arith, l, h)

single_pivot : (r : PowerMap) (t : ElimStep) (is : IsStepOf r t) → nat_abs (power_of r (Var t.variable)) ≡ 1 → nat_abs is.0.power ≡ 1
single_pivot r t is h =
    ap nat_abs (sym (is_pivot r is.0 is.1).is) ∙ ap (λ (x : ElimStep). nat_abs (power_of r (Var x.variable))) (sym is.2) ∙ h

pub single_set : (r : PowerMap) (t : ElimStep) → IsStepOf r t → nat_abs (power_of r (Var t.variable)) ≡ 1 → IsSet r t (atom (Var t.variable))
single_set r t is h =
    let p = is.0 in
    let m = p.variable in
    let n = nat_abs p.power in
    let q = inverted_if_negative p.power r in
    let at : power_of q (Var m) ≡ pos n = positive_pivot p.power m r (is_pivot r p is.1).is in
    record {
      is = is;
      remainder_is = sym (ap (λ (x : ElimStep). replace (multiply x.variable x.by) (signed x.inverted r)) is.2
          ∙ ap (replace (step m n q)) (signed_inverted p.power r)
          ∙ left_alone m n q (single_pivot r t is h) at
          ∙ ap (λ (x : ElimStep). atom (Var x.variable)) (sym is.2));
    }

-- ---- what the variable is multiplied by, over the variable
over_itself : (m : ℕ) (u : PowerMap) → mul (mul (atom (Var m)) (inv u)) (inv (atom (Var m))) ≡ inv u
over_itself m u =
    let x = atom (Var m) in
    ap (λ w. mul w (inv x)) (mul_comm x (inv u)) ∙ mul_assoc (inv u) x (inv x) ∙ ap (mul (inv u)) (mul-inv x) ∙ mul-one (inv u)

change_is : (a : ℤ) (m : ℕ) (r : PowerMap) → nat_abs a ≡ 1 → power_of r (Var m) ≡ a → signed (not (is_negative a)) r ≡ mul (quotients m (nat_abs a) (inverted_if_negative a r)) (inv (atom (Var m)))
change_is (pos n) m r h e =
    sym (over_itself m r) ∙ ap (λ w. mul w (inv (atom (Var m)))) (quotients_by_one m r (e ∙ ap pos h) ∙ ap (λ k. quotients m k r) (sym h))
change_is (negsuc n) m r h e =
    sym (inv-inv r) ∙ sym (over_itself m (inv r))
    ∙ ap (λ w. mul w (inv (atom (Var m)))) (quotients_by_one m (inv r) (power_of-inv r (Var m) ∙ ap neg_ℤ e ∙ ap pos h) ∙ ap (λ k. quotients m k (inv r)) (sym h))

pub single_change : (r : PowerMap) (t : ElimStep) → IsStepOf r t → nat_abs (power_of r (Var t.variable)) ≡ 1 → signed (not t.inverted) r ≡ mul t.by (inv (atom (Var t.variable)))
single_change r t is h =
    let p = is.0 in
    subst (λ (x : ElimStep). signed (not x.inverted) r ≡ mul x.by (inv (atom (Var x.variable)))) (sym is.2) (change_is p.power p.variable r (single_pivot r t is h) (is_pivot r p is.1).is)

-- in the variable itself stands no other, and no base unit
pub no_other_in_variable : (m : ℕ) → has_other m (atom (Var m)) ≡ false
no_other_in_variable m = ap (list_any (λ (k : Term). is_other m k.atom)) (terms-atom (Var m)) ∙ ap (λ b. not b || false) (eq-eqb m m refl)

pub no_base_in_variable : (m : ℕ) → has_base (atom (Var m)) ≡ false
no_base_in_variable m = ap (list_any (λ (k : Term). is_base k.atom)) (terms-atom (Var m))
