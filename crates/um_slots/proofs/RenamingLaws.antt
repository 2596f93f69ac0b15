-- Where variables are put for variables, no two the same, each power stays in range.
use Rattle.std.proofs.Common.{◌≡◌, ◌≢◌, ℕ, ◌<◌, ◌≤◌, cond, eqb, List, [], ◌∷◌, length, nat_abs, pos, ◌+ℤ◌, ◌*ℤ◌, refl, sym, ap, ◌∙◌, subst, arith}
use Rattle.std.specs.Prelude.{IsTrue}
use Rattle.std.proofs.lemmas.Bool.{eqb-true, eq-eqb, ne_eqb, eqb-false}
use Rattle.std.proofs.Math.Bool.{Bool-set}
use mathlib.Core.Logic.{∥∥₁_elim}
use Rattle.um_units.specs.declared.Atom.{Atom}
use Rattle.um_units.specs.declared.Atom.TheVariants.{Base, Var}
use Rattle.um_units.specs.declared.Term.{Term}
use Rattle.um_units.specs.Terms.{weigh, indicator}
use Rattle.um_units.specs.PowerMap.{PowerMap, power_of, image, replace, nth}
use Rattle.um_units.specs.Range.{fits}
use Rattle.um_units.specs.Variables.{VariablesBelow}
use Rattle.um_units.proofs.Group.{weight-atom}
use Rattle.um_units.proofs.Equality.{tail_only}
use Rattle.um_units.proofs.Replacement.{power_of-replace, weight_held}
use Rattle.um_units.proofs.InRange.{fits-power_of, fits_from_powers}
use Rattle.um_elim.proofs.Cases.{on_test}
use Rattle.um_slots.specs.SlotUnits.{AreNumbered, AreVariables}

no_weight : (ts : List Term) → weigh (λ _. pos 0) ts ≡ pos 0
no_weight [] = refl
no_weight (t ∷ ts) = ap (λ z. t.power *ℤ pos 0 +ℤ z) (no_weight ts) ∙ tail_only t.power (pos 0)

module _ (us : List PowerMap) (are : AreNumbered us) where
  module _ (u : PowerMap) (low : VariablesBelow (length us) u) where
    -- the power of a base unit stays
    base_power : (n : ℕ) → power_of (replace (nth us) u) (Base n) ≡ power_of u (Base n)
    base_power n = power_of-replace (nth us) u (Base n) ∙ weight_held _ (indicator (Base n)) u at
      where
        at : (x : Atom) → power_of u x ≢ pos 0 → power_of (image (nth us) x) (Base n) ≡ indicator (Base n) x
        at (Base m) held = weight-atom (indicator (Base n)) (Base m)
        at (Var k) held = ap (λ w. power_of w (Base n)) (are.variable k (low k held)) ∙ weight-atom (indicator (Base n)) (Var (are.number k))

    -- a variable has the power of the one that it stands for
    old_power : (j : ℕ) → are.number (are.place j) ≡ j → power_of (replace (nth us) u) (Var j) ≡ power_of u (Var (are.place j))
    old_power j e = power_of-replace (nth us) u (Var j) ∙ weight_held _ (indicator (Var (are.place j))) u at
      where
        test : (k : ℕ) → k < length us → eqb j (are.number k) ≡ eqb (are.place j) k
        test k h =
            on_test (eqb (are.place j) k)
            (λ s. eq-eqb j (are.number k) (sym e ∙ ap are.number (eqb-true (are.place j) k s)) ∙ sym s)
            (λ s. ne_eqb j (are.number k) (λ q. eqb-false (are.place j) k s (ap are.place q ∙ are.apart k h)) ∙ sym s)

        at : (x : Atom) → power_of u x ≢ pos 0 → power_of (image (nth us) x) (Var j) ≡ indicator (Var (are.place j)) x
        at (Base m) held = weight-atom (indicator (Var j)) (Base m)
        at (Var k) held =
            ap (λ w. power_of w (Var j)) (are.variable k (low k held)) ∙ weight-atom (indicator (Var j)) (Var (are.number k)) ∙ ap (λ b. cond b (pos 1) (pos 0)) (test k (low k held))

    -- the others have the power 0
    no_power : (j : ℕ) → (are.number (are.place j) ≡ j → ⊥) → power_of (replace (nth us) u) (Var j) ≡ pos 0
    no_power j ne = power_of-replace (nth us) u (Var j) ∙ weight_held _ (λ _. pos 0) u at ∙ no_weight u.terms
      where
        at : (x : Atom) → power_of u x ≢ pos 0 → power_of (image (nth us) x) (Var j) ≡ pos 0
        at (Base m) held = weight-atom (indicator (Var j)) (Base m)
        at (Var k) held =
            ap (λ w. power_of w (Var j)) (are.variable k (low k held))
            ∙ weight-atom (indicator (Var j)) (Var (are.number k))
            ∙ ap (λ b. cond b (pos 1) (pos 0)) (ne_eqb j (are.number k) (λ q. ne (ap are.number (ap are.place q ∙ are.apart k (low k held)) ∙ sym q)))

    numbered_fits : IsTrue (fits u) → IsTrue (fits (replace (nth us) u))
    numbered_fits f = fits_from_powers (replace (nth us) u) each
      where
        each : (x : Atom) → nat_abs (power_of (replace (nth us) u) x) ≤ 2147483647
        each (Base n) = subst (λ z. nat_abs z ≤ 2147483647) (sym (base_power n)) (fits-power_of u f (Base n))
        each (Var j) =
            on_test (eqb (are.number (are.place j)) j)
            (λ e. subst (λ z. nat_abs z ≤ 2147483647) (sym (old_power j (eqb-true (are.number (are.place j)) j e))) (fits-power_of u f (Var (are.place j))))
            (λ e. let z = ap nat_abs (no_power j (eqb-false (are.number (are.place j)) j e)) in omega (arith, z))

pub renamed_fits : (us : List PowerMap) → AreVariables us → (u : PowerMap) → VariablesBelow (length us) u → IsTrue (fits u) → IsTrue (fits (replace (nth us) u))
renamed_fits us are u low f = ∥∥₁_elim are (hlevel Bool-set) (λ numbered. numbered_fits us numbered u low f)
