-- The end of a row, where no variable but the pivot is left in it: no solution where a base unit is left, since its
-- power lies between 0 and the pivot's, and else the pivot is 1.
use Rattle.std.proofs.Common.{◌≡◌, ◌≢◌, ℕ, ◌<◌, true, false, ℤ, pos, ◌+ℤ◌, ◌*ℤ◌, refl, sym, ap, ◌∙◌, arith}
use Rattle.std.specs.Prelude.{◌==◌}
use Rattle.std.proofs.lemmas.Int.{ints}
use Rattle.std.proofs.lemmas.Bool.{eqb-true, eq-eqb, ne_eqb, eqb-false}
use Rattle.std.proofs.Math.IntN.{*ℤ-zero, +ℤ_comm}
use Rattle.um_units.specs.declared.Atom.{Atom}
use Rattle.um_units.specs.declared.Atom.TheVariants.{Base, Var}
use Rattle.um_units.specs.Terms.{indicator}
use Rattle.um_units.specs.PowerMap.{PowerMap, power_of, one, atom, pow, image, replace}
use Rattle.um_frac.proofs.Integers.{pos-*ℤ-zero}
use Rattle.um_units.proofs.Integers.{no_multiple}
use Rattle.um_units.proofs.Equality.{same_unit}
use Rattle.um_units.proofs.Group.{weight-one, weight-atom, weight-pow, one-pow}
use Rattle.um_units.proofs.Replacement.{weight-replace, weight_held, replace-one, replace-pow, replace-variable}
use Rattle.um_pivots.specs.Pivot.{has_other, has_base}
use Rattle.um_elim.specs.ElimStep.{substitute}
use Rattle.um_elim.proofs.Cases.{on_test}
use Rattle.um_elim.proofs.Shear.{weight-sum}
use Rattle.um_elim.proofs.PivotLaws.{some_base, no_base, no_other}
use Rattle.um_elim.proofs.StepLaws.{IsRemainder}

-- ---- a base unit is left
-- the power of a base unit where no variable but m is replaced
power_of-one_variable : (m : ℕ) (s : ℕ → PowerMap) (r : PowerMap) → has_other m r ≡ false → (b : ℕ) → power_of (replace s r) (Base b) ≡ power_of r (Base b) +ℤ power_of r (Var m) *ℤ power_of (s m) (Base b)
power_of-one_variable m s r o b =
    weight-replace (indicator (Base b)) s r
    ∙ weight_held _ (λ y. indicator (Base b) y +ℤ indicator (Var m) y *ℤ power_of (s m) (Base b)) r at
    ∙ weight-sum (indicator (Base b)) (indicator (Var m)) (power_of (s m) (Base b)) r
  where
    alone : (z : ℤ) → z ≡ pos 0 +ℤ pos 1 *ℤ z
    alone z = omega (arith, ints)

    at : (y : Atom) → power_of r y ≢ pos 0 → power_of (image s y) (Base b) ≡ indicator (Base b) y +ℤ indicator (Var m) y *ℤ power_of (s m) (Base b)
    at (Base n) h = weight-atom (indicator (Base b)) (Base n) ∙ omega (arith, ints)
    at (Var n) h = on_test (m == n)
        (λ e. let q : n ≡ m = sym (eqb-true m n e) in
        rw e (ap (λ k. power_of (s k) (Base b)) q ∙ alone (power_of (s m) (Base b))))
        (λ e. absurd (h (no_other m r o n e)))

pub unsolvable_end : (m p : ℕ) (r : PowerMap) → power_of r (Var m) ≡ pos p → ((b : ℕ) → IsRemainder p (power_of r (Base b))) → has_other m r ≡ false → has_base r ≡ true → (s : ℕ → PowerMap) → replace s r ≡ one → ⊥
unsolvable_end m p r e small o f s solved =
    let w = some_base r f in
    let c = small w.0 in
    let zero : power_of r (Base w.0) +ℤ power_of r (Var m) *ℤ power_of (s m) (Base w.0) ≡ pos 0 = sym (power_of-one_variable m s r o w.0) ∙ ap (λ u. power_of u (Base w.0)) solved ∙ weight-one (indicator (Base w.0)) in
    no_multiple p c.0 (power_of (s m) (Base w.0)) (positive c.0 (λ z. w.1 (c.1 ∙ ap pos z))) c.2
    (+ℤ_comm (pos p *ℤ power_of (s m) (Base w.0)) (pos c.0)
    ∙ ap (λ n. n +ℤ pos p *ℤ power_of (s m) (Base w.0)) (sym c.1)
    ∙ ap (λ n. power_of r (Base w.0) +ℤ n *ℤ power_of (s m) (Base w.0)) (sym e) ∙ zero)
  where
    positive : (c : ℕ) → (c ≡ 0 → ⊥) → 0 < c
    positive c n = omega arith

-- ---- no base unit is left: the unit is the pivot to a power
only_power : (m p : ℕ) (r : PowerMap) → power_of r (Var m) ≡ pos p → has_other m r ≡ false → has_base r ≡ false → r ≡ pow (atom (Var m)) (pos p)
only_power m p r e o b =
    same_unit _ _ (λ x. at x ∙ sym (weight-pow (indicator x) (atom (Var m)) (pos p) ∙ ap (λ n. pos p *ℤ n) (weight-atom (indicator x) (Var m))))
  where
    unit_times : (p : ℕ) → pos p *ℤ pos 1 ≡ pos p
    unit_times p = omega (arith, ints)

    flip : (n : ℕ) → (n == m) ≡ false → (m == n) ≡ false
    flip n f = ne_eqb m n (λ q. eqb-false n m f (sym q))

    at : (x : Atom) → power_of r x ≡ pos p *ℤ indicator x (Var m)
    at (Base n) = no_base r b n ∙ sym (*ℤ-zero (pos p))
    at (Var n) = on_test (n == m)
        (λ f. let q : n ≡ m = eqb-true n m f in rw f (ap (λ k. power_of r (Var k)) q ∙ e ∙ sym (unit_times p)))
        (λ f. rw f (no_other m r o n (flip n f) ∙ sym (*ℤ-zero (pos p))))

-- a substitution solves it exactly where it puts 1 for the pivot
pub pivot_is_one : (m p : ℕ) (r : PowerMap) → 0 < p → power_of r (Var m) ≡ pos p → has_other m r ≡ false → has_base r ≡ false → (s : ℕ → PowerMap) → replace s r ≡ one → s m ≡ one
pivot_is_one m p r h e o b s solved =
    same_unit _ _ (λ y. pos-*ℤ-zero p (power_of (s m) y) h
    (sym (ap (λ u. power_of u y) (replaced ∙ ap (λ u. pow u (pos p)) (replace-variable s m)) ∙ weight-pow (indicator y) (s m) (pos p))
    ∙ ap (λ u. power_of u y) solved ∙ weight-one (indicator y))
    ∙ sym (weight-one (indicator y)))
  where
    replaced : replace s r ≡ pow (replace s (atom (Var m))) (pos p)
    replaced = ap (replace s) (only_power m p r e o b) ∙ replace-pow s (atom (Var m)) (pos p)

pub one_solves : (m p : ℕ) (r : PowerMap) → power_of r (Var m) ≡ pos p → has_other m r ≡ false → has_base r ≡ false → (s : ℕ → PowerMap) → s m ≡ one → replace s r ≡ one
one_solves m p r e o b s is =
    ap (replace s) (only_power m p r e o b) ∙ replace-pow s (atom (Var m)) (pos p) ∙ ap (λ u. pow u (pos p)) (replace-variable s m ∙ is) ∙ one-pow (pos p)

-- where s puts 1 for m, putting 1 for m first changes nothing
pub after_one : (m : ℕ) (s : ℕ → PowerMap) → s m ≡ one → (k : ℕ) → replace s (substitute m one k) ≡ s k
after_one m s e k =
    on_test (m == k)
    (λ f. let q : m ≡ k = eqb-true m k f in rw f (replace-one s ∙ sym e ∙ ap s q))
    (λ f. rw f (replace-variable s k))

pub one_for_pivot : (m : ℕ) (t : ℕ → PowerMap) → replace t (substitute m one m) ≡ one
one_for_pivot m t = rw (eq-eqb m m refl) (replace-one t)
