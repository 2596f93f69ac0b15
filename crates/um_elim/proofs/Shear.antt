-- The substitution of x times w for x: each power becomes itself plus x's power times w's, and where x does not stand
-- in w the substitution of x times the inverse of w undoes it.
use Rattle.std.proofs.Common.{◌≡◌, ℕ, List, [], ◌∷◌, ℤ, pos, ◌+ℤ◌, ◌*ℤ◌, sym, ap, ◌∙◌, arith}
use Rattle.std.specs.Prelude.{◌==◌}
use Rattle.std.proofs.lemmas.Int.{ints}
use Rattle.std.proofs.lemmas.Bool.{eqb-true}
use Rattle.std.proofs.Math.IntN.{*ℤ-zero, +ℤ_idr}
use Rattle.um_units.specs.declared.Atom.{Atom}
use Rattle.um_units.specs.declared.Atom.TheVariants.{Base, Var}
use Rattle.um_units.specs.declared.Term.{Term}
use Rattle.um_units.specs.Terms.{indicator, weigh}
use Rattle.um_units.specs.PowerMap.{PowerMap, power_of, one, atom, mul, inv, pow, image, replace}
use Rattle.um_frac.proofs.Integers.{*ℤ-+ℤ, +ℤ-*ℤ, *ℤ_assoc, *ℤ-neg_ℤ}
use Rattle.um_units.proofs.Weights.{weigh_alike}
use Rattle.um_units.proofs.Equality.{same_unit}
use Rattle.um_units.proofs.Group.{weight-atom, weight-mul, weight-inv, weight-pow, mul-inv, mul-one, pow-zero}
use Rattle.um_units.proofs.Replacement.{weight-replace}
use Rattle.um_elim.specs.ElimStep.{substitute, multiply}
use Rattle.um_elim.proofs.Cases.{on_test}

-- a sum of functionals, one of them a multiple
weigh-sum : (f g : Atom → ℤ) (c : ℤ) (ts : List Term) → weigh (λ y. f y +ℤ g y *ℤ c) ts ≡ weigh f ts +ℤ weigh g ts *ℤ c
weigh-sum f g c [] = omega (arith, ints)
weigh-sum f g c (t ∷ ts) =
    ap (λ n. t.power *ℤ (f t.atom +ℤ g t.atom *ℤ c) +ℤ n) (weigh-sum f g c ts)
    ∙ omega (arith, ints, *ℤ-+ℤ t.power (f t.atom) (g t.atom *ℤ c), *ℤ_assoc t.power (g t.atom) c, +ℤ-*ℤ (t.power *ℤ g t.atom) (weigh g ts) c)

pub weight-sum : (f g : Atom → ℤ) (c : ℤ) (u : PowerMap) → weigh (λ y. f y +ℤ g y *ℤ c) u.terms ≡ weigh f u.terms +ℤ weigh g u.terms *ℤ c
weight-sum f g c u = weigh-sum f g c u.terms

power_of-image : (m : ℕ) (w : PowerMap) (x y : Atom) → power_of (image (multiply m w) y) x ≡ indicator x y +ℤ indicator (Var m) y *ℤ power_of w x
power_of-image m w x (Base n) = weight-atom (indicator x) (Base n) ∙ omega (arith, ints)
power_of-image m w x (Var n) =
    on_test (m == n)
    (λ e. let q : Var m ≡ Var n = ap Var (eqb-true m n e) in
    rw e (weight-mul (indicator x) (atom (Var m)) w ∙ ap (λ n. n +ℤ power_of w x) (weight-atom (indicator x) (Var m) ∙ ap (indicator x) q) ∙ omega (arith, ints)))
    (λ e. rw e (weight-atom (indicator x) (Var n) ∙ omega (arith, ints)))

-- the power of each atom after x is replaced by x times w
pub power_of-multiply : (m : ℕ) (w u : PowerMap) (x : Atom) → power_of (replace (multiply m w) u) x ≡ power_of u x +ℤ power_of u (Var m) *ℤ power_of w x
power_of-multiply m w u x =
    weight-replace (indicator x) (multiply m w) u
    ∙ weigh_alike _ _ (λ y. power_of-image m w x y) u.terms
    ∙ weigh-sum (indicator x) (indicator (Var m)) (power_of w x) u.terms

-- it multiplies a unit by w to the power that x has in the unit
pub replace-multiply : (m : ℕ) (w u : PowerMap) → replace (multiply m w) u ≡ mul u (pow w (power_of u (Var m)))
replace-multiply m w u =
    same_unit _ _ (λ x. power_of-multiply m w u x
    ∙ sym (weight-mul (indicator x) u (pow w (power_of u (Var m))) ∙ ap (λ n. power_of u x +ℤ n) (weight-pow (indicator x) w (power_of u (Var m)))))

-- a unit without x is left
pub multiply_nothing : (m : ℕ) (w u : PowerMap) → power_of u (Var m) ≡ pos 0 → replace (multiply m w) u ≡ u
multiply_nothing m w u h = replace-multiply m w u ∙ ap (λ k. mul u (pow w k)) h ∙ ap (mul u) (pow-zero w) ∙ mul-one u

-- x keeps its power where it does not stand in w
pub power_of-multiply_same : (m : ℕ) (w u : PowerMap) → power_of w (Var m) ≡ pos 0 → power_of (replace (multiply m w) u) (Var m) ≡ power_of u (Var m)
power_of-multiply_same m w u h =
    power_of-multiply m w u (Var m) ∙ ap (λ n. power_of u (Var m) +ℤ power_of u (Var m) *ℤ n) h
    ∙ ap (λ n. power_of u (Var m) +ℤ n) (*ℤ-zero (power_of u (Var m))) ∙ +ℤ_idr (power_of u (Var m))

-- the substitution is invertible
pub multiply_back : (m : ℕ) (w u : PowerMap) → power_of w (Var m) ≡ pos 0 → replace (multiply m (inv w)) (replace (multiply m w) u) ≡ u
multiply_back m w u h =
    same_unit _ _ (λ x. power_of-multiply m (inv w) (replace (multiply m w) u) x
    ∙ ap (λ n. power_of (replace (multiply m w) u) x +ℤ n *ℤ power_of (inv w) x) (power_of-multiply_same m w u h)
    ∙ ap (λ n. power_of (replace (multiply m w) u) x +ℤ power_of u (Var m) *ℤ n) (weight-inv (indicator x) w)
    ∙ omega (arith, ints, power_of-multiply m w u x, *ℤ-neg_ℤ (power_of u (Var m)) (power_of w x)))

-- x is replaced by 1 where it is multiplied by its inverse
pub substitute-one : (m : ℕ) → multiply m (inv (atom (Var m))) ≡ substitute m one
substitute-one m = ap (substitute m) (mul-inv (atom (Var m)))
