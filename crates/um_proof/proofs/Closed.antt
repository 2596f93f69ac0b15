-- A unit with 1 put for its variables: its base units' terms.
use Rattle.std.proofs.Common.{◌≡◌, ◌≢◌, ℕ, ◌≤◌, cond, List, [], ◌∷◌, filter, nat_abs, ℤ, pos, ◌+ℤ◌, ◌*ℤ◌, refl, sym, ap, ◌∙◌, subst, arith}
use Rattle.std.specs.Prelude.{IsTrue}
use Rattle.um_units.specs.declared.Atom.{Atom}
use Rattle.um_units.specs.declared.Atom.TheVariants.{Base, Var}
use Rattle.um_units.specs.declared.Term.{Term}
use Rattle.um_units.specs.Terms.{weigh, indicator}
use Rattle.um_units.specs.Range.{fits}
use Rattle.um_units.specs.PowerMap.{PowerMap, product, weight, power_of, one, image, replace}
use Rattle.um_units.proofs.Weights.{weigh-product}
use Rattle.um_units.proofs.Equality.{same_unit, tail_only}
use Rattle.um_units.proofs.Group.{weight-one, weight-atom}
use Rattle.um_units.proofs.Replacement.{weight-replace, power_of-replace, weight_held}
use Rattle.um_units.proofs.InRange.{fits-power_of, fits_from_powers}
use Rattle.um_proof.specs.Renaming.{is_base}

abbrev ones : ℕ → PowerMap
ones k = one

weigh_one : (f : Atom → ℤ) (p : ℤ) (x : Atom) (rest : List Term) → weigh f (cond (is_base x) (record { atom = x; power = p } ∷ rest) rest) ≡ p *ℤ weight f (image ones x) +ℤ weigh f rest
weigh_one f p (Base n) rest = ap (λ z. p *ℤ z +ℤ weigh f rest) (sym (weight-atom f (Base n)))
weigh_one f p (Var k) rest = sym (ap (λ z. p *ℤ z +ℤ weigh f rest) (weight-one f) ∙ tail_only p (weigh f rest))

weigh_bases : (f : Atom → ℤ) (ts : List Term) → weigh f (filter (λ (t : Term). is_base t.atom) ts) ≡ weigh (λ x. weight f (image ones x)) ts
weigh_bases f [] = refl
weigh_bases f (t ∷ ts) = weigh_one f t.power t.atom (filter (λ (t : Term). is_base t.atom) ts) ∙ ap (λ z. t.power *ℤ weight f (image ones t.atom) +ℤ z) (weigh_bases f ts)

pub closed_is : (u : PowerMap) → product (filter (λ (t : Term). is_base t.atom) u.terms) ≡ replace (λ _. one) u
closed_is u =
    same_unit _ _ (λ x. weigh-product (indicator x) (filter (λ (t : Term). is_base t.atom) u.terms) ∙ weigh_bases (indicator x) u.terms ∙ sym (weight-replace (indicator x) ones u))

pub weigh_zero : (ts : List Term) → weigh (λ _. pos 0) ts ≡ pos 0
weigh_zero [] = refl
weigh_zero (t ∷ ts) = ap (λ n. t.power *ℤ pos 0 +ℤ n) (weigh_zero ts) ∙ tail_only t.power (pos 0)

pub closed_fits : (u : PowerMap) → IsTrue (fits u) → IsTrue (fits (replace (λ _. one) u))
closed_fits u f = fits_from_powers (replace ones u) low
  where
    low : (x : Atom) → nat_abs (power_of (replace ones u) x) ≤ 2147483647
    low (Base n) = subst (λ z. nat_abs z ≤ 2147483647) (sym (power_of-replace ones u (Base n) ∙ weight_held _ (indicator (Base n)) u at)) (fits-power_of u f (Base n))
      where
        at : (x : Atom) → power_of u x ≢ pos 0 → power_of (image ones x) (Base n) ≡ indicator (Base n) x
        at (Base m) held = weight-atom (indicator (Base n)) (Base m)
        at (Var m) held = weight-one (indicator (Base n))
    low (Var k) = let z = ap nat_abs (power_of-replace ones u (Var k) ∙ weight_held _ (λ _. pos 0) u at ∙ weigh_zero u.terms) in omega (arith, z)
      where
        at : (x : Atom) → power_of u x ≢ pos 0 → power_of (image ones x) (Var k) ≡ pos 0
        at (Base m) held = weight-atom (indicator (Var k)) (Base m)
        at (Var m) held = weight-one (indicator (Var k))
