-- Laws of units extension by atoms.
use Rattle.std.proofs.Common.{◌≡◌, ℕ, List, [], ◌∷◌, map, ℤ, pos, neg_ℤ, ◌+ℤ◌, ◌*ℤ◌, refl, sym, ap, ◌∙◌, arith}
use Rattle.std.proofs.lemmas.Int.{ints}
use Rattle.std.proofs.Math.IntN.{*ℤ-zero}
use Rattle.um_units.specs.declared.Atom.{Atom}
use Rattle.um_units.specs.declared.Atom.TheVariants.{Var}
use Rattle.um_units.specs.declared.Term.{Term}
use Rattle.um_units.specs.Terms.{weigh, indicator}
use Rattle.um_units.specs.Atoms.{same_atom}
use Rattle.um_units.specs.PowerMap.{PowerMap, weight, power_of, inv, pow, scale, replace, extension, images_of}
use Rattle.um_frac.proofs.Integers.{*ℤ-neg_ℤ}
use Rattle.um_units.proofs.Weights.{weigh-product, weigh-++, weigh_alike}
use Rattle.um_units.proofs.Equality.{same_unit}
use Rattle.um_units.proofs.Group.{weigh-scale, weight-mul, weight-pow, weight-inv}
use Rattle.um_elim.specs.ElimStep.{multiply}
use Rattle.um_elim.proofs.Cases.{on_test}
use Rattle.um_elim.proofs.Shear.{weight-sum, replace-multiply}
use Rattle.um_check.specs.Existence.{divided_inverse}

weigh-images_of : (g : Atom → ℤ) (f : Atom → PowerMap) (ts : List Term) → weigh g (images_of f ts) ≡ weigh (λ y. weight g (f y)) ts
weigh-images_of g f [] = refl
weigh-images_of g f (t ∷ ts) =
    weigh-++ g (map (scale t.power) (f t.atom).terms) (images_of f ts)
    ∙ ap (λ n. n +ℤ weigh g (images_of f ts)) (weigh-scale g t.power (f t.atom).terms)
    ∙ ap (λ n. t.power *ℤ weight g (f t.atom) +ℤ n) (weigh-images_of g f ts)

pub weight-extension : (g : Atom → ℤ) (f : Atom → PowerMap) (u : PowerMap) → weight g (extension f u) ≡ weight (λ y. weight g (f y)) u
weight-extension g f u = weigh-product g (images_of f u.terms) ∙ weigh-images_of g f u.terms

pub extension-pow : (f : Atom → PowerMap) (u : PowerMap) (k : ℤ) → extension f (pow u k) ≡ pow (extension f u) k
extension-pow f u k =
    same_unit _ _ (λ x. weight-extension (indicator x) f (pow u k) ∙ weight-pow (λ y. power_of (f y) x) u k
    ∙ sym (weight-pow (indicator x) (extension f u) k ∙ ap (λ n. k *ℤ n) (weight-extension (indicator x) f u)))

-- ---- a step changes nothing of what comes back
-- the functional of what comes back after a step
weight-divided : (g : Atom → ℤ) (m : ℕ) (w : PowerMap) (back : Atom → PowerMap) (y : Atom) → weight g (divided_inverse m w back y) ≡ weight g (back y) +ℤ indicator (Var m) y *ℤ neg_ℤ (weight (λ z. weight g (back z)) w)
weight-divided g m w back y =
    on_test (same_atom (Var m) y)
    (λ e. rw e (weight-mul g (back y) (inv (extension back w)) ∙ ap (λ n. weight g (back y) +ℤ n) (weight-inv g (extension back w) ∙ ap neg_ℤ (weight-extension g back w)) ∙ once (weight g (back y)) (neg_ℤ (weight (λ z. weight g (back z)) w))))
    (λ e. rw e (never (weight g (back y)) (neg_ℤ (weight (λ z. weight g (back z)) w))))
  where
    once : (a b : ℤ) → a +ℤ b ≡ a +ℤ pos 1 *ℤ b
    once a b = omega (arith, ints)

    never : (a b : ℤ) → a ≡ a +ℤ pos 0 *ℤ b
    never a b = omega (arith, ints)

pub extension-step : (m : ℕ) (w : PowerMap) (back : Atom → PowerMap) (u : PowerMap) → power_of w (Var m) ≡ pos 0 → extension (divided_inverse m w back) (replace (multiply m w) u) ≡ extension back u
extension-step m w back u free = same_unit _ _ at
  where
    -- both sides at a functional
    after : (g : Atom → ℤ) (v : PowerMap) → weight g (extension (divided_inverse m w back) v) ≡ weight (λ y. weight g (back y)) v +ℤ power_of v (Var m) *ℤ neg_ℤ (weight (λ z. weight g (back z)) w)
    after g v =
        weight-extension g (divided_inverse m w back) v
        ∙ weigh_alike _ _ (λ y. weight-divided g m w back y) v.terms
        ∙ weight-sum (λ y. weight g (back y)) (indicator (Var m)) (neg_ℤ (weight (λ z. weight g (back z)) w)) v

    cancels : (a e h x y : ℤ) → x ≡ (a +ℤ e *ℤ h) +ℤ y → y ≡ e *ℤ neg_ℤ h → x ≡ a
    cancels a e h x y p q = omega (arith, ints, p, q, *ℤ-neg_ℤ e h)

    same_power : power_of (replace (multiply m w) u) (Var m) ≡ power_of u (Var m)
    same_power = ap (λ v. power_of v (Var m)) (replace-multiply m w u) ∙ weight-mul (indicator (Var m)) u (pow w (power_of u (Var m)))
        ∙ ap (λ n. power_of u (Var m) +ℤ n) (weight-pow (indicator (Var m)) w (power_of u (Var m)) ∙ ap (λ n. power_of u (Var m) *ℤ n) free ∙ *ℤ-zero (power_of u (Var m)))
        ∙ nothing (power_of u (Var m))
      where
        nothing : (a : ℤ) → a +ℤ pos 0 ≡ a
        nothing a = omega (arith, ints)

    at : (x : Atom) → power_of (extension (divided_inverse m w back) (replace (multiply m w) u)) x ≡ power_of (extension back u) x
    at x =
        let g = indicator x in
        let h : Atom → ℤ = λ y. weight g (back y) in
        cancels (weight h u) (power_of u (Var m)) (weight h w) _ (power_of u (Var m) *ℤ neg_ℤ (weight h w))
        (after g (replace (multiply m w) u)
        ∙ ap (λ n. weight h (replace (multiply m w) u) +ℤ n *ℤ neg_ℤ (weight h w)) same_power
        ∙ ap (λ n. n +ℤ power_of u (Var m) *ℤ neg_ℤ (weight h w)) (ap (weight h) (replace-multiply m w u) ∙ weight-mul h u (pow w (power_of u (Var m))) ∙ ap (λ n. weight h u +ℤ n) (weight-pow h w (power_of u (Var m)))))
        refl
        ∙ sym (weight-extension g back u)
