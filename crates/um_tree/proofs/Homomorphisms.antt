-- Homomorphisms of units: each is settled by what it gives for the atoms.
-- Source: Kennedy (1997): units form the free abelian group on their atoms.
use Rattle.std.proofs.Common.{◌≡◌, ◌≢◌, ℕ, zero, suc, List, [], ◌∷◌, ℤ, pos, negsuc, ◌+ℤ◌, ◌*ℤ◌, refl, sym, ap, ◌∙◌, arith}
use Rattle.std.proofs.lemmas.Int.{ints}
use Rattle.um_units.specs.declared.Atom.{Atom}
use Rattle.um_units.specs.declared.Atom.TheVariants.{Base, Var}
use Rattle.um_units.specs.declared.Term.{Term}
use Rattle.um_units.specs.Terms.{weigh, indicator}
use Rattle.um_units.specs.PowerMap.{PowerMap, product, weight, power_of, one, atom, mul, pow, inv, image, replace}
use Rattle.um_units.proofs.Weights.{weigh-product, weigh_alike}
use Rattle.um_units.proofs.Equality.{same_unit, product-of_terms}
use Rattle.um_units.proofs.Group.{weight-atom, weight-mul, weight-pow, mul-one, mul-inv, mul_cancel, pow-zero, pow-one, pow-+ℤ, pow-pow, power_of-one, power_of-mul, power_of-pow}
use Rattle.um_units.proofs.Replacement.{weight-replace, power_of-replace, weight_held}
use Rattle.um_tree.specs.Typing.{IsHomomorphism}
use Rattle.um_tree.specs.Laws.{Leaves}

pow-suc : (u : PowerMap) (n : ℕ) → pow u (pos (suc n)) ≡ mul u (pow u (pos n))
pow-suc u n =
    let next : pos (suc n) ≡ pos 1 +ℤ pos n = omega (arith, ints) in
    ap (pow u) next ∙ pow-+ℤ u (pos 1) (pos n) ∙ ap (λ v. mul v (pow u (pos n))) (pow-one u)

pow-negsuc : (u : PowerMap) (n : ℕ) → pow u (negsuc n) ≡ inv (pow u (pos (suc n)))
pow-negsuc u n =
    let below : negsuc n ≡ negsuc 0 *ℤ pos (suc n) = omega (arith, ints) in
    ap (pow u) below ∙ sym (pow-pow u (pos (suc n)) (negsuc 0))

product-◌∷◌ : (t : Term) (ts : List Term) → product (t ∷ ts) ≡ mul (pow (atom t.atom) t.power) (product ts)
product-◌∷◌ t ts =
    same_unit _ _ (λ x. weigh-product (indicator x) (t ∷ ts)
    ∙ sym (weight-mul (indicator x) (pow (atom t.atom) t.power) (product ts)
    ∙ ap (λ n. n +ℤ weight (indicator x) (product ts)) (weight-pow (indicator x) (atom t.atom) t.power ∙ ap (λ n. t.power *ℤ n) (weight-atom (indicator x) t.atom))
    ∙ ap (λ n. t.power *ℤ indicator x t.atom +ℤ n) (weigh-product (indicator x) ts)))

module _ (h : PowerMap → PowerMap) (h-mul : IsHomomorphism h) where
  pub h-one : h one ≡ one
  h-one = mul_cancel (h one) (h one) one (sym (h-mul one one) ∙ ap h (mul-one one) ∙ sym (mul-one (h one)))

  pub h-inv : (u : PowerMap) → h (inv u) ≡ inv (h u)
  h-inv u = mul_cancel (h u) (h (inv u)) (inv (h u)) (sym (h-mul u (inv u)) ∙ ap h (mul-inv u) ∙ h-one ∙ sym (mul-inv (h u)))

  h-pow_pos : (u : PowerMap) (n : ℕ) → h (pow u (pos n)) ≡ pow (h u) (pos n)
  h-pow_pos u zero = ap h (pow-zero u) ∙ h-one ∙ sym (pow-zero (h u))
  h-pow_pos u (suc n) = ap h (pow-suc u n) ∙ h-mul u (pow u (pos n)) ∙ ap (mul (h u)) (h-pow_pos u n) ∙ sym (pow-suc (h u) n)

  pub h-pow : (u : PowerMap) (k : ℤ) → h (pow u k) ≡ pow (h u) k
  h-pow u (pos n) = h-pow_pos u n
  h-pow u (negsuc n) = ap h (pow-negsuc u n) ∙ h-inv (pow u (pos (suc n))) ∙ ap inv (h-pow_pos u (suc n)) ∙ sym (pow-negsuc (h u) n)

  power_of_list : (x : Atom) (ts : List Term) → power_of (h (product ts)) x ≡ weigh (λ y. power_of (h (atom y)) x) ts
  power_of_list x [] = ap (λ v. power_of v x) h-one ∙ power_of-one x
  power_of_list x (t ∷ ts) =
      ap (λ v. power_of v x) (ap h (product-◌∷◌ t ts) ∙ h-mul (pow (atom t.atom) t.power) (product ts) ∙ ap (λ v. mul v (h (product ts))) (h-pow (atom t.atom) t.power))
      ∙ power_of-mul (pow (h (atom t.atom)) t.power) (h (product ts)) x
      ∙ ap (λ n. n +ℤ power_of (h (product ts)) x) (power_of-pow (h (atom t.atom)) t.power x)
      ∙ ap (λ n. t.power *ℤ power_of (h (atom t.atom)) x +ℤ n) (power_of_list x ts)

  -- the powers of the unit that it gives
  pub power_of-h : (u : PowerMap) (x : Atom) → power_of (h u) x ≡ weight (λ y. power_of (h (atom y)) x) u
  power_of-h u x = ap (λ v. power_of (h v) x) (sym (product-of_terms u)) ∙ power_of_list x u.terms

  -- at a unit whose base units it leaves it changes what a replacement puts in
  pub h-replace : (u : PowerMap) → Leaves h u → (s : ℕ → PowerMap) → h (replace s u) ≡ replace (λ k. h (s k)) u
  h-replace u left s =
      same_unit _ _ (λ x. power_of-h (replace s u) x
      ∙ weight-replace (λ y. power_of (h (atom y)) x) s u
      ∙ weigh_alike _ _ (λ y. sym (power_of-h (image s y) x)) u.terms
      ∙ weight_held _ _ u (at x)
      ∙ sym (power_of-replace (λ k. h (s k)) u x))
    where
      at : (x y : Atom) → power_of u y ≢ pos 0 → power_of (h (image s y)) x ≡ power_of (image (λ k. h (s k)) y) x
      at x (Base n) e = ap (λ v. power_of v x) (left n e)
      at x (Var k) e = refl
