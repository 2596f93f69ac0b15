-- The laws of the free abelian group on the atoms.
-- Source: Kennedy (1996).
use Rattle.std.proofs.Common.{◌≡◌, ◌≢◌, inl, inr, false, List, [], ◌∷◌, ◌++◌, map, ℤ, pos, negsuc, neg_ℤ, ◌+ℤ◌, ◌*ℤ◌, refl, sym, ap, ◌∙◌, arith}
use Rattle.std.proofs.lemmas.Int.{ints}
use Rattle.std.proofs.Math.IntN.{*ℤ-zero, +ℤ_comm}
use Rattle.um_units.specs.declared.Atom.{Atom}
use Rattle.um_units.specs.declared.Term.{Term}
use Rattle.um_frac.proofs.Integers.{*ℤ-+ℤ, +ℤ-*ℤ, *ℤ_assoc, *ℤ-eq-zero}
use Rattle.um_units.specs.Atoms.{same_atom}
use Rattle.um_units.specs.Terms.{weigh, indicator}
use Rattle.um_units.specs.PowerMap.{PowerMap, weight, power_of, one, atom, mul, scale, pow, inv}
use Rattle.um_units.proofs.Weights.{weigh-product, weigh-++}
use Rattle.um_units.proofs.Equality.{same_unit, product-terms, product-normal, indicator-same, indicator-other}

-- ---- a linear functional at each operation
pub weigh-scale : (f : Atom → ℤ) (k : ℤ) (ts : List Term) → weigh f (map (scale k) ts) ≡ k *ℤ weigh f ts
weigh-scale f k [] = sym (*ℤ-zero k)
weigh-scale f k (t ∷ ts) =
    ap (λ n. (k *ℤ t.power) *ℤ f t.atom +ℤ n) (weigh-scale f k ts) ∙ ap (λ n. n +ℤ k *ℤ weigh f ts) (*ℤ_assoc k t.power (f t.atom)) ∙ sym (*ℤ-+ℤ k (t.power *ℤ f t.atom) (weigh f ts))

pub weight-one : (f : Atom → ℤ) → weight f one ≡ pos 0
weight-one f = weigh-product f []

pub weight-atom : (f : Atom → ℤ) (x : Atom) → weight f (atom x) ≡ f x
weight-atom f x = weigh-product f (record { atom = x; power = pos 1 } ∷ []) ∙ omega (arith, ints)

pub weight-mul : (f : Atom → ℤ) (u v : PowerMap) → weight f (mul u v) ≡ weight f u +ℤ weight f v
weight-mul f u v = weigh-product f (u.terms ++ v.terms) ∙ weigh-++ f u.terms v.terms

pub weight-pow : (f : Atom → ℤ) (u : PowerMap) (k : ℤ) → weight f (pow u k) ≡ k *ℤ weight f u
weight-pow f u k = weigh-product f (map (scale k) u.terms) ∙ weigh-scale f k u.terms

-- ---- the product
pub mul_comm : (u v : PowerMap) → mul u v ≡ mul v u
mul_comm u v = same_unit _ _ (λ x. weight-mul (indicator x) u v ∙ +ℤ_comm (power_of u x) (power_of v x) ∙ sym (weight-mul (indicator x) v u))

pub mul_assoc : (u v w : PowerMap) → mul (mul u v) w ≡ mul u (mul v w)
mul_assoc u v w = same_unit _ _ (λ x. omega (arith, ints, weight-mul (indicator x) (mul u v) w, weight-mul (indicator x) u v, weight-mul (indicator x) u (mul v w), weight-mul (indicator x) v w))

pub mul-one : (u : PowerMap) → mul u one ≡ u
mul-one u = same_unit _ _ (λ x. omega (arith, ints, weight-mul (indicator x) u one, weight-one (indicator x)))

pub one-mul : (u : PowerMap) → mul one u ≡ u
one-mul u = mul_comm one u ∙ mul-one u

-- ---- the inverse
pub weight-inv : (f : Atom → ℤ) (u : PowerMap) → weight f (inv u) ≡ neg_ℤ (weight f u)
weight-inv f u = weight-pow f u (negsuc 0) ∙ negated (weight f u)
  where
    negated : (z : ℤ) → negsuc 0 *ℤ z ≡ neg_ℤ z
    negated z = omega (arith, ints)

pub mul-inv : (u : PowerMap) → mul u (inv u) ≡ one
mul-inv u = same_unit _ _ (λ x. omega (arith, ints, weight-mul (indicator x) u (inv u), weight-inv (indicator x) u, weight-one (indicator x)))

pub inv-one : inv one ≡ one
inv-one = same_unit _ _ (λ x. omega (arith, ints, weight-inv (indicator x) one, weight-one (indicator x)))

pub inv-inv : (u : PowerMap) → inv (inv u) ≡ u
inv-inv u = same_unit _ _ (λ x. omega (arith, ints, weight-inv (indicator x) (inv u), weight-inv (indicator x) u))

pub inv-mul : (u v : PowerMap) → inv (mul u v) ≡ mul (inv u) (inv v)
inv-mul u v =
    same_unit _ _ (λ x. omega (
      arith,
      ints,
      weight-inv (indicator x) (mul u v),
      weight-mul (indicator x) u v,
      weight-mul (indicator x) (inv u) (inv v),
      weight-inv (indicator x) u,
      weight-inv (indicator x) v,
    ))

-- a factor on both sides may be left out
pub mul_cancel : (u v w : PowerMap) → mul u v ≡ mul u w → v ≡ w
mul_cancel u v w e = same_unit _ _ (λ x. let f = ap (λ z. power_of z x) e in omega (arith, ints, f, weight-mul (indicator x) u v, weight-mul (indicator x) u w))

-- two units are equal exactly where their quotient is 1
pub quotient-same : (u v : PowerMap) → u ≡ v → mul u (inv v) ≡ one
quotient-same u v e = ap (λ w. mul u (inv w)) (sym e) ∙ mul-inv u

pub same_from_quotient : (u v : PowerMap) → mul u (inv v) ≡ one → u ≡ v
same_from_quotient u v e =
    same_unit _ _ (λ x. let f = ap (λ z. power_of z x) e in omega (arith, ints, f, weight-one (indicator x), weight-mul (indicator x) u (inv v), weight-inv (indicator x) v))

-- ---- powers
pub pow-zero : (u : PowerMap) → pow u (pos 0) ≡ one
pow-zero u = same_unit _ _ (λ x. omega (arith, ints, weight-pow (indicator x) u (pos 0), weight-one (indicator x)))

pub pow-one : (u : PowerMap) → pow u (pos 1) ≡ u
pow-one u = same_unit _ _ (λ x. omega (arith, ints, weight-pow (indicator x) u (pos 1)))

pub one-pow : (k : ℤ) → pow one k ≡ one
one-pow k = same_unit _ _ (λ x. weight-pow (indicator x) one k ∙ ap (λ n. k *ℤ n) (weight-one (indicator x)) ∙ *ℤ-zero k ∙ sym (weight-one (indicator x)))

-- a power of a product is the product of the powers
pub pow-mul : (u v : PowerMap) (k : ℤ) → pow (mul u v) k ≡ mul (pow u k) (pow v k)
pow-mul u v k =
    same_unit _ _ (λ x. weight-pow (indicator x) (mul u v) k ∙ ap (λ n. k *ℤ n) (weight-mul (indicator x) u v) ∙ *ℤ-+ℤ k (power_of u x) (power_of v x)
    ∙ sym (weight-mul (indicator x) (pow u k) (pow v k) ∙ ap (λ n. n +ℤ power_of (pow v k) x) (weight-pow (indicator x) u k) ∙ ap (λ n. k *ℤ power_of u x +ℤ n) (weight-pow (indicator x) v k)))

-- a product of powers is the power of the sum
pub pow-+ℤ : (u : PowerMap) (j k : ℤ) → pow u (j +ℤ k) ≡ mul (pow u j) (pow u k)
pow-+ℤ u j k =
    same_unit _ _ (λ x. weight-pow (indicator x) u (j +ℤ k) ∙ +ℤ-*ℤ j k (power_of u x)
    ∙ sym (weight-mul (indicator x) (pow u j) (pow u k) ∙ ap (λ n. n +ℤ power_of (pow u k) x) (weight-pow (indicator x) u j) ∙ ap (λ n. j *ℤ power_of u x +ℤ n) (weight-pow (indicator x) u k)))

-- a power of a power is the power of the product
pub pow-pow : (u : PowerMap) (j k : ℤ) → pow (pow u j) k ≡ pow u (k *ℤ j)
pow-pow u j k =
    same_unit _ _ (λ x. weight-pow (indicator x) (pow u j) k ∙ ap (λ n. k *ℤ n) (weight-pow (indicator x) u j) ∙ sym (*ℤ_assoc k j (power_of u x)) ∙ sym (weight-pow (indicator x) u (k *ℤ j)))

-- a unit has finite order only where it is 1
pub pow-torsion_free : (u : PowerMap) (k : ℤ) → k ≢ pos 0 → pow u k ≡ one → u ≡ one
pow-torsion_free u k h e =
    same_unit _ _ (λ x. elim (*ℤ-eq-zero k (power_of u x) (sym (weight-pow (indicator x) u k) ∙ ap (λ z. power_of z x) e ∙ weight-one (indicator x))) [
      | inl z ↦ absurd (h z)
      | inr z ↦ z ∙ sym (weight-one (indicator x))
    ])

-- ---- the power of each atom: what makes these operations those of finite maps
pub power_of-one : (x : Atom) → power_of one x ≡ pos 0
power_of-one x = weight-one (indicator x)

pub power_of-atom : (x : Atom) → power_of (atom x) x ≡ pos 1
power_of-atom x = weight-atom (indicator x) x ∙ indicator-same x

pub power_of-other_atom : (x y : Atom) → same_atom x y ≡ false → power_of (atom y) x ≡ pos 0
power_of-other_atom x y e = weight-atom (indicator x) y ∙ indicator-other x y e

pub power_of-mul : (u v : PowerMap) (x : Atom) → power_of (mul u v) x ≡ power_of u x +ℤ power_of v x
power_of-mul u v x = weight-mul (indicator x) u v

pub power_of-inv : (u : PowerMap) (x : Atom) → power_of (inv u) x ≡ neg_ℤ (power_of u x)
power_of-inv u x = weight-inv (indicator x) u

pub power_of-pow : (u : PowerMap) (k : ℤ) (x : Atom) → power_of (pow u k) x ≡ k *ℤ power_of u x
power_of-pow u k x = weight-pow (indicator x) u k

-- ---- terms
pub terms-one : one.terms ≡ []
terms-one = product-terms []

pub terms-atom : (x : Atom) → (atom x).terms ≡ record { atom = x; power = pos 1 } ∷ []
terms-atom x = product-normal (record { atom = x; power = pos 1 } ∷ []) refl
