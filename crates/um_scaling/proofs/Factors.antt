-- The factor of a product, of an inverse and of a power of units, as rational numbers.
use Rattle.std.proofs.Common.{◌≡◌, refl, sym, subst, ap, ◌∙◌, ℕ, zero, suc, ◌+◌, ◌*◌, ◌<◌, ◌^◌, List, [], ◌∷◌, ◌++◌, ℤ, pos, negsuc, ◌+ℤ◌, ◌*ℤ◌, arith}
use Rattle.std.proofs.lemmas.Int.{ints}
use Rattle.std.proofs.lemmas.Bool.{cond_both}
use Rattle.std.proofs.lemmas.Nat.{pow-add}
use Rattle.std.proofs.Math.Nat.{mul-pos, pow-zero, pow-suc, pow-succ', eq_of_mul-eq-mul_right}
use Rattle.um_units.specs.declared.Term.{Term}
use Rattle.um_units.specs.Atoms.{is_before, same_atom}
use Rattle.um_units.specs.Terms.{is_zero, unless_zero, times_term, normal_form}
use Rattle.um_units.specs.NormalForm.{same_atom-eq}
use Rattle.um_units.specs.PowerMap.{PowerMap, one, mul, pow, inv}
use Rattle.um_units.proofs.Weights.{zero_is}
use Rattle.um_units.proofs.Equality.{product-terms}
use Rattle.um_units.proofs.Group.{terms-one, mul-inv, pow-one, pow-+ℤ, pow-pow}
use Rattle.um_units.proofs.Group.{pow-zero as unit_pow-zero}
use Rattle.um_scaling.specs.Rescaling.{Factor, IsPositive, SameFactor, no_change, times, to_power, Rescaling, ArePositive, factor_of_terms, factor}
use Rattle.um_scaling.specs.Laws.{FactorsAreProducts, FactorsArePowers}

-- ---- pairs
right : (a b c : ℕ) → a * b * c ≡ a * c * b
right a b c = omega arith

four : (a b c d : ℕ) → a * b * (c * d) ≡ a * c * (b * d)
four a b c d = omega arith

pub same_factor_trans : (f g h : Factor) → 0 < g.bottom → SameFactor f g → SameFactor g h → SameFactor f h
same_factor_trans f g h above e k =
    eq_of_mul-eq-mul_right g.bottom above (f.top * h.bottom) (h.top * f.bottom)
    (right f.top h.bottom g.bottom ∙ ap (λ x. x * h.bottom) e ∙ right g.top f.bottom h.bottom ∙ ap (λ x. x * f.bottom) k ∙ right h.top g.bottom f.bottom)

pub times_same : (f f' g g' : Factor) → SameFactor f f' → SameFactor g g' → SameFactor (times f g) (times f' g')
times_same f f' g g' h k = four f.top g.top f'.bottom g'.bottom ∙ (λ i. h i * k i) ∙ four f'.top f.bottom g'.top g.bottom

abbrev pub swapped : Factor → Factor
swapped f = record { top = f.bottom; bottom = f.top }

swapped_same : (f g : Factor) → SameFactor f g → SameFactor (swapped f) (swapped g)
swapped_same f g e = turned f.top f.bottom g.top g.bottom e
  where
    turned : (a b c d : ℕ) → a * d ≡ c * b → b * c ≡ d * a
    turned a b c d e = omega (arith, e)

-- ---- above 0
power_above : (x n : ℕ) → 0 < x → 0 < x ^ n
power_above x zero h = omega (arith, pow-zero x)
power_above x (suc n) h = subst (λ m. 0 < m) (sym (pow-suc x n)) (mul-pos (power_above x n h) h)

pub to_power_positive : (f : Factor) (k : ℤ) → IsPositive f → IsPositive (to_power f k)
to_power_positive f (pos n) h = (power_above f.top n h.0, power_above f.bottom n h.1)
to_power_positive f (negsuc n) h = (power_above f.bottom (suc n) h.1, power_above f.top (suc n) h.0)

pub times_positive : (f g : Factor) → IsPositive f → IsPositive g → IsPositive (times f g)
times_positive f g h k = (mul-pos h.0 k.0, mul-pos h.1 k.1)

pub one_power : (n : ℕ) → 1 ^ n ≡ 1
one_power zero = pow-zero 1
one_power (suc n) = pow-suc 1 n ∙ ap (λ m. m * 1) (one_power n)

pub no_change_power : (k : ℤ) → SameFactor no_change (to_power no_change k)
no_change_power (pos n) = ap (λ m. 1 * m) (one_power n) ∙ ap (λ m. m * 1) (sym (one_power n))
no_change_power (negsuc n) = ap (λ m. 1 * m) (one_power (suc n)) ∙ ap (λ m. m * 1) (sym (one_power (suc n)))

-- ---- a power of one factor: a sum of exponents is a product. Each power is the quotient of two with natural exponents
abbrev spread : Factor → ℕ → ℕ → Factor
spread f a b = record { top = f.top ^ a * f.bottom ^ b; bottom = f.bottom ^ a * f.top ^ b }

spread_is : (k : ℤ) (f : Factor) (a b : ℕ) → k +ℤ pos b ≡ pos a → SameFactor (to_power f k) (spread f a b)
spread_is (pos n) f a b h =
    let e : a ≡ n + b = omega (arith, ints, h) in
    let t : f.top ^ a ≡ f.top ^ n * f.top ^ b = ap (λ m. f.top ^ m) e ∙ pow-add f.top n b in
    let u : f.bottom ^ a ≡ f.bottom ^ n * f.bottom ^ b = ap (λ m. f.bottom ^ m) e ∙ pow-add f.bottom n b in
    (λ i. f.top ^ n * (u i * f.top ^ b)) ∙ mixed (f.top ^ n) (f.bottom ^ n) (f.top ^ b) (f.bottom ^ b) ∙ sym (λ i. t i * f.bottom ^ b * f.bottom ^ n)
  where
    mixed : (x y z w : ℕ) → x * (y * w * z) ≡ x * z * w * y
    mixed x y z w = omega arith
spread_is (negsuc n) f a b h =
    let e : b ≡ suc n + a = omega (arith, ints, h) in
    let t : f.top ^ b ≡ f.top ^ suc n * f.top ^ a = ap (λ m. f.top ^ m) e ∙ pow-add f.top (suc n) a in
    let u : f.bottom ^ b ≡ f.bottom ^ suc n * f.bottom ^ a = ap (λ m. f.bottom ^ m) e ∙ pow-add f.bottom (suc n) a in
    (λ i. f.bottom ^ suc n * (f.bottom ^ a * t i)) ∙ mixed (f.top ^ suc n) (f.bottom ^ suc n) (f.top ^ a) (f.bottom ^ a) ∙ sym (λ i. f.top ^ a * u i * f.top ^ suc n)
  where
    mixed : (x y z w : ℕ) → y * (w * (x * z)) ≡ z * (y * w) * x
    mixed x y z w = omega arith

spread_sum : (f : Factor) (a b c d : ℕ) → SameFactor (spread f (a + c) (b + d)) (times (spread f a b) (spread f c d))
spread_sum f a b c d =
    let t : f.top ^ (a + c) ≡ f.top ^ a * f.top ^ c = pow-add f.top a c in
    let u : f.bottom ^ (b + d) ≡ f.bottom ^ b * f.bottom ^ d = pow-add f.bottom b d in
    let v : f.bottom ^ (a + c) ≡ f.bottom ^ a * f.bottom ^ c = pow-add f.bottom a c in
    let w : f.top ^ (b + d) ≡ f.top ^ b * f.top ^ d = pow-add f.top b d in
    (λ i. t i * u i * ((f.bottom ^ a * f.top ^ b) * (f.bottom ^ c * f.top ^ d))) ∙ mixed (f.top ^ a) (f.top ^ b) (f.top ^ c) (f.top ^ d) (f.bottom ^ a) (f.bottom ^ b) (f.bottom ^ c) (f.bottom ^ d) ∙ sym (λ i. (f.top ^ a * f.bottom ^ b) * (f.top ^ c * f.bottom ^ d) * (v i * w i))
  where
    mixed : (ta tb tc td ba bb bc bd : ℕ) → ta * tc * (bb * bd) * ((ba * tb) * (bc * td)) ≡ (ta * bb) * (tc * bd) * (ba * bc * (tb * td))
    mixed ta tb tc td ba bb bc bd = omega arith

-- an integer is the difference of its two parts
above_part : ℤ → ℕ
above_part (pos n) = n
above_part (negsuc n) = 0

below_part : ℤ → ℕ
below_part (pos n) = 0
below_part (negsuc n) = suc n

parts_are : (k : ℤ) → k +ℤ pos (below_part k) ≡ pos (above_part k)
unfolding above_part below_part
parts_are (pos n) = omega (arith, ints)
parts_are (negsuc n) = omega (arith, ints)

spread_positive : (f : Factor) (a b : ℕ) → IsPositive f → IsPositive (spread f a b)
spread_positive f a b h = (mul-pos (power_above f.top a h.0) (power_above f.bottom b h.1), mul-pos (power_above f.bottom a h.1) (power_above f.top b h.0))

pub to_power-+ℤ : (k l : ℤ) (f : Factor) → IsPositive f → SameFactor (to_power f (k +ℤ l)) (times (to_power f k) (to_power f l))
to_power-+ℤ k l f h =
    let a = above_part k in
    let b = below_part k in
    let c = above_part l in
    let d = below_part l in
    let both : (k +ℤ l) +ℤ pos (b + d) ≡ pos (a + c) = omega (arith, ints, parts_are k, parts_are l) in
    let apart = same_factor_trans (to_power f (k +ℤ l)) (spread f (a + c) (b + d)) (times (spread f a b) (spread f c d)) (spread_positive f (a + c) (b + d) h).1 (spread_is (k +ℤ l) f (a + c) (b + d) both) (spread_sum f a b c d) in
    let back = times_same (spread f a b) (to_power f k) (spread f c d) (to_power f l) (sym (spread_is k f a b (parts_are k))) (sym (spread_is l f c d (parts_are l))) in
    same_factor_trans (to_power f (k +ℤ l)) (times (spread f a b) (spread f c d)) (times (to_power f k) (to_power f l)) (times_positive (spread f a b) (spread f c d) (spread_positive f a b h) (spread_positive f c d h)).1 apart back

-- ---- units
module _ (r : Rescaling) (positive : ArePositive r) where
  pub terms_positive : (ts : List Term) → IsPositive (factor_of_terms r ts)
  terms_positive [] = (omega arith, omega arith)
  terms_positive (t ∷ ts) = times_positive (to_power (r t.atom) t.power) (factor_of_terms r ts) (to_power_positive (r t.atom) t.power (positive t.atom)) (terms_positive ts)

  pub factor_positive : (u : PowerMap) → IsPositive (factor r u)
  factor_positive u = terms_positive u.terms

  zero_power : (f g : Factor) → SameFactor g (times (to_power f (pos 0)) g)
  zero_power f g =
      let t : f.top ^ 0 ≡ 1 = pow-zero f.top in
      let u : f.bottom ^ 0 ≡ 1 = pow-zero f.bottom in
      (λ i. g.top * (u i * g.bottom)) ∙ ones g.top g.bottom ∙ sym (λ i. t i * g.top * g.bottom)
    where
      ones : (x y : ℕ) → x * (1 * y) ≡ 1 * x * y
      ones x y = omega arith

  factor-unless_zero : (t : Term) (ts : List Term) → SameFactor (factor_of_terms r (unless_zero t ts)) (times (to_power (r t.atom) t.power) (factor_of_terms r ts))
  factor-unless_zero t ts =
      cond_both (is_zero t.power) ts (t ∷ ts) (λ us. SameFactor (factor_of_terms r us) (times (to_power (r t.atom) t.power) (factor_of_terms r ts)))
      (λ e. subst (λ k. SameFactor (factor_of_terms r ts) (times (to_power (r t.atom) k) (factor_of_terms r ts))) (sym (zero_is t.power e)) (zero_power (r t.atom) (factor_of_terms r ts)))
      (λ e. refl)

  grouped : (f g h : Factor) → SameFactor (times (times f g) h) (times f (times g h))
  grouped f g h = both f.top g.top h.top f.bottom g.bottom h.bottom
    where
      both : (x y z u v w : ℕ) → x * y * z * (u * (v * w)) ≡ x * (y * z) * (u * v * w)
      both x y z u v w = omega arith

  exchanged : (f g h : Factor) → SameFactor (times g (times f h)) (times f (times g h))
  exchanged f g h = both f.top g.top h.top f.bottom g.bottom h.bottom
    where
      both : (x y z u v w : ℕ) → y * (x * z) * (u * (v * w)) ≡ x * (y * z) * (v * (u * w))
      both x y z u v w = omega arith

  -- a term that meets its own atom
  met : (t s : Term) (ts : List Term) → t.atom ≡ s.atom → SameFactor (factor_of_terms r (unless_zero (record { atom = s.atom; power = t.power +ℤ s.power }) ts)) (times (to_power (r t.atom) t.power) (times (to_power (r s.atom) s.power) (factor_of_terms r ts)))
  met t s ts q =
      let ft = to_power (r t.atom) t.power in
      let fs = to_power (r s.atom) s.power in
      let rest = factor_of_terms r ts in
      let sum = to_power (r s.atom) (t.power +ℤ s.power) in
      let same : SameFactor sum (times ft fs) = subst (λ x. SameFactor sum (times (to_power (r x) t.power) fs)) (sym q) (to_power-+ℤ t.power s.power (r s.atom) (positive s.atom)) in
      let kept = factor-unless_zero (record { atom = s.atom; power = t.power +ℤ s.power }) ts in
      let put = times_same sum (times ft fs) rest rest same refl in
      let first_positive = to_power_positive (r t.atom) t.power (positive t.atom) in
      let second_positive = to_power_positive (r s.atom) s.power (positive s.atom) in
      let sum_positive = to_power_positive (r s.atom) (t.power +ℤ s.power) (positive s.atom) in
      let whole = same_factor_trans (factor_of_terms r (unless_zero (record { atom = s.atom; power = t.power +ℤ s.power }) ts)) (times sum rest) (times (times ft fs) rest) (times_positive sum rest sum_positive (terms_positive ts)).1 kept put in
      same_factor_trans (factor_of_terms r (unless_zero (record { atom = s.atom; power = t.power +ℤ s.power }) ts)) (times (times ft fs) rest) (times ft (times fs rest)) (times_positive (times ft fs) rest (times_positive ft fs first_positive second_positive) (terms_positive ts)).1 whole (grouped ft fs rest)

  factor-times_term : (t : Term) (ts : List Term) → SameFactor (factor_of_terms r (times_term t ts)) (times (to_power (r t.atom) t.power) (factor_of_terms r ts))
  factor-times_term t [] = factor-unless_zero t []
  factor-times_term t (s ∷ ts) =
      let ft = to_power (r t.atom) t.power in
      let fs = to_power (r s.atom) s.power in
      let rest = factor_of_terms r ts in
      cond_both (is_before t.atom s.atom) _ _ (λ us. SameFactor (factor_of_terms r us) (times ft (times fs rest)))
      (λ e. factor-unless_zero t (s ∷ ts))
      (λ e. cond_both (same_atom t.atom s.atom) _ _ (λ us. SameFactor (factor_of_terms r us) (times ft (times fs rest)))
      (λ g. met t s ts (same_atom-eq t.atom s.atom g))
      (λ g.
      let later = times_same fs fs (factor_of_terms r (times_term t ts)) (times ft rest) refl (factor-times_term t ts) in
      same_factor_trans (times fs (factor_of_terms r (times_term t ts))) (times fs (times ft rest)) (times ft (times fs rest))
      (times_positive fs (times ft rest) (to_power_positive (r s.atom) s.power (positive s.atom)) (times_positive ft rest (to_power_positive (r t.atom) t.power (positive t.atom)) (terms_positive ts))).1
      later (exchanged ft fs rest)))

  factor-normal_form : (ts : List Term) → SameFactor (factor_of_terms r (normal_form ts)) (factor_of_terms r ts)
  factor-normal_form [] = refl
  factor-normal_form (t ∷ ts) =
      let ft = to_power (r t.atom) t.power in
      same_factor_trans (factor_of_terms r (times_term t (normal_form ts))) (times ft (factor_of_terms r (normal_form ts))) (times ft (factor_of_terms r ts))
      (times_positive ft (factor_of_terms r (normal_form ts)) (to_power_positive (r t.atom) t.power (positive t.atom)) (terms_positive (normal_form ts))).1
      (factor-times_term t (normal_form ts))
      (times_same ft ft (factor_of_terms r (normal_form ts)) (factor_of_terms r ts) refl (factor-normal_form ts))

  factor-++ : (ts us : List Term) → SameFactor (factor_of_terms r (ts ++ us)) (times (factor_of_terms r ts) (factor_of_terms r us))
  factor-++ [] us = ones (factor_of_terms r us).top (factor_of_terms r us).bottom
    where
      ones : (x y : ℕ) → x * (1 * y) ≡ 1 * x * y
      ones x y = omega arith
  factor-++ (t ∷ ts) us =
      let ft = to_power (r t.atom) t.power in
      same_factor_trans (times ft (factor_of_terms r (ts ++ us))) (times ft (times (factor_of_terms r ts) (factor_of_terms r us))) (times (times ft (factor_of_terms r ts)) (factor_of_terms r us))
      (times_positive ft (times (factor_of_terms r ts) (factor_of_terms r us)) (to_power_positive (r t.atom) t.power (positive t.atom)) (times_positive (factor_of_terms r ts) (factor_of_terms r us) (terms_positive ts) (terms_positive us))).1
      (times_same ft ft (factor_of_terms r (ts ++ us)) (times (factor_of_terms r ts) (factor_of_terms r us)) refl (factor-++ ts us))
      (sym (grouped ft (factor_of_terms r ts) (factor_of_terms r us)))

  pub factor-mul : (u v : PowerMap) → SameFactor (factor r (mul u v)) (times (factor r u) (factor r v))
  factor-mul u v =
      subst (λ ts. SameFactor (factor_of_terms r ts) (times (factor r u) (factor r v))) (sym (product-terms (u.terms ++ v.terms)))
      (same_factor_trans (factor_of_terms r (normal_form (u.terms ++ v.terms))) (factor_of_terms r (u.terms ++ v.terms)) (times (factor r u) (factor r v)) (terms_positive (u.terms ++ v.terms)).1 (factor-normal_form (u.terms ++ v.terms)) (factor-++ u.terms v.terms))

  pub factor-one : factor r one ≡ no_change
  factor-one = ap (factor_of_terms r) terms-one

  -- the factor of the inverse is the swapped pair
  pub factor-inv : (u : PowerMap) → SameFactor (factor r (inv u)) (swapped (factor r u))
  factor-inv u = turned (factor r u).top (factor r u).bottom (factor r (inv u)).top (factor r (inv u)).bottom one_is
    where
      one_is : SameFactor no_change (times (factor r u) (factor r (inv u)))
      one_is = subst (λ f. SameFactor f (times (factor r u) (factor r (inv u)))) (ap (factor r) (mul-inv u) ∙ factor-one) (factor-mul u (inv u))

      turned : (a b c d : ℕ) → 1 * (b * d) ≡ a * c * 1 → c * a ≡ b * d
      turned a b c d e = omega (arith, e)

  -- ---- powers
  pow-suc-units : (u : PowerMap) (n : ℕ) → pow u (pos (suc n)) ≡ mul u (pow u (pos n))
  pow-suc-units u n =
      let next : pos (suc n) ≡ pos 1 +ℤ pos n = omega (arith, ints) in
      ap (pow u) next ∙ pow-+ℤ u (pos 1) (pos n) ∙ ap (λ v. mul v (pow u (pos n))) (pow-one u)

  pow-negsuc-units : (u : PowerMap) (n : ℕ) → pow u (negsuc n) ≡ inv (pow u (pos (suc n)))
  pow-negsuc-units u n =
      let below : negsuc n ≡ negsuc 0 *ℤ pos (suc n) = omega (arith, ints) in
      ap (pow u) below ∙ sym (pow-pow u (pos (suc n)) (negsuc 0))

  factor-pow_natural : (u : PowerMap) (n : ℕ) → SameFactor (factor r (pow u (pos n))) (to_power (factor r u) (pos n))
  factor-pow_natural u zero =
      subst (λ f. SameFactor f (to_power (factor r u) (pos 0))) (sym (ap (factor r) (unit_pow-zero u) ∙ factor-one))
      (ap (λ n. 1 * n) (pow-zero (factor r u).bottom) ∙ ap (λ n. n * 1) (sym (pow-zero (factor r u).top)))
  factor-pow_natural u (suc n) =
      let f = factor r u in
      let g = factor r (pow u (pos n)) in
      let x = factor r (mul u (pow u (pos n))) in
      let step = same_factor_trans x (times f g) (times f (to_power f (pos n))) (times_positive f g (factor_positive u) (factor_positive (pow u (pos n)))).1 (factor-mul u (pow u (pos n))) (times_same f f g (to_power f (pos n)) refl (factor-pow_natural u n)) in
      subst (λ v. SameFactor (factor r v) (to_power f (pos (suc n)))) (sym (pow-suc-units u n))
      (ap (λ m. x.top * m) (pow-succ' f.bottom n) ∙ step ∙ ap (λ m. m * x.bottom) (sym (pow-succ' f.top n)))

  pub factor-pow : (u : PowerMap) (k : ℤ) → SameFactor (factor r (pow u k)) (to_power (factor r u) k)
  factor-pow u (pos n) = factor-pow_natural u n
  factor-pow u (negsuc n) =
      let v = pow u (pos (suc n)) in
      subst (λ w. SameFactor (factor r w) (to_power (factor r u) (negsuc n))) (sym (pow-negsuc-units u n))
      (same_factor_trans (factor r (inv v)) (swapped (factor r v)) (to_power (factor r u) (negsuc n)) (factor_positive v).0 (factor-inv v) (swapped_same (factor r v) (to_power (factor r u) (pos (suc n))) (factor-pow_natural u (suc n))))

pub factors_are_products : FactorsAreProducts
factors_are_products r u v positive = factor-mul r positive u v

pub factors_are_powers : FactorsArePowers
factors_are_powers r u k positive = factor-pow r positive u k
