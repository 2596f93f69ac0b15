-- What the operations of the language give at numbers that are scaled: results that are scaled, by the factor of the result's
-- unit, and equal answers of comparisons.
use Rattle.std.proofs.Common.{◌≡◌, ◌≢◌, refl, sym, ap, subst, ◌∙◌, ℕ, suc, ◌<◌, Bool, true, false, ℤ, pos, negsuc, ◌*ℤ◌, arith}
use Rattle.std.specs.Prelude.{IsTrue}
use Rattle.std.proofs.lemmas.Int.{ints}
use Rattle.std.proofs.Math.IntN.{zero-*ℤ, pos-*ℤ-pos}
use Rattle.um_frac.specs.declared.number.Frac.{Frac}
use Rattle.um_frac.specs.Fraction.{numerator, denominator}
use Rattle.um_frac.specs.Arithmetic.{is_less, is_same, IsSum, IsDifference, IsProduct, IsRatio, IsWholePower, IsNegation}
use Rattle.um_frac.proofs.Integers.{*ℤ-ne-zero, *ℤ_assoc, *ℤ-pos_one, cancel}
use Rattle.um_frac.proofs.LowestTerms.{above_zero}
use Rattle.um_frac.proofs.Outcomes.{den_apart, less_iff, cross_equal, same_iff}
use Rattle.um_scaling.specs.Rescaling.{Factor, IsPositive, SameFactor, no_change, to_power, Rescaling, factor, IsScaled}
use Rattle.um_scaling.specs.RescaledProgram.{RescaledNumber}
use Rattle.um_units.specs.PowerMap.{PowerMap}
use Rattle.um_tree.specs.declared.note.UnitNote.{UnitNote}
use Rattle.um_tree.specs.declared.note.UnitNote.TheVariants.{Hole, Written}
use Rattle.um_tree.specs.Typing.{LiteralUnit}
use Rattle.um_scaling.specs.Rescaling.{times as times_factor}
use Rattle.um_scaling.proofs.Factors.{swapped as swapped_factor}
use Rattle.um_scaling.proofs.Ratios.{Ratio, Same, IsProper, times, swapped, Scales, same_trans, times_same, swapped_same, opposite_scaled, sum_scaled, difference_scaled, product_scaled, power_scaled, IsAbove, less_scaled, less_before, same_scaled, same_before}

abbrev pub ratio : Frac → Ratio
ratio c = record { top = numerator c; bottom = denominator c }

abbrev pub ratio_of : Factor → Ratio
ratio_of f = record { top = pos f.top; bottom = pos f.bottom }

-- ---- what is above 0
above_proper : (n : ℕ) → 0 < n → pos n ≢ pos 0
above_proper n above e = omega (arith, ints, e, above)

pub factor_proper : (f : Factor) → IsPositive f → IsProper (ratio_of f)
factor_proper f positive = above_proper f.bottom positive.1

swapped_proper : (f : Factor) → IsPositive f → IsProper (ratio_of (swapped_factor f))
swapped_proper f positive = above_proper f.top positive.0

den_above : (c : Frac) → IsAbove (denominator c)
den_above c = above_zero c.den c.positive

-- ---- a factor may be put for the same rational number
pub same_ratio : (f g : Factor) → SameFactor f g → Same (ratio_of f) (ratio_of g)
same_ratio f g e = pos-*ℤ-pos f.top g.bottom ∙ ap pos e ∙ sym (pos-*ℤ-pos g.top f.bottom)

pub by_same_factor : (f g : Factor) → IsPositive f → SameFactor f g → (c d : Frac) → IsScaled f c d → IsScaled g c d
by_same_factor f g positive e c d h =
    same_trans (ratio d) (times (ratio c) (ratio_of f)) (times (ratio c) (ratio_of g)) (*ℤ-ne-zero (denominator c) (pos f.bottom) (den_apart c) (factor_proper f positive)) h (times_same (ratio c) (ratio c) (ratio_of f) (ratio_of g) refl (same_ratio f g e))

-- the ratio of a product of factors is the product of the ratios
ratio_of_product : (f g : Factor) → (r r' : Ratio) → Scales (times (ratio_of f) (ratio_of g)) r r' → Scales (ratio_of (times_factor f g)) r r'
ratio_of_product f g r r' h =
    ap (λ z. r'.top *ℤ (r.bottom *ℤ z)) (sym (pos-*ℤ-pos f.bottom g.bottom)) ∙ h ∙ ap (λ z. (r.top *ℤ z) *ℤ r'.bottom) (pos-*ℤ-pos f.top g.top)

-- ---- one factor after another
pub one_positive : IsPositive no_change
one_positive = (omega arith, omega arith)

pub unchanged : (c : Frac) → IsScaled no_change c c
unchanged c = ap (λ z. numerator c *ℤ z) (*ℤ-pos_one (denominator c)) ∙ ap (λ z. z *ℤ denominator c) (sym (*ℤ-pos_one (numerator c)))

pub scaled_twice : (f g : Factor) → IsPositive g → (c d e : Frac) → IsScaled f c d → IsScaled g d e → IsScaled (times_factor f g) c e
scaled_twice f g positive c d e h k =
    let first : Same (times (ratio d) (ratio_of g)) (times (times (ratio c) (ratio_of f)) (ratio_of g)) = times_same (ratio d) (times (ratio c) (ratio_of f)) (ratio_of g) (ratio_of g) h refl in
    let whole : Same (ratio e) (times (times (ratio c) (ratio_of f)) (ratio_of g)) = same_trans (ratio e) (times (ratio d) (ratio_of g)) (times (times (ratio c) (ratio_of f)) (ratio_of g)) (*ℤ-ne-zero (denominator d) (pos g.bottom) (den_apart d) (factor_proper g positive)) k first in
    ratio_of_product f g (ratio c) (ratio e)
    (ap (λ z. numerator e *ℤ z) (sym (*ℤ_assoc (denominator c) (pos f.bottom) (pos g.bottom))) ∙ whole ∙ ap (λ z. z *ℤ denominator e) (*ℤ_assoc (numerator c) (pos f.top) (pos g.top)))

-- ---- 0 and negation
pub zero_scaled : (f : Factor) (c : Frac) → numerator c ≡ pos 0 → IsScaled f c c
zero_scaled f c e =
    ap (λ z. z *ℤ (denominator c *ℤ pos f.bottom)) e
    ∙ zero-*ℤ (denominator c *ℤ pos f.bottom)
    ∙ sym (zero-*ℤ (denominator c))
    ∙ ap (λ z. z *ℤ denominator c) (sym (zero-*ℤ (pos f.top)))
    ∙ ap (λ z. (z *ℤ pos f.top) *ℤ denominator c) (sym e)

-- a literal, whose unit is the written one or any
pub literal_scaled : (r : Rescaling) (c : Frac) (note : UnitNote) (u : PowerMap) (d : Frac) → RescaledNumber r c note d → LiteralUnit c note u → IsScaled (factor r u) c d
literal_scaled r c Hole u d q h = subst (λ (x : Frac). IsScaled (factor r u) c x) (sym q) (zero_scaled (factor r u) c h)
literal_scaled r c (Written w) u d q h = subst (λ (v : PowerMap). IsScaled (factor r v) c d) (sym h) q

pub negation_scaled : (f : Factor) (c d r s : Frac) → IsNegation r c → IsNegation s d → IsScaled f c d → IsScaled f r s
negation_scaled f c d r s e g h =
    (λ i. g.0 i *ℤ (e.1 i *ℤ pos f.bottom)) ∙ opposite_scaled (ratio_of f) (ratio c) (ratio d) h ∙ (λ i. (sym e.0 i *ℤ pos f.top) *ℤ sym g.1 i)

-- ---- the four operations
module _ (a b r a' b' r' : Frac) where
  pub sums_scaled : (f : Factor) → IsPositive f → IsScaled f a a' → IsScaled f b b' → IsSum r a b → IsSum r' a' b' → IsScaled f r r'
  sums_scaled f positive h k e e' = sum_scaled (ratio_of f) (factor_proper f positive) (ratio a) (ratio b) (ratio r) (ratio a') (ratio b') (ratio r') (den_apart a) (den_apart b) (den_apart a') (den_apart b') h k e e'

  pub differences_scaled : (f : Factor) → IsPositive f → IsScaled f a a' → IsScaled f b b' → IsDifference r a b → IsDifference r' a' b' → IsScaled f r r'
  differences_scaled f positive h k e e' = difference_scaled (ratio_of f) (factor_proper f positive) (ratio a) (ratio b) (ratio r) (ratio a') (ratio b') (ratio r') (den_apart a) (den_apart b) (den_apart a') (den_apart b') h k e e'

  pub products_scaled : (f g : Factor) → IsPositive f → IsPositive g → IsScaled f a a' → IsScaled g b b' → IsProduct r a b → IsProduct r' a' b' → IsScaled (times_factor f g) r r'
  products_scaled f g pf pg h k e e' =
      ratio_of_product f g (ratio r) (ratio r')
      (product_scaled (ratio_of f) (ratio_of g) (ratio a) (ratio b) (ratio r) (ratio a') (ratio b') (ratio r') (factor_proper f pf) (factor_proper g pg) (den_apart a) (den_apart b) (den_apart a') (den_apart b') h k e e')

  pub quotients_scaled : (f g : Factor) → IsPositive f → IsPositive g → IsScaled f a a' → IsScaled g b b' → IsRatio r a b → IsRatio r' a' b' → IsScaled (times_factor f (swapped_factor g)) r r'
  quotients_scaled f g pf pg h k e e' =
      ratio_of_product f (swapped_factor g) (ratio r) (ratio r')
      (product_scaled (ratio_of f) (ratio_of (swapped_factor g)) (ratio a) (swapped (ratio b)) (ratio r) (ratio a') (swapped (ratio b')) (ratio r') (factor_proper f pf) (swapped_proper g pg) (den_apart a) e.0 (den_apart a') e'.0 h
      (swapped_same (ratio b') (times (ratio b) (ratio_of g)) k) e.1 e'.1)

-- ---- whole powers
pub powers_scaled : (f : Factor) (a r a' r' : Frac) (k : ℤ) → IsPositive f → IsScaled f a a' → IsWholePower r a k → IsWholePower r' a' k → IsScaled (to_power f k) r r'
powers_scaled f a r a' r' (pos n) positive h e e' =
    power_scaled (ratio_of f) (ratio a) (ratio r) (ratio a') (ratio r') n (factor_proper f positive) (den_apart a) (den_apart a') h e e'
powers_scaled f a r a' r' (negsuc n) positive h e e' =
    power_scaled (ratio_of (swapped_factor f)) (swapped (ratio a)) (ratio r) (swapped (ratio a')) (ratio r') (suc n) (swapped_proper f positive) e.0 e'.0 (swapped_same (ratio a') (times (ratio a) (ratio_of f)) h) e.1 e'.1

-- ---- a number is 0 exactly where the scaled one is
module _ (f : Factor) (positive : IsPositive f) (c d : Frac) (h : IsScaled f c d) where
  pub zero_after : numerator c ≡ pos 0 → numerator d ≡ pos 0
  zero_after e =
      let x = denominator c *ℤ pos f.bottom in
      cancel (numerator d) (pos 0) x (*ℤ-ne-zero (denominator c) (pos f.bottom) (den_apart c) (factor_proper f positive))
      (h
      ∙ ap (λ z. (z *ℤ pos f.top) *ℤ denominator d) e
      ∙ ap (λ z. z *ℤ denominator d) (zero-*ℤ (pos f.top))
      ∙ zero-*ℤ (denominator d)
      ∙ sym (zero-*ℤ x))

  pub zero_before : numerator d ≡ pos 0 → numerator c ≡ pos 0
  zero_before e =
      let x = denominator c *ℤ pos f.bottom in
      let product : numerator c *ℤ pos f.top ≡ pos 0 = cancel (numerator c *ℤ pos f.top) (pos 0) (denominator d) (den_apart d) (sym h ∙ ap (λ z. z *ℤ x) e ∙ zero-*ℤ x ∙ sym (zero-*ℤ (denominator d))) in
      cancel (numerator c) (pos 0) (pos f.top) (above_proper f.top positive.0) (product ∙ sym (zero-*ℤ (pos f.top)))

-- ---- comparisons
both_tests : (s t : Bool) → (IsTrue s → IsTrue t) → (IsTrue t → IsTrue s) → t ≡ s
both_tests true t there back = there refl
both_tests false true there back = sym (back refl)
both_tests false false there back = refl

module _ (f : Factor) (positive : IsPositive f) (a b a' b' : Frac) (h : IsScaled f a a') (k : IsScaled f b b') where
  abbrev top_above : IsAbove (pos f.top)
  top_above = (f.top, refl, positive.0)

  abbrev bottom_above : IsAbove (pos f.bottom)
  bottom_above = (f.bottom, refl, positive.1)

  pub less_alike : is_less a' b' ≡ is_less a b
  less_alike =
      let old = less_iff (numerator a *ℤ denominator b) (numerator b *ℤ denominator a) in
      let new = less_iff (numerator a' *ℤ denominator b') (numerator b' *ℤ denominator a') in
      both_tests (is_less a b) (is_less a' b')
      (λ e. new.1 (less_scaled (ratio_of f) (ratio a) (ratio b) (ratio a') (ratio b') h k top_above bottom_above (den_above a) (den_above b) (den_above a') (den_above b') (old.0 e)))
      (λ e. old.1 (less_before (ratio_of f) (ratio a) (ratio b) (ratio a') (ratio b') h k top_above bottom_above (den_above a) (den_above b) (den_above a') (den_above b') (new.0 e)))

  pub same_alike : is_same a' b' ≡ is_same a b
  same_alike =
      both_tests (is_same a b) (is_same a' b')
      (λ e. (same_iff a' b').1 ((cross_equal a' b').1 (same_scaled (ratio_of f) (ratio a) (ratio b) (ratio a') (ratio b') h k top_above bottom_above (den_above a) (den_above b) (den_above a') (den_above b') ((cross_equal a b).0 ((same_iff a b).0 e)))))
      (λ e. (same_iff a b).1 ((cross_equal a b).1 (same_before (ratio_of f) (ratio a) (ratio b) (ratio a') (ratio b') h k top_above bottom_above (den_above a) (den_above b) (den_above a') (den_above b') ((cross_equal a' b').0 ((same_iff a' b').0 e)))))
