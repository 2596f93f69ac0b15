-- The definition of whole powers at a few numbers.
use Rattle.std.proofs.Common.{◌≡◌, ℤ, pos, negsuc, ◌*ℤ◌, Ok, Err, sym, ◌∙◌, arith}
use Rattle.std.proofs.lemmas.Int.{ints}
use Rattle.std.specs.Int.{int_pow}
use Rattle.um_frac.specs.declared.number.Frac.{Frac}
use Rattle.um_frac.specs.declared.number.Trap.TheVariants.{Overflow, DivZero}
use Rattle.um_frac.specs.Gcd.{gcd}
use Rattle.um_frac.specs.Fraction.{numerator, denominator, fraction, divided, reduced}
use Rattle.um_frac.specs.Arithmetic.{exactly, whole_power_of}
use Rattle.um_frac.proofs.FractionLaws.{whole_power_from}
use Rattle.um_frac.proofs.WholePowers.{power_of_zero}

-- the number p / q, in lowest terms
abbrev Is : Frac → ℤ → ℤ → Type 0
Is a p q = (numerator a ≡ p) × (denominator a ≡ q)

two_to_62 : (a r : Frac) → Is a (pos 2) (pos 1) → Is r (pos 4611686018427387904) (pos 1) → whole_power_of a (pos 62) ≡ Ok r
two_to_62 a r base power = whole_power_from a r (pos 62) ((λ i. power.0 i *ℤ int_pow (base.1 i) 62) ∙ (λ i. int_pow (sym base.0 i) 62 *ℤ sym power.1 i))

two_to_63 : (a : Frac) → Is a (pos 2) (pos 1) → whole_power_of a (pos 63) ≡ Err Overflow
unfolding whole_power_of reduced divided fraction gcd
two_to_63 a base = λ i. exactly (int_pow (base.0 i) 63) (int_pow (base.1 i) 63)

zero_to_0 : (a r : Frac) → Is a (pos 0) (pos 1) → Is r (pos 1) (pos 1) → whole_power_of a (pos 0) ≡ Ok r
zero_to_0 a r base power = whole_power_from a r (pos 0) ((λ i. power.0 i *ℤ int_pow (base.1 i) 0) ∙ (λ i. int_pow (sym base.0 i) 0 *ℤ sym power.1 i))

zero_to_minus_1 : (a : Frac) → Is a (pos 0) (pos 1) → whole_power_of a (negsuc 0) ≡ Err DivZero
zero_to_minus_1 a base = sym (power_of_zero a (negsuc 0) base.0 (omega (arith, ints)))

half_to_minus_3 : (a r : Frac) → Is a (pos 1) (pos 2) → Is r (pos 8) (pos 1) → whole_power_of a (negsuc 2) ≡ Ok r
half_to_minus_3 a r base power =
    whole_power_from a r (negsuc 2) ((λ e. let f = sym base.0 ∙ e in cc), (λ i. power.0 i *ℤ int_pow (base.0 i) 3) ∙ (λ i. int_pow (sym base.1 i) 3 *ℤ sym power.1 i))

minus_2_to_3 : (a r : Frac) → Is a (negsuc 1) (pos 1) → Is r (negsuc 7) (pos 1) → whole_power_of a (pos 3) ≡ Ok r
minus_2_to_3 a r base power = whole_power_from a r (pos 3) ((λ i. power.0 i *ℤ int_pow (base.1 i) 3) ∙ (λ i. int_pow (sym base.0 i) 3 *ℤ sym power.1 i))
