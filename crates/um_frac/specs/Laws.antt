-- The laws of fractions: what the definitions of this crate come to, in the words of the rational numbers, which are
-- pairs of integers with equal cross products. That lowest terms are unique: Knuth, Seminumerical Algorithms, 4.5.1.
use Rattle.std.specs.Prelude.{◌≡◌, ◌≢◌, ◌↔◌, ◌⊎◌, ℕ, ◌≤◌, ℤ, pos}
use Rattle.std.specs.Prelude.{neg_ℤ, ◌*ℤ◌, ◌≤ℤ◌, ◌<ℤ◌, unsigned_abs, IsTrue, Some, Ok, Err}
use Rattle.std.specs.Int.{IsGcd, ◌∣◌}
use Rattle.um_frac.specs.Range.{greatest}
use Rattle.um_frac.specs.declared.number.Frac.{Frac}
use Rattle.um_frac.specs.declared.number.Trap.TheVariants.{Overflow, DivZero}
use Rattle.um_frac.specs.Gcd.{gcd}
use Rattle.um_frac.specs.Fraction.{numerator, denominator, reduced, IsQuotient}
use Rattle.um_frac.specs.Arithmetic.{sum_of, difference_of, product_of, quotient_of, whole_power_of}
use Rattle.um_frac.specs.Arithmetic.{negation_of, is_less}
use Rattle.um_frac.specs.Arithmetic.{is_same, IsSum, IsDifference, IsProduct, IsRatio, IsWholePower, IsNegation}

-- ---- lowest terms
-- the greatest number that divides two numbers is divided by each number that divides both
abbrev pub GreatestIsCommon : Type 0
GreatestIsCommon = (a b : ℕ) → IsGcd a b (gcd a b)

-- the parts of a number lie in the range
abbrev pub PartsInRange : Type 0
PartsInRange =
    (a : Frac) →
    ((neg_ℤ (pos greatest) ≤ℤ numerator a) × (numerator a ≤ℤ pos greatest))
    × ((pos 1 ≤ℤ denominator a) × (denominator a ≤ℤ pos greatest))

-- and no number but 1 divides both
abbrev pub PartsInLowestTerms : Type 0
PartsInLowestTerms = (a : Frac) (d : ℕ) → d ∣ unsigned_abs (numerator a) → d ∣ unsigned_abs (denominator a) → d ≡ 1

-- numbers with equal parts are equal
abbrev pub EqualParts : Type 0
EqualParts = (a b : Frac) → numerator a ≡ numerator b → denominator a ≡ denominator b → a ≡ b

-- numbers are equal exactly if their cross products are
abbrev pub EqualCrossProducts : Type 0
EqualCrossProducts = (a b : Frac) → (a ≡ b) ↔ (numerator a *ℤ denominator b ≡ numerator b *ℤ denominator a)

-- each quotient of two integers within the range is exactly one number
abbrev pub OneForm : Type 0
OneForm =
    (n d : ℤ) → d ≢ pos 0 → unsigned_abs n ≤ greatest → unsigned_abs d ≤ greatest →
    (r : Frac) × (IsQuotient r n d) × ((s : Frac) → IsQuotient s n d → s ≡ r)

-- `reduced` gives exactly the number that is the quotient
abbrev pub ReducedIsQuotient : Type 0
ReducedIsQuotient = (n d : ℤ) (r : Frac) → (reduced n d ≡ Some r) ↔ IsQuotient r n d

-- ---- sums
abbrev pub SumIsExact : Type 0
SumIsExact = (a b r : Frac) → (sum_of a b ≡ Ok r) ↔ IsSum r a b

abbrev pub SumOverflows : Type 0
SumOverflows = (a b : Frac) → (sum_of a b ≡ Err Overflow) ↔ ((r : Frac) → ¬ IsSum r a b)

abbrev pub SumNeverDivZero : Type 0
SumNeverDivZero = (a b : Frac) → sum_of a b ≢ Err DivZero

-- ---- differences
abbrev pub DifferenceIsExact : Type 0
DifferenceIsExact = (a b r : Frac) → (difference_of a b ≡ Ok r) ↔ IsDifference r a b

abbrev pub DifferenceOverflows : Type 0
DifferenceOverflows = (a b : Frac) → (difference_of a b ≡ Err Overflow) ↔ ((r : Frac) → ¬ IsDifference r a b)

abbrev pub DifferenceNeverDivZero : Type 0
DifferenceNeverDivZero = (a b : Frac) → difference_of a b ≢ Err DivZero

-- ---- products
abbrev pub ProductIsExact : Type 0
ProductIsExact = (a b r : Frac) → (product_of a b ≡ Ok r) ↔ IsProduct r a b

abbrev pub ProductOverflows : Type 0
ProductOverflows = (a b : Frac) → (product_of a b ≡ Err Overflow) ↔ ((r : Frac) → ¬ IsProduct r a b)

abbrev pub ProductNeverDivZero : Type 0
ProductNeverDivZero = (a b : Frac) → product_of a b ≢ Err DivZero

-- ---- quotients
abbrev pub QuotientIsExact : Type 0
QuotientIsExact = (a b r : Frac) → (quotient_of a b ≡ Ok r) ↔ IsRatio r a b

abbrev pub QuotientByZero : Type 0
QuotientByZero = (a b : Frac) → (quotient_of a b ≡ Err DivZero) ↔ (numerator b ≡ pos 0)

abbrev pub QuotientOverflows : Type 0
QuotientOverflows =
    (a b : Frac) → (quotient_of a b ≡ Err Overflow) ↔ ((numerator b ≢ pos 0) × ((r : Frac) → ¬ IsRatio r a b))

-- ---- whole powers
abbrev pub WholePowerIsExact : Type 0
WholePowerIsExact = (a r : Frac) (k : ℤ) → (whole_power_of a k ≡ Ok r) ↔ IsWholePower r a k

abbrev pub WholePowerOfZero : Type 0
WholePowerOfZero = (a : Frac) (k : ℤ) → (whole_power_of a k ≡ Err DivZero) ↔ ((numerator a ≡ pos 0) × (k <ℤ pos 0))

abbrev pub WholePowerOverflows : Type 0
WholePowerOverflows =
    (a : Frac) (k : ℤ) →
    (whole_power_of a k ≡ Err Overflow)
    ↔ ((¬ ((numerator a ≡ pos 0) × (k <ℤ pos 0))) × ((r : Frac) → ¬ IsWholePower r a k))

-- the power 0 of every number is 1
abbrev pub PowerZeroIsOne : Type 0
PowerZeroIsOne = (a r : Frac) → numerator r ≡ pos 1 → denominator r ≡ pos 1 → whole_power_of a (pos 0) ≡ Ok r

-- a power of a product is the product of the powers
abbrev pub PowersOfProducts : Type 0
PowersOfProducts =
    (a b r s t v : Frac) (k : ℤ) →
    IsWholePower r a k → IsWholePower s b k → IsProduct t a b → IsProduct v r s → IsWholePower v t k

-- ---- negation and equality
abbrev pub NegationIsExact : Type 0
NegationIsExact = (a r : Frac) → (r ≡ negation_of a) ↔ IsNegation r a

abbrev pub SameIsEqual : Type 0
SameIsEqual = (a b : Frac) → IsTrue (is_same a b) ↔ (a ≡ b)

-- ---- the order
abbrev pub OrderIsIrreflexive : Type 0
OrderIsIrreflexive = (a : Frac) → ¬ IsTrue (is_less a a)

abbrev pub OrderIsTransitive : Type 0
OrderIsTransitive = (a b c : Frac) → IsTrue (is_less a b) → IsTrue (is_less b c) → IsTrue (is_less a c)

abbrev pub OrderIsTotal : Type 0
OrderIsTotal = (a b : Frac) → IsTrue (is_less a b) ⊎ ((a ≡ b) ⊎ IsTrue (is_less b a))
