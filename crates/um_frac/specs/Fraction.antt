-- The fractions in lowest terms within the range, and which of them a quotient of two integers is. Integers here have
-- no bound. A rational number is a quotient n / d with d other than 0, and n / d and m / e are the same number exactly
-- if their cross products n * e and m * d are equal. The range is this project's own; lowest terms are those of Knuth,
-- Seminumerical Algorithms, 4.5.1.
use Rattle.std.specs.Prelude.{◌≡◌, ◌≢◌, ℕ, zero, suc, ◌/◌, ◌==◌, Bool, true, false, T}
use Rattle.std.specs.Prelude.{ℤ, pos, negsuc, neg_ℤ, ◌*ℤ◌, unsigned_abs, int_le, int_div, Option, None, Some}
use lib.Dec.{eqb→eq}
use lib.Signed.{le_z_yes}
use Rattle.um_frac.specs.Range.{greatest}
use Rattle.um_frac.specs.declared.number.Frac.{Frac}
use Rattle.um_frac.specs.Gcd.{gcd}

-- The parts of a fraction. It stands for the rational number numerator / denominator.
abbrev pub numerator : Frac → ℤ
numerator x = x.num

abbrev pub denominator : Frac → ℤ
denominator x = x.den

-- r is the rational number n / d, by cross products
abbrev pub IsQuotient : Frac → ℤ → ℤ → Type 0
IsQuotient r n d = (d ≢ pos 0) × (numerator r *ℤ d ≡ n *ℤ denominator r)

-- the quotient n / d is a number within the range
abbrev pub Fits : ℤ → ℤ → Type 0
Fits n d = (r : Frac) × IsQuotient r n d

-- the integer of this size, negative if the flag is set
abbrev pub signed : Bool → ℕ → ℤ
signed false n = pos n
signed true n = neg_ℤ (pos n)

-- what f gives if the test holds, otherwise nothing
abbrev pub where_true : {A : Type 0} (test : Bool) → (T test → Option A) → Option A
where_true true f = f tt
where_true false f = None

-- The fraction with the numerator p and the denominator q, if these are in lowest terms and within the range: p from
-- -9223372036854775807 to 9223372036854775807, q from 1 to 9223372036854775807.
unfoldable pub fraction : ℤ → ℤ → Option Frac
fraction p q =
    where_true (int_le (pos 1) q) (λ positive.
    where_true (int_le q (pos greatest)) (λ den_fits.
    where_true (int_le (neg_ℤ (pos greatest)) p) (λ above.
    where_true (int_le p (pos greatest)) (λ num_fits.
    where_true (gcd (unsigned_abs p) (unsigned_abs q) == 1) (λ lowest.
    Some (record {
      num = p;
      den = q;
      positive = le_z_yes positive;
      den_fits = le_z_yes den_fits;
      above = le_z_yes above;
      num_fits = le_z_yes num_fits;
      lowest = eqb→eq (gcd (unsigned_abs p) (unsigned_abs q)) 1 lowest;
    }))))))

-- n / d for a d above 0: both divided by their greatest common divisor, if that is within the range
unfoldable pub divided : ℤ → ℕ → Option Frac
divided n d = let g = gcd (unsigned_abs n) d in fraction (int_div n (pos g)) (pos (d / g))

-- The quotient n / d in lowest terms. Nothing at the divisor 0, and nothing if the result is out of the range.
unfoldable pub reduced : ℤ → ℤ → Option Frac
reduced n (pos zero) = None
reduced n (pos (suc d)) = divided n (suc d)
reduced n (negsuc d) = divided (neg_ℤ n) (suc d)
