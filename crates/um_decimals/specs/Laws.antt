-- What holds of all decimal numbers, by the definitions alone.
use Rattle.std.specs.Prelude.{◌≡◌, ◌↔◌, ◌⊎◌, ℕ, pos, ◌+◌, ◌*◌, ◌%◌, ◌^◌, ◌<◌, ◌≤◌, ◌*ℤ◌, IsTrue}
use Rattle.um_frac.specs.declared.number.Frac.{Frac}
use Rattle.um_frac.specs.Fraction.{numerator, denominator, signed}
use Rattle.um_decimals.specs.Decimals.{nearest, scaled_size, last_digits, is_exact, is_below_zero}
use Rattle.std.specs.Prelude.{unsigned_abs}

-- The whole number m differs from n / d by at most a half, and if it differs by a half it is even: |m - n / d| <= 1 /
-- 2, with both sides twice d times as large.
pub record IsNearest (n d m : ℕ) : Type 0 where
  pub above : 2 * (m * d) ≤ 2 * n + d
  pub below : 2 * n ≤ 2 * (m * d) + d
  pub even : (2 * (m * d) ≡ 2 * n + d) ⊎ (2 * n ≡ 2 * (m * d) + d) → m % 2 ≡ 0

abbrev pub NearestIsNearest : Type 0
NearestIsNearest = (n d : ℕ) → 0 < d → IsNearest n d (nearest n d)

abbrev pub OneIsNearest : Type 0
OneIsNearest = (n d m k : ℕ) → 0 < d → IsNearest n d m → IsNearest n d k → m ≡ k

-- with k digits after the point, the fraction and the decimal number without their signs
abbrev pub DecimalIsNearest : Type 0
DecimalIsNearest =
    (k : ℕ) (x : Frac) → IsNearest (scaled_size k x) (unsigned_abs (denominator x)) (last_digits k x)

-- the decimal number, with its sign, is the fraction exactly if no `~` is before it
abbrev pub ExactlyTheFraction : Type 0
ExactlyTheFraction =
    (k : ℕ) (x : Frac) →
    IsTrue (is_exact k x)
    ↔ (signed (is_below_zero k x) (last_digits k x) *ℤ denominator x ≡ numerator x *ℤ pos (10 ^ k))
