-- A fraction as a decimal number: the nearest number of so many digits after the point.
-- Source: IEEE 754-2019, 4.3.1 (roundTiesToEven); the mark of a number that isn't the fraction is this project's own.
use Rattle.std.specs.Prelude.{ℕ, pos, ◌+◌, ◌-◌, ◌*◌, ◌/◌, ◌%◌, ◌^◌, ◌==◌, nat_lt, int_lt, Bool, not, ◌&&◌}
use Rattle.std.specs.Prelude.{cond, if◌then◌else◌}
use Rattle.std.specs.Prelude.{List, [], ◌++◌, length, replicate, codes, unsigned_abs}
use Rattle.std.specs.Fmt.{decimal}
use Rattle.um_frac.specs.declared.number.Frac.{Frac}
use Rattle.um_frac.specs.Fraction.{numerator, denominator}

-- ---- the number

-- the whole number nearest to n / d, and of two nearest the even one, for a d above 0
abbrev pub nearest : ℕ → ℕ → ℕ
nearest n d =
    if nat_lt (2 * (n % d)) d then n / d else if nat_lt d (2 * (n % d)) then n / d + 1 else n / d + n / d % 2

-- the numerator without its sign, in units of the last of k digits after the point
abbrev pub scaled_size : ℕ → Frac → ℕ
scaled_size k x = unsigned_abs (numerator x) * 10 ^ k

-- how many of these units the decimal number without its sign has
abbrev pub last_digits : ℕ → Frac → ℕ
last_digits k x = nearest (scaled_size k x) (unsigned_abs (denominator x))

-- the decimal number is the fraction itself
abbrev pub is_exact : ℕ → Frac → Bool
is_exact k x = last_digits k x * unsigned_abs (denominator x) == scaled_size k x

-- it is below 0
abbrev pub is_below_zero : ℕ → Frac → Bool
is_below_zero k x = int_lt (numerator x) (pos 0) && not (last_digits k x == 0)

-- ---- its text

-- the number's digits, after as many zeros as make k digits of them
abbrev pub padded : ℕ → ℕ → List ℕ
padded k n = replicate (k - length (decimal n)) 48 ++ decimal n

-- the point and k digits after it, or nothing if k is 0
abbrev pub part_text : ℕ → ℕ → List ℕ
part_text k n = if k == 0 then [] else codes "." ++ padded k n

-- so many units of the last of k digits after the point
abbrev pub digits_text : ℕ → ℕ → List ℕ
digits_text k units = decimal (units / 10 ^ k) ++ part_text k (units % 10 ^ k)

-- `~` before a number that isn't the fraction, and then `-` before one below 0
abbrev pub marks_text : Bool → Bool → List ℕ
marks_text exact negative = cond exact [] (codes "~") ++ cond negative (codes "-") []

unfoldable pub decimal_text : ℕ → Frac → List ℕ
decimal_text k x = marks_text (is_exact k x) (is_below_zero k x) ++ digits_text k (last_digits k x)
