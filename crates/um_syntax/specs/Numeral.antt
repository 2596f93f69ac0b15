-- The texts of numbers and their values: digits in decimal notation (Knuth, Seminumerical Algorithms, 4.4), with a
-- point or over other digits (this project's own).
use Rattle.std.specs.Prelude.{◌≡◌, ℕ, ◌+◌, ◌-◌, ◌*◌, ◌^◌, Bool, true, false, cond, nat_le, List, [], ◌∷◌, ◌++◌, length}
use Rattle.std.specs.Prelude.{pos, Option, None}
use Rattle.std.specs.Char.{is_ascii_digit}
use Rattle.um_frac.specs.declared.number.Frac.{Frac}
use Rattle.um_frac.specs.Fraction.{reduced}

abbrev pub AreDigits : List ℕ → Type 0
AreDigits [] = Unit {0}
AreDigits (d ∷ ds) = (is_ascii_digit d ≡ true) × AreDigits ds

-- one digit or more
abbrev pub IsDigits : List ℕ → Type 0
IsDigits [] = ⊥
IsDigits (d ∷ ds) = (is_ascii_digit d ≡ true) × AreDigits ds

-- the number that digits write, after a number that stands before them; 48 is the digit 0
abbrev pub value_after : ℕ → List ℕ → ℕ
value_after n [] = n
value_after n (d ∷ ds) = value_after (10 * n + (d - 48)) ds

abbrev pub value_of : List ℕ → ℕ
value_of ds = value_after 0 ds

-- digits; digits, a point and digits; digits, an r and digits
pub data Numeral : Type 0 where
  Whole : (digits : List ℕ) → Numeral
  Decimal : (whole part : List ℕ) → Numeral
  Ratio : (above below : List ℕ) → Numeral

abbrev pub numeral_text : Numeral → List ℕ
numeral_text (Whole digits) = digits
numeral_text (Decimal whole part) = whole ++ 46 ∷ part
numeral_text (Ratio above below) = above ++ 114 ∷ below

abbrev pub IsNumeral : Numeral → Type 0
IsNumeral (Whole digits) = IsDigits digits
IsNumeral (Decimal whole part) = IsDigits whole × IsDigits part
IsNumeral (Ratio above below) = IsDigits above × IsDigits below

-- Its value is the first of these over the second: the digits; the digits without the point over a power of ten; the
-- first digits over the second.
abbrev pub numerator_of : Numeral → ℕ
numerator_of (Whole digits) = value_of digits
numerator_of (Decimal whole part) = value_of (whole ++ part)
numerator_of (Ratio above below) = value_of above

abbrev pub denominator_of : Numeral → ℕ
denominator_of (Whole digits) = 1
denominator_of (Decimal whole part) = 10 ^ length part
denominator_of (Ratio above below) = value_of below

abbrev pub digit_count : Numeral → ℕ
digit_count (Whole digits) = length digits
digit_count (Decimal whole part) = length whole + length part
digit_count (Ratio above below) = length above + length below

-- A number that isn't a power has at most 38 digits, and a value in the range of fractions.
abbrev pub ordinary_value : Numeral → Option Frac
ordinary_value n = cond (nat_le (digit_count n) 38) (reduced (pos (numerator_of n)) (pos (denominator_of n))) None

-- A power is digits alone, and at most 2147483647.
abbrev pub power_value : Numeral → Option Frac
power_value (Whole digits) = cond (nat_le (value_of digits) 2147483647) (reduced (pos (value_of digits)) (pos 1)) None
power_value (Decimal whole part) = None
power_value (Ratio above below) = None

-- the value of a number text, as a power or not; none if it breaks the rule
abbrev pub number_value : Bool → Numeral → Option Frac
number_value true n = power_value n
number_value false n = ordinary_value n
