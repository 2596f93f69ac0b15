-- The number that a text states, where the text is that of a number and its value is in range.
-- Source: the texts of numbers and their values as among the tokens of a program (um_syntax).
use Rattle.std.specs.Prelude.{ℕ, pos, nat_lt, int_le, Bool, ◌&&◌, cond, List, length, Option, Some, None}
use Rattle.std.specs.Char.{is_ascii_digit}
use Rattle.std.specs.List.{list_all}
use Rattle.um_frac.specs.declared.number.Frac.{Frac}
use Rattle.um_frac.specs.Fraction.{numerator}
use Rattle.um_syntax.specs.Numeral.{Numeral, Whole, Decimal, Ratio, ordinary_value}
use Rattle.um_sizes.specs.Parts.{cut}

-- one digit or more
abbrev pub are_digits : List ℕ → Bool
are_digits ds = nat_lt 0 (length ds) && list_all is_ascii_digit ds

-- the parts of a number's text, by its first point, or otherwise by its first r
abbrev pub over_or_whole : List ℕ → Option (List ℕ × List ℕ) → Numeral
over_or_whole text None = Whole text
over_or_whole text (Some parts) = Ratio parts.0 parts.1

abbrev pub point_or_other : List ℕ → Option (List ℕ × List ℕ) → Numeral
point_or_other text None = over_or_whole text (cut 114 text)
point_or_other text (Some parts) = Decimal parts.0 parts.1

abbrev pub numeral_in : List ℕ → Numeral
numeral_in text = point_or_other text (cut 46 text)

-- each of its parts is digits
abbrev pub is_numeral : Numeral → Bool
is_numeral (Whole digits) = are_digits digits
is_numeral (Decimal whole part) = are_digits whole && are_digits part
is_numeral (Ratio above below) = are_digits above && are_digits below

-- the value of a number's text, if it is one and has at most 38 digits and a value in range
abbrev pub value_in : Numeral → Option Frac
value_in n = cond (is_numeral n) (ordinary_value n) None

abbrev pub number_in : List ℕ → Option Frac
number_in text = value_in (numeral_in text)

-- the number, if it is above 0
abbrev pub positive : Frac → Option Frac
positive c = cond (int_le (pos 1) (numerator c)) (Some c) None
