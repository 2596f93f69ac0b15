-- What holds of all words of units and of all decimal numbers, by the definitions alone.
use Rattle.std.specs.Prelude.{◌≡◌, ◌==◌, ℕ, pos, ◌/◌, ◌%◌, ◌^◌, ◌≤◌, IsTrue, List, cond, unsigned_abs}
use Rattle.std.specs.Fmt.{decimal}
use Rattle.um_frac.specs.declared.number.Frac.{Frac}
use Rattle.um_frac.specs.Fraction.{numerator, denominator, reduced}
use Rattle.um_syntax.specs.Numeral.{Numeral, Whole, Decimal, numeral_text, IsNumeral, ordinary_value}
use Rattle.um_decimals.specs.Decimals.{last_digits, is_exact, padded, digits_text}
use Rattle.um_display.specs.UnitWords.{PartSyntax, IsUnitWord}

-- A word states its parts in one way.
abbrev pub UnitWordsAreUnique : Type 0
UnitWordsAreUnique =
    (word : List ℕ) (parts others : List PartSyntax) → IsUnitWord word parts → IsUnitWord word others → parts ≡ others

-- ---- decimal numbers are read again

-- so many units of the last of k digits after the point, as a number text
abbrev pub decimal_numeral : ℕ → ℕ → Numeral
decimal_numeral k units =
    cond (k == 0) (Whole (decimal (units / 10 ^ k))) (Decimal (decimal (units / 10 ^ k)) (padded k (units % 10 ^ k)))

-- the number text is one, is the digits that are printed, and has the value of the fraction without its sign
pub record IsReadAs (k : ℕ) (x : Frac) (n : Numeral) : Type 0 where
  pub printed : numeral_text n ≡ digits_text k (last_digits k x)
  pub is : IsNumeral n
  pub value : ordinary_value n ≡ reduced (pos (unsigned_abs (numerator x))) (denominator x)

-- The digits of a decimal number that is the fraction are a number text with its value.
abbrev pub DecimalsAreRead : Type 0
DecimalsAreRead =
    (k : ℕ) (x : Frac) → k ≤ 18 → IsTrue (is_exact k x) → IsReadAs k x (decimal_numeral k (last_digits k x))
