-- How a number is printed: the digits of its numerator in base 10, with `-` where it is negative, and then `r` and the
-- digits of its denominator where that isn't 1.
-- Source: decimal notation; the `r` is this project's own.
use Rattle.std.specs.Prelude.{ℕ, ℤ, pos, List, [], ◌++◌, codes, cond}
use Rattle.std.specs.Ordering.{int_eq}
use Rattle.std.specs.Fmt.{signed_decimal}
use Rattle.um_frac.specs.declared.number.Frac.{Frac}
use Rattle.um_frac.specs.Fraction.{numerator, denominator}

abbrev pub divisor_text : ℤ → List ℕ
divisor_text d = cond (int_eq d (pos 1)) [] (codes "r" ++ signed_decimal d)

abbrev pub number_text : Frac → List ℕ
number_text x = signed_decimal (numerator x) ++ divisor_text (denominator x)
