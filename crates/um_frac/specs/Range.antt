-- The range of fractions: this project's own.
use Rattle.std.specs.Prelude.{ℕ}

-- The greatest numerator and the greatest denominator, 2^63 - 1. The least numerator is its negative, and the least
-- denominator is 1.
abbrev pub greatest : ℕ
greatest = 9223372036854775807
