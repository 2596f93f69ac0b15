-- The greatest common divisor, as the word says (Knuth, Seminumerical Algorithms, 4.5.2): the greatest number that
-- divides both.
use Rattle.std.specs.Prelude.{ℕ, zero, suc, ◌%◌, ◌==◌, ◌&&◌, Bool, cond}

-- whether d, which is not 0, divides a and b
abbrev pub divides_both : ℕ → ℕ → ℕ → Bool
divides_both d a b = (a % d == 0) && (b % d == 0)

-- the greatest number from 1 to n that divides a and b, or 0 if there is none
abbrev pub greatest_divisor : ℕ → ℕ → ℕ → ℕ
greatest_divisor zero a b = 0
greatest_divisor (suc n) a b = cond (divides_both (suc n) a b) (suc n) (greatest_divisor n a b)

-- The greatest number that divides a and b; it is at most b. Every number divides 0, so with 0 it is a.
unfoldable pub gcd : ℕ → ℕ → ℕ
gcd a zero = a
gcd a (suc b) = greatest_divisor (suc b) a (suc b)
