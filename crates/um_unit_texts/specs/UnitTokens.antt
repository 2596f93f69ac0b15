-- What a token is to a unit text.
-- Source: this project's own.
use Rattle.std.specs.Prelude.{ℕ, ℤ, pos, negsuc, Bool, true, false, cond, nat_le, List, Option, Some, None}
use Rattle.um_frac.specs.declared.number.Frac.{Frac}
use Rattle.um_frac.specs.Fraction.{numerator}
use Rattle.um_syntax.specs.declared.token.Kind.{Kind}
use Rattle.um_syntax.specs.declared.token.Kind.TheVariants as kind
use Rattle.um_vocabulary.specs.declared.vocabulary.Symbol.{Symbol}

-- a sign; a measure; a variable; a number: whether its text is the one digit 1, and what it is as a power; or a token
-- that stands in no unit text
pub data UnitToken : Type 0 where
  sign : Symbol → UnitToken
  measure : List ℕ → UnitToken
  variable : List ℕ → UnitToken
  number : Bool → Option ℕ → UnitToken
  other : UnitToken

-- the greatest power that a text writes
abbrev pub greatest_power : ℕ
greatest_power = 2147483647

abbrev pub power_from : Bool → ℤ → Option ℕ
power_from true (pos n) = cond (nat_le n greatest_power) (Some n) None
power_from true (negsuc n) = None
power_from false v = None

-- digits alone, up to the greatest power
abbrev pub power_of : Frac → Bool → Option ℕ
power_of value digits = power_from digits (numerator value)

abbrev pub unit_token : Kind → UnitToken
unit_token (kind.Name x) = measure x
unit_token (kind.Var x) = variable x
unit_token (kind.Number value digits one) = number one (power_of value digits)
unit_token (kind.Word k) = other
unit_token kind.Hole = other
unit_token (kind.Sign s) = sign s
