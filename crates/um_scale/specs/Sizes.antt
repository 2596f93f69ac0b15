-- A positive number for each base unit, as a rescaling of all atoms; and the factor of a unit where each step of its
-- product is a number.
-- Source: Kennedy (1997). The range of numbers, and so of partial products, is this project's own.
use Rattle.std.specs.Prelude.{◌≡◌, All, List, [], ◌∷◌, ℤ, pos, ◌*ℤ◌, ◌≤ℤ◌, unsigned_abs, slice_get, Option, Some, None}
use Rattle.std.specs.Option.{option_and_then}
use Rattle.std.specs.Result.{result_ok}
use Rattle.um_frac.specs.declared.number.Frac.{Frac}
use Rattle.um_frac.specs.Fraction.{numerator, denominator, reduced}
use Rattle.um_frac.specs.Arithmetic.{product_of, whole_power_of}
use Rattle.um_units.specs.declared.Atom.{Atom}
use Rattle.um_units.specs.declared.Atom.TheVariants.{Base, Var}
use Rattle.um_units.specs.declared.Term.{Term}
use Rattle.um_units.specs.PowerMap.{PowerMap}
use Rattle.um_scaling.specs.Rescaling.{Factor, no_change, Rescaling}

-- each is above 0
abbrev pub AreSizes : List Frac → Type 0
AreSizes cs = All (λ c. pos 1 ≤ℤ numerator c) cs

-- base unit k has the k-th number; a variable, and a base unit after the last, has none
abbrev pub size_of : List Frac → Atom → Option Frac
size_of cs (Base k) = slice_get cs k
size_of cs (Var k) = None

-- a number above 0 as a factor
abbrev pub factor_of : Option Frac → Factor
factor_of None = no_change
factor_of (Some c) = record { top = unsigned_abs (numerator c); bottom = unsigned_abs (denominator c) }

-- the rescaling: an atom without a number stays
abbrev pub sizes : List Frac → Rescaling
sizes cs x = factor_of (size_of cs x)

-- ---- the product, step by step

-- the number d times a number to a power, if both are numbers in range
abbrev pub times_power : Option Frac → Frac → ℤ → Option Frac
times_power None d k = Some d
times_power (Some c) d k = option_and_then (λ e. result_ok (product_of d e)) (result_ok (whole_power_of c k))

abbrev pub product_from : List Frac → Frac → List Term → Option Frac
product_from cs d [] = Some d
product_from cs d (t ∷ ts) =
    option_and_then (λ e. product_from cs e ts) (times_power (size_of cs t.atom) d t.power)

-- the product over the unit's terms, from 1 on: nothing if a power or a partial product is out of range
abbrev pub factor_within : List Frac → PowerMap → Option Frac
factor_within cs u = option_and_then (λ one. product_from cs one u.terms) (reduced (pos 1) (pos 1))

-- the number is the factor, by cross multiplication
abbrev pub IsFactor : Factor → Frac → Type 0
IsFactor f c = numerator c *ℤ pos f.bottom ≡ pos f.top *ℤ denominator c
