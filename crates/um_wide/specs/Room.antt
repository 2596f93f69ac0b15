-- How much room the powers of exact units take.
-- Source: this project's own; the powers of Kennedy (1996) have no bound.
use Rattle.std.specs.Prelude.{ℕ, ◌+◌, ◌^◌, ◌<◌, ◌≤◌, nat_abs}
use Rattle.um_units.specs.declared.Atom.{Atom}
use Rattle.um_units.specs.PowerMap.{PowerMap, power_of}

-- no absolute power is greater than n
abbrev pub IsWithin : ℕ → PowerMap → Type 0
IsWithin n u = (x : Atom) → nat_abs (power_of u x) ≤ n

-- each power lies in -9223372036854775807..9223372036854775807
abbrev pub IsNarrow : PowerMap → Type 0
IsNarrow u = IsWithin 9223372036854775807 u

-- the sum of both powers of an atom fits in 128 bits, whatever their signs
abbrev pub HaveRoom : PowerMap → PowerMap → Type 0
HaveRoom u v = (x : Atom) → nat_abs (power_of u x) + nat_abs (power_of v x) < 2 ^ 127
