-- The pivot of a unit: the variable that an elimination step changes.
-- Source: Kennedy (1996), on unification in the free abelian group, after Knuth (The Art of Computer Programming,
-- volume 2, on linear equations over the integers): a variable with the least absolute power. That it is the one with
-- the greatest number if several have that power is this project's own.
use Rattle.std.specs.Prelude.{ℕ, Bool, true, false, not, ◌==◌, nat_lt, nat_abs}
use Rattle.std.specs.Prelude.{if◌then◌else◌, Option, Some, None, List, [], ◌∷◌, ℤ}
use Rattle.std.specs.List.{list_any}
use Rattle.um_units.specs.declared.Atom.{Atom}
use Rattle.um_units.specs.declared.Atom.TheVariants.{Base, Var}
use Rattle.um_units.specs.declared.Term.{Term}
use Rattle.um_units.specs.PowerMap.{PowerMap}
use Rattle.um_pivots.specs.declared.pivot.Pivot.{Pivot}

-- the one with the lesser absolute power, and of equals the second
abbrev pub lesser : Pivot → Option Pivot → Option Pivot
lesser p None = Some p
lesser p (Some q) = if nat_lt (nat_abs p.power) (nat_abs q.power) then Some p else Some q

-- the lesser of an atom's power and another, if the atom is a variable
abbrev pub lesser_with : Atom → ℤ → Option Pivot → Option Pivot
lesser_with (Base n) a q = q
lesser_with (Var k) a q = lesser (record { variable = k; power = a }) q

-- the variable with the least absolute power, and of equals the last
abbrev pub pivot_of : List Term → Option Pivot
pivot_of [] = None
pivot_of (t ∷ ts) = lesser_with t.atom t.power (pivot_of ts)

-- the unit's pivot: variables stand in the order of their numbers, so the last of equals has the greatest number
abbrev pub pivot : PowerMap → Option Pivot
pivot r = pivot_of r.terms

-- the absolute power of a pivot
abbrev pub size : Option Pivot → ℕ
size None = 0
size (Some p) = nat_abs p.power

-- the least absolute power of a variable in the unit, and 0 if it holds none
abbrev pub least_power : PowerMap → ℕ
least_power r = size (pivot r)

abbrev pub is_base : Atom → Bool
is_base (Base n) = true
is_base (Var k) = false

-- the atom is a variable other than m
abbrev pub is_other : ℕ → Atom → Bool
is_other m (Base n) = false
is_other m (Var k) = not (m == k)

-- a variable other than m stands in the unit
abbrev pub has_other : ℕ → PowerMap → Bool
has_other m r = list_any (λ t. is_other m t.atom) r.terms

-- a base unit stands in the unit
abbrev pub has_base : PowerMap → Bool
has_base r = list_any (λ t. is_base t.atom) r.terms
