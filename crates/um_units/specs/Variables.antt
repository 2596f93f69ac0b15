-- The variables of a unit.
-- Source: Kennedy (1996): a unit is closed if it holds no variable. Variables are numbered here.
use Rattle.std.specs.Prelude.{◌≡◌, ◌≢◌, ℕ, ◌<◌, pos, Bool, true, nat_lt, List}
use Rattle.std.specs.List.{list_all}
use Rattle.um_units.specs.declared.Atom.{Atom}
use Rattle.um_units.specs.declared.Atom.TheVariants.{Base, Var}
use Rattle.um_units.specs.declared.Term.{Term}
use Rattle.um_units.specs.PowerMap.{PowerMap, power_of}

-- the unit holds no variable
abbrev pub IsClosed : PowerMap → Type 0
IsClosed u = (k : ℕ) → power_of u (Var k) ≡ pos 0

-- each variable that the unit holds is below n
abbrev pub VariablesBelow : ℕ → PowerMap → Type 0
VariablesBelow n u = (k : ℕ) → power_of u (Var k) ≢ pos 0 → k < n

-- a variable is below n, and a base unit always is
abbrev pub atom_below : ℕ → Atom → Bool
atom_below n (Base m) = true
atom_below n (Var k) = nat_lt k n

-- each variable of the list is below n
abbrev pub variables_below : ℕ → List Term → Bool
variables_below n = list_all (λ t. atom_below n t.atom)
