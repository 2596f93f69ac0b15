-- What a solver stands for: the unit that it keeps for each slot, and whether it refused a row.
-- Source: this project's own; after each row the units are a most general unifier (Kennedy 1996) of the rows.
use Rattle.std.specs.Prelude.{ℕ, ◌+◌, nat_lt, if◌then◌else◌, Bool, false, List, map}
use Rattle.std.specs.List.{range_with_len}
use Rattle.std.specs.Coded.{Coded, code_by, coded×, coded_list, coded_bool}
use Rattle.std.proofs.Common.{refl}
use Rattle.um_units.specs.declared.Atom.TheVariants.{Base, Var}
use Rattle.um_units.specs.PowerMap.{PowerMap, atom, mul, inv}
use Rattle.um_units.specs.PowerMapCode.{power_map_code}

pub record Solution : Type 0 where
  pub units : List PowerMap
  pub spent : Bool

-- how solutions are stored as data, which is the code's
abbrev pub solution_code : Coded Solution
solution_code =
    code_by (List PowerMap × Bool) (coded× (coded_list power_map_code) coded_bool)
    (λ s. (s.units, s.spent))
    (λ p. record { units = p.0; spent = p.1 })
    (λ _. refl)

-- each slot's own variable
abbrev pub own_variables : ℕ → List PowerMap
own_variables slots = map (λ k. atom (Var k)) (range_with_len 0 slots)

-- before any row
abbrev pub fresh : ℕ → Solution
fresh slots = record { units = own_variables slots; spent = false }

-- ---- if the first slots are those of unit parameters

-- parameter k is the base unit bases + k, and each other slot has its own variable
abbrev pub rigid_unit : ℕ → ℕ → ℕ → PowerMap
rigid_unit bases parameters k = if nat_lt k parameters then atom (Base (bases + k)) else atom (Var k)

abbrev pub rigid_units : ℕ → ℕ → ℕ → List PowerMap
rigid_units bases parameters slots = map (rigid_unit bases parameters) (range_with_len 0 slots)

abbrev pub rigid : ℕ → ℕ → ℕ → Solution
rigid bases parameters slots = record { units = rigid_units bases parameters slots; spent = false }

-- the equations that say so: slot k is the base unit bases + k
abbrev pub parameter_row : ℕ → ℕ → PowerMap
parameter_row bases k = mul (atom (Var k)) (inv (atom (Base (bases + k))))

abbrev pub parameter_rows : ℕ → ℕ → List PowerMap
parameter_rows bases parameters = map (parameter_row bases) (range_with_len 0 parameters)
