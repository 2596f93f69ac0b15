-- The rows of two types that must be equal: one for each unit, from left to right, the first unit over the second.
-- Source: Kennedy (1996): two types unify if their units do, and two units are equal if their quotient is 1.
use Rattle.std.specs.Prelude.{ℕ, ◌==◌, if◌then◌else◌, List, [], ◌∷◌, ◌++◌}
use Rattle.um_units.specs.PowerMap.{PowerMap, mul, inv}
use Rattle.um_tree.specs.TypeTree.{TypeTree, bool_type, num_type, list_type, record_type}
use Rattle.um_equal_types.specs.Steps.{Step, row_at, wrong_shape_at}

-- the types have two shapes. A function that has its shapes forms no such step
abbrev pub never : ℕ → List Step
never at = wrong_shape_at at ∷ []

abbrev pub unit_against : ℕ → PowerMap → PowerMap → Step
unit_against at u v = row_at at (mul u (inv v))

abbrev pub units_against : ℕ → List PowerMap → List PowerMap → List Step
units_against at [] [] = []
units_against at (u ∷ us) (v ∷ vs) = unit_against at u v ∷ units_against at us vs
units_against at us vs = never at

-- one type against another
abbrev pub against : ℕ → TypeTree → TypeTree → List Step
against at bool_type bool_type = []
against at (num_type u) (num_type v) = unit_against at u v ∷ []
against at (list_type s) (list_type t) = against at s t
against at (record_type r us) (record_type q vs) = if r == q then units_against at us vs else never at
against at s t = never at

-- type by type
abbrev pub types_against : ℕ → List TypeTree → List TypeTree → List Step
types_against at [] [] = []
types_against at (s ∷ ss) (t ∷ ts) = against at s t ++ types_against at ss ts
types_against at ss ts = never at

-- one type against each of the others
abbrev pub against_each : ℕ → TypeTree → List TypeTree → List Step
against_each at s [] = []
against_each at s (t ∷ ts) = against at s t ++ against_each at s ts
