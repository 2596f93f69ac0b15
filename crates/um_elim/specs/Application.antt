-- What it is to apply a solution to a type.
-- Source: Kennedy (1996): a substitution applied to a type. That powers are refused outside a range is this project's
-- own.
use Rattle.std.specs.Prelude.{◌≡◌, ℕ, ◌<◌, All, length, IsTrue, IsFalse, Bool, true, false, Result, Ok, Err}
use Rattle.std.specs.List.{list_all}
use Rattle.um_units.specs.PowerMap.{nth}
use Rattle.um_units.specs.Range.{fits}
use Rattle.um_units.specs.Variables.{VariablesBelow}
use Rattle.um_tree.specs.declared.types.Ty.{Ty}
use Rattle.um_tree.specs.TypeTree.{TypeTree, bool_type, num_type, list_type, record_type, type_tree}
use Rattle.um_tree.specs.Typing.{put}
use Rattle.um_tree.specs.Scheme.{type_variables}
use Rattle.um_elim.specs.declared.stop.ElimStop.{ElimStop}
use Rattle.um_elim.specs.declared.stop.ElimStop.TheVariants as stop
use Rattle.um_elim.specs.Solution.{Solution}

-- each power of each unit of the type lies in -2147483647..2147483647
abbrev pub type_fits : TypeTree → Bool
type_fits bool_type = true
type_fits (num_type u) = fits u
type_fits (list_type t) = type_fits t
type_fits (record_type r us) = list_all fits us

-- the type with the solution's units put for the slots
abbrev pub applied : Solution → TypeTree → TypeTree
applied solution t = put (nth solution.units) t

-- the type with the solution put in, or Range exactly if it has a power outside, or Spent exactly after a refused row
abbrev pub IsApplied : Solution → TypeTree → Result Ty ElimStop → Type 0
IsApplied solution t (Ok ty) =
    (solution.spent ≡ false) × (type_tree ty ≡ applied solution t) × IsTrue (type_fits (applied solution t))
IsApplied solution t (Err stop.NoSolution) = ⊥
IsApplied solution t (Err stop.Range) = (solution.spent ≡ false) × IsFalse (type_fits (applied solution t))
IsApplied solution t (Err stop.Spent) = solution.spent ≡ true
IsApplied solution t (Err stop.NoMemory) = solution.spent ≡ false

-- if the variables of the type are slots, those of the result are below each number that those of the units are below
abbrev pub VariablesAreBelow : Solution → TypeTree → TypeTree → Type 0
VariablesAreBelow solution t result =
    (n : ℕ) → All (VariablesBelow n) solution.units →
    All (λ k. k < length solution.units) (type_variables t) → All (λ k. k < n) (type_variables result)
