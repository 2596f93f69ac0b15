-- The joint solutions of a function's rows, and what they give for its types.
-- Source: Kennedy (1996): a typing is what a unifier of the equations gives, and a declared parameter is a constant in
-- them. That a solution is a list over numbered slots is this project's own.
use Rattle.std.specs.Prelude.{◌≡◌, ℕ, ◌<◌, List, Some, slice_get}
use Rattle.um_units.specs.PowerMap.{PowerMap, nth}
use Rattle.um_units.specs.Solutions.{IsJointSolution}
use Rattle.um_tree.specs.ProgramTree.{RecordTree, FunctionTree, ProgramTree, Signature, SchemeTree}
use Rattle.um_tree.specs.Typing.{put_signature, parameter_unit}
use Rattle.um_tree.specs.Scheme.{IsPrincipal}
use Rattle.um_equal_types.specs.Steps.{row_units}
use Rattle.um_slots.specs.Slots.{slot_count}
use Rattle.um_rows.specs.Equations.{slot_equations}

-- the units of the function's rows, in order
abbrev pub function_rows : List RecordTree → List SchemeTree → ℕ → FunctionTree → List PowerMap
function_rows records schemes i f = row_units (slot_equations records schemes i f).steps

-- the types of its parameters and of its body, over slots
abbrev pub slot_signature : List RecordTree → List SchemeTree → ℕ → FunctionTree → Signature
slot_signature records schemes i f =
    let e = slot_equations records schemes i f in record { params = e.params; result = e.result }

-- one unit for each slot, such that each row is 1
abbrev pub IsSolution : List RecordTree → List SchemeTree → ℕ → FunctionTree → List PowerMap → Type 0
IsSolution records schemes i f units =
    IsJointSolution (slot_count records schemes i f) (function_rows records schemes i f) units

-- some joint solution, put for the slots, gives the signature
abbrev pub IsSolved : List RecordTree → List SchemeTree → ℕ → FunctionTree → Signature → Type 0
IsSolved records schemes i f g =
    (units : List PowerMap) × IsSolution records schemes i f units
    × (g ≡ put_signature (nth units) (slot_signature records schemes i f))

-- ---- unit parameters as units of their own

-- the slot of each unit parameter, which is one of the first, has the parameter's own base unit
abbrev pub IsRigid : ℕ → ℕ → List PowerMap → Type 0
IsRigid bases parameters units = (k : ℕ) → k < parameters → nth units k ≡ parameter_unit bases k

-- some such joint solution gives the signature
abbrev pub IsRigidlySolved : ℕ → List RecordTree → List SchemeTree → ℕ → FunctionTree → Signature → Type 0
IsRigidlySolved bases records schemes i f g =
    (units : List PowerMap) × IsSolution records schemes i f units × IsRigid bases f.units units
    × (g ≡ put_signature (nth units) (slot_signature records schemes i f))

-- ---- the schemes of the functions before

-- the scheme of function j: its instances are exactly the function's typings
pub record HasScheme (p : ProgramTree) (schemes : List SchemeTree) (j : ℕ) : Type 0 where
  pub scheme : SchemeTree
  pub stands : slice_get schemes j ≡ Some scheme
  pub principal : IsPrincipal p j scheme

-- each function before i has its scheme
abbrev pub HaveSchemes : ProgramTree → List SchemeTree → ℕ → Type 0
HaveSchemes p schemes i = (j : ℕ) → j < i → HasScheme p schemes j
