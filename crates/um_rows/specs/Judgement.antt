-- What a function is answered, given the schemes of those before it: its scheme, or the first reason against one.
-- Source: Kennedy (1996): a typable function has a principal scheme, which a most general unifier of its equations
-- gives. That a function is refused if it is less general than its unit parameters say is the F# specification's, Units
-- Of Measure. The limit of slots and the range of powers are this project's own.
use Rattle.std.specs.Prelude.{ℕ, nat_le, if◌then◌else◌, Bool, List, length, Option, Some, None}
use Rattle.std.specs.List.{list_all}
use Rattle.um_units.specs.PowerMap.{nth}
use Rattle.um_tree.specs.ProgramTree.{RecordTree, FunctionTree, Signature, SchemeTree}
use Rattle.um_tree.specs.Typing.{put_signature}
use Rattle.um_tree.specs.Scheme.{signature_types}
use Rattle.um_elim.specs.Application.{type_fits}
use Rattle.um_elim.specs.Numbering.{variable_order, by_place}
use Rattle.um_elim.specs.Solution.{own_variables, rigid_units}
use Rattle.um_equal_types.specs.declared.row.Row.{Row}
use Rattle.um_equal_types.specs.Steps.{rows_of, first_past}
use Rattle.um_slots.specs.Slots.{slot_count}
use Rattle.um_rows.specs.Equations.{slot_equations}
use Rattle.um_rows.specs.Solutions.{slot_signature}
use Rattle.um_rows.specs.FirstUnsolvable.{Solving, solved, unsolved, out_of_range, solve, rows_up_to}
use Rattle.um_rows.specs.Generalised.{generalised}

-- the variables of the signature are numbered by their first occurrence, and the scheme holds these
abbrev pub numbered_scheme : Signature → SchemeTree
numbered_scheme g =
    let order = variable_order (signature_types g) in
    record { signature = put_signature (by_place order) g; vars = length order }

abbrev pub signature_fits : Signature → Bool
signature_fits g = list_all type_fits (signature_types g)

pub data Judgement : Type 0 where
  -- its scheme
  has_scheme : SchemeTree → Judgement
  too_many_slots : Judgement
  -- the place of the first power that is formed and is out of range
  passes_range : ℕ → Judgement
  -- the number of the first unsolvable row, counted from 0, and its place: no units satisfy the rows up to it,
  has_no_typing : ℕ → ℕ → Judgement
  -- or some do, but none in which each unit parameter is a unit of its own
  not_general : ℕ → ℕ → Judgement

-- what the rows up to an unsolvable one come to, with the unit parameters as slots like the others
abbrev pub by_slots : ℕ → ℕ → Solving → Judgement
by_slots k at (solved units) = not_general k at
by_slots k at (unsolved j row) = has_no_typing k at
by_slots k at (out_of_range row) = passes_range row

module _ (bases parameters slots : ℕ) where
  -- the most general solution put for the slots, and then any unit for each unit parameter. If a power of it is out of
  -- range, the place is the function's name
  abbrev pub by_solution : ℕ → Signature → Judgement
  by_solution at g =
      if signature_fits g then has_scheme (numbered_scheme (generalised bases parameters slots g)) else passes_range at

  abbrev pub by_solving : ℕ → Signature → List Row → Solving → Judgement
  by_solving at g rows (solved units) = by_solution at (put_signature (nth units) g)
  by_solving at g rows (unsolved k row) = by_slots k row (solve 0 (rows_up_to k rows) (own_variables slots))
  by_solving at g rows (out_of_range row) = passes_range row

  -- the rows are solved with each unit parameter as a unit of its own. Without unit parameters these are the slots' own
  -- variables from the start, and to solve the rows once more gives the same
  abbrev pub by_rows : ℕ → Signature → List Row → Judgement
  by_rows at g rows = by_solving at g rows (solve 0 rows (rigid_units bases parameters slots))

-- the range of the rows and types comes before any row is solved
abbrev pub by_range : Option ℕ → Judgement → Judgement
by_range None j = j
by_range (Some at) j = passes_range at

-- function i of a program with so many base units
abbrev pub judge : ℕ → List RecordTree → List SchemeTree → ℕ → FunctionTree → Judgement
judge bases records schemes i f =
    let n = slot_count records schemes i f in
    let steps = (slot_equations records schemes i f).steps in
    let solved_rows = by_rows bases f.units n f.at (slot_signature records schemes i f) (rows_of steps) in
    if nat_le n 2000 then by_range (first_past steps) solved_rows else too_many_slots
