-- What solving rows answers, against the judgement of their function. Want of memory may come in place of every answer.
-- Source: this project's own; solving row by row after Kennedy (1996).
use Rattle.std.specs.Prelude.{◌≡◌, ℕ, Bool, false, List, length, All, IsFalse, Result, Ok, Err}
use Rattle.um_units.specs.PowerMap.{PowerMap}
use Rattle.um_units.specs.Variables.{VariablesBelow}
use Rattle.um_tree.specs.ProgramTree.{Signature}
use Rattle.um_elim.specs.Elimination.{Elimination, Solved, NoSolution, Range, eliminate}
use Rattle.um_elim.specs.Solution.{Solution, rigid_units}
use Rattle.um_equal_types.specs.declared.row.Row.{Row}
use Rattle.um_rows.specs.FirstUnsolvable.{Solving, solved, unsolved, out_of_range, solve}
use Rattle.um_rows.specs.Judgement.{Judgement, too_many_slots, passes_range, has_no_typing, not_general, by_rows}
use Rattle.um_solving.specs.declared.refusal.Refusal.{Refusal}
use Rattle.um_solving.specs.declared.refusal.Refusal.TheVariants as refusal
use Rattle.um_solving.specs.declared.solving.SolveStop.{SolveStop}
use Rattle.um_solving.specs.declared.solving.SolveStop.TheVariants as stop

-- ---- one row

-- row k at the place is refused as its elimination is
abbrev pub RefusesRow : ℕ → ℕ → Elimination → SolveStop → Type 0
RefusesRow k at o (stop.NoSolution row place) = (o ≡ NoSolution) × (row ≡ k) × (place ≡ at)
RefusesRow k at o (stop.Range place) = (o ≡ Range) × (place ≡ at)
RefusesRow k at o stop.NoMemory = Unit {0}

abbrev pub IsRowAdded : ℕ → Solution → Row → Solution → Result (Unit {0}) SolveStop → Type 0
IsRowAdded k old row new (Ok _) = (eliminate old.units row.unit ≡ Solved new.units) × (new.spent ≡ false)
IsRowAdded k old row new (Err e) = RefusesRow k row.at (eliminate old.units row.unit) e

-- ---- all rows, from these units of the slots

abbrev pub RefusesRows : Solving → SolveStop → Type 0
RefusesRows s (stop.NoSolution row at) = s ≡ unsolved row at
RefusesRows s (stop.Range at) = s ≡ out_of_range at
RefusesRows s stop.NoMemory = Unit {0}

-- the solution of the rows, which holds variables below the slots' count alone
pub record IsSolutionOf (slots : ℕ) (start : List PowerMap) (rows : List Row) (solution : Solution) : Type 0 where
  pub solves : solve 0 rows start ≡ solved solution.units
  pub unspent : solution.spent ≡ false
  pub count : length solution.units ≡ slots
  pub below : All (VariablesBelow slots) solution.units

abbrev pub AreSolved : ℕ → List PowerMap → List Row → Result Solution SolveStop → Type 0
AreSolved slots start rows (Ok solution) = IsSolutionOf slots start rows solution
AreSolved slots start rows (Err e) = RefusesRows (solve 0 rows start) e

-- ---- a function

-- a function's refusal is its judgement
abbrev pub IsRefusal : Judgement → Refusal → Type 0
IsRefusal j (refusal.Units at) = (row : ℕ) × (j ≡ has_no_typing row at)
IsRefusal j (refusal.NotGeneral at) = (row : ℕ) × (j ≡ not_general row at)
IsRefusal j (refusal.PowerRange at) = j ≡ passes_range at
IsRefusal j refusal.Slots = j ≡ too_many_slots
IsRefusal j refusal.NoMemory = Unit {0}

-- with each unit parameter as a unit of its own: the solution, or the refusal of a function with these rows, whatever
-- its types and its place
abbrev pub AreRigidlySolved : ℕ → ℕ → ℕ → List Row → Result Solution Refusal → Type 0
AreRigidlySolved bases parameters slots rows (Ok solution) =
    IsSolutionOf slots (rigid_units bases parameters slots) rows solution
AreRigidlySolved bases parameters slots rows (Err r) =
    (at : ℕ) (g : Signature) → IsRefusal (by_rows bases parameters slots at g rows) r

-- types are refused only if a power of theirs is out of range, and the place is that of the function's name
abbrev pub RefusesUnless : ℕ → Bool → Refusal → Type 0
RefusesUnless at fit (refusal.Units k) = ⊥
RefusesUnless at fit (refusal.NotGeneral k) = ⊥
RefusesUnless at fit (refusal.PowerRange k) = IsFalse fit × (k ≡ at)
RefusesUnless at fit refusal.Slots = ⊥
RefusesUnless at fit refusal.NoMemory = Unit {0}
