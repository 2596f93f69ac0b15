-- The report lines of rescaling: of sizes, of numbers that don't fit, and of two runs.
-- Source: this project's own.
use Rattle.std.specs.Prelude.{ℕ, ◌+◌, List, ◌++◌, codes, decimal}
use Rattle.um_frac.specs.declared.number.Trap.{Trap}
use Rattle.um_frac.specs.declared.number.Trap.TheVariants as trap
use Rattle.um_sizes.specs.declared.read.ScalesRefusal.{ScalesRefusal}
use Rattle.um_sizes.specs.declared.read.ScalesRefusal.TheVariants.{NoBaseUnit, NoMemory}
use Rattle.um_reports.specs.declared.status.Status.{Status}
use Rattle.um_reports.specs.declared.status.Status.TheVariants.{ScaleRange}
use Rattle.um_reports.specs.declared.status.Status.TheVariants.{Trap as Trapped}
use Rattle.um_reports.specs.CallRefusals.{IsInputReply}
use Rattle.um_reports.specs.Refusals.{placed}
use Rattle.um_reports.specs.Steps.{line, IsReply}

-- a size is given to a name that is no base unit's
abbrev pub IsNoBaseReply : List ℕ → Status → Type 0
IsNoBaseReply text status = IsInputReply text status (line (codes "error 11: no such base unit"))

-- the base units have no such sizes; want of memory has no line
abbrev pub IsSizesReply : ScalesRefusal → List ℕ → Status → Type 0
IsSizesReply NoBaseUnit text status = IsNoBaseReply text status
IsSizesReply NoMemory text status = ⊥

-- the literal at the place has no rescaled number in range
abbrev pub IsLiteralReply : List ℕ → ℕ → List ℕ → Status → Type 0
IsLiteralReply bytes at text status = IsReply text status (placed (codes "error 14: literal at ") bytes at) ScaleRange

-- the argument of this index, counted from 0, has a number that has none
abbrev pub IsMisfitReply : ℕ → List ℕ → Status → Type 0
IsMisfitReply index text status =
    IsReply text status (line (codes "error 14: argument " ++ decimal (index + 1))) ScaleRange

-- what stopped a run
abbrev pub trap_name : Trap → List ℕ
trap_name trap.Overflow = codes "overflow"
trap_name trap.DivZero = codes "division by zero"

-- the run of this name, `first` or `second`, met a trap
abbrev pub IsRunTrapReply : List ℕ → Trap → List ℕ → Status → Type 0
IsRunTrapReply run why text status =
    IsReply text status (line (codes "error 12: " ++ run ++ codes " run: " ++ trap_name why)) Trapped
