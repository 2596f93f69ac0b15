-- How far a machine is.
-- Source: this project's own.
use Rattle.std.specs.Prelude.{ℕ, zero, suc, Bool, true}
use Rattle.um_cells.specs.declared.store.Store.{Store}
use Rattle.um_cells.specs.Formed.{holds}
use Rattle.um_vm.specs.declared.phase.End.{End}
use Rattle.um_vm.specs.declared.phase.End.TheVariants as end
use Rattle.um_vm.specs.declared.phase.Phase.{Phase}
use Rattle.um_vm.specs.declared.phase.Phase.TheVariants as phase

-- of a call at this budget
abbrev pub first_phase : ℕ → Phase
first_phase zero = phase.Ended end.BudgetEnd
first_phase (suc b) = phase.Going

-- whether the word with which a run ended denotes a value
abbrev pub end_holds : Store → End → Bool
end_holds store (end.Value w) = holds store.cells.items w
end_holds store (end.Trap t) = true
end_holds store end.BudgetEnd = true

abbrev pub phase_holds : Store → Phase → Bool
phase_holds store phase.Going = true
phase_holds store (phase.Ended e) = end_holds store e
phase_holds store phase.Stuck = true
phase_holds store phase.Failed = true
