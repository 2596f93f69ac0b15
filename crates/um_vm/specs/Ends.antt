-- How a run ends, by the word of its value.
-- Source: this project's own.
use Rattle.std.specs.Prelude.{◌≡◌}
use Rattle.um_tree.specs.ValueTree.{ValueTree, OutcomeTree, value_outcome, trap_outcome, budget_outcome}
use Rattle.um_cells.specs.declared.store.Store.{Store}
use Rattle.um_cells.specs.Stores.{DenotesIn}
use Rattle.um_vm.specs.declared.phase.End.{End}
use Rattle.um_vm.specs.declared.phase.End.TheVariants as end

-- the end is this outcome
abbrev pub IsEnd : Store → End → OutcomeTree → Type 0
IsEnd store (end.Value w) o = (v : ValueTree) × DenotesIn store w v × (o ≡ value_outcome v)
IsEnd store (end.Trap t) o = o ≡ trap_outcome t
IsEnd store end.BudgetEnd o = o ≡ budget_outcome
