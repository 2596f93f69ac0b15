-- The answer to `show DIGITS UNITS BUDGET NAME ARG*`: the call, with the numbers of its value as decimals in the units
-- of the word.
-- Source: this project's own.
use Rattle.std.specs.Prelude.{ℕ, ◌≡◌, IsTrue, List, codes, Some, Result, Ok, Err}
use Rattle.um_tree.specs.TypeTree.{TypeTree}
use Rattle.um_tree.specs.ValueTree.{ValueTree, OutcomeTree, value_outcome, trap_outcome, budget_outcome}
use Rattle.um_tree.specs.ProgramTree.{ProgramTree}
use Rattle.um_tree.specs.Meaning.{outcome_of_call}
use Rattle.um_measures.specs.ClosedUnits.{given}
use Rattle.um_show.specs.ValueText.{parts_fit}
use Rattle.um_display.specs.declared.unit.DisplayUnit.{DisplayUnit}
use Rattle.um_display.specs.declared.unit.UnitsStop.{UnitsStop}
use Rattle.um_display.specs.declared.unit.UnitsStop.TheVariants.{NoUnit, PowerRange, NoMemory}
use Rattle.um_display.specs.UnitWords.{PartSyntax, IsUnitWord}
use Rattle.um_display.specs.DisplayUnits.{display_units}
use Rattle.um_display.specs.DisplayText.{display_text}
use Rattle.um_run.specs.Calls.{CallTree, call_values}
use Rattle.um_reports.specs.declared.status.Status.{Status}
use Rattle.um_reports.specs.declared.status.Status.TheVariants.{Done, BudgetEnd}
use Rattle.um_reports.specs.CallRefusals.{IsInputReply, IsCallRangeReply, IsTrapReply}
use Rattle.um_reports.specs.Steps.{line, IsReply, Cases}
use Rattle.um_front.specs.Stages.{CheckedTree}
use Rattle.um_front.specs.Staged.{OfChecked}
use Rattle.um_call_answers.specs.AskedCall.{AskedCall}
use Rattle.um_call_answers.specs.OfCall.{OfCall}

-- ---- the outcome

-- the value at the type, if the types of its parts have their powers in range, as `run` prints it but for its numbers
abbrev pub IsDisplayed : ℕ → List DisplayUnit → ProgramTree → TypeTree → ValueTree → List ℕ → Status → Type 0
IsDisplayed digits units p t v text status =
    Cases (IsTrue (parts_fit p v t)) (IsReply text status (line (display_text p digits units v t)) Done)
    (IsCallRangeReply text status)

-- another outcome is told as `run` tells it
abbrev pub IsDisplayedEnd : ℕ → List DisplayUnit → ProgramTree → TypeTree → OutcomeTree → List ℕ → Status → Type 0
IsDisplayedEnd digits units p t (value_outcome v) text status = IsDisplayed digits units p t v text status
IsDisplayedEnd digits units p t (trap_outcome why) text status = IsTrapReply why text status
IsDisplayedEnd digits units p t budget_outcome text status =
    IsReply text status (line (codes "error 13: budget")) BudgetEnd

unfoldable pub DisplayedRun : ℕ → List DisplayUnit → ℕ → ProgramTree → CallTree → List ℕ → Status → Type 0
DisplayedRun digits units budget p call text status =
    (o : OutcomeTree) × (outcome_of_call p call.function (call_values call) budget ≡ Some o)
    × IsDisplayedEnd digits units p call.type o text status

-- ---- the units, which come before the call

abbrev pub ByUnits : ℕ → AskedCall → CheckedTree → Result (List DisplayUnit) UnitsStop → List ℕ → Status → Type 0
ByUnits digits asked c (Ok units) text status = OfCall (DisplayedRun digits units asked.budget) asked c text status
ByUnits digits asked c (Err NoUnit) text status = IsInputReply text status (line (codes "error 11: no such unit"))
ByUnits digits asked c (Err PowerRange) text status =
    IsInputReply text status (line (codes "error 11: power range of the units"))
ByUnits digits asked c (Err NoMemory) text status = ⊥

unfoldable pub IsShowAnswer : ℕ → List ℕ → AskedCall → CheckedTree → List ℕ → Status → Type 0
IsShowAnswer digits word asked c text status =
    (parts : List PartSyntax) × IsUnitWord word parts
    × ByUnits digits asked c (display_units (given c.text.program c.text.abbreviations) parts) text status

-- of a text's program
unfoldable pub ShowAnswer : ℕ → List ℕ → AskedCall → List ℕ → List ℕ → Status → Type 0
ShowAnswer digits word asked bytes text status = OfChecked (IsShowAnswer digits word asked) bytes text status
