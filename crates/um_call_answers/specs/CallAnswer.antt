-- The answer to a call of a function: the call that the words name, how it ends, and how that is printed.
-- Source: this project's own. By the tree a call ends as its meaning has it (`um_tree`), by the code as the run of the
-- program's code does (`um_gen`, `um_machine`).
use Rattle.std.specs.Prelude.{ℕ, ◌≡◌, IsTrue, List, [], ◌++◌, codes, decimal, Option, Some, None}
use Rattle.um_tree.specs.TypeTree.{TypeTree}
use Rattle.um_tree.specs.ValueTree.{ValueTree, OutcomeTree, value_outcome, trap_outcome, budget_outcome}
use Rattle.um_tree.specs.ProgramTree.{ProgramTree}
use Rattle.um_tree.specs.Meaning.{outcome_of_call}
use Rattle.um_show.specs.ValueText.{value_text, parts_fit}
use Rattle.um_machine.specs.Machine.{EndsWith}
use Rattle.um_gen.specs.ProgramCode.{program_code}
use Rattle.um_vm.specs.Counting.{CountsSteps}
use Rattle.um_run.specs.Calls.{CallTree, call_values}
use Rattle.um_call_answers.specs.declared.way.Way.{Way}
use Rattle.um_call_answers.specs.declared.way.Way.TheVariants as way
use Rattle.um_reports.specs.declared.status.Status.{Status}
use Rattle.um_reports.specs.declared.status.Status.TheVariants.{Done, BudgetEnd}
use Rattle.um_front.specs.Stages.{CheckedTree}
use Rattle.um_front.specs.Staged.{OfChecked}
use Rattle.um_call_answers.specs.AskedCall.{AskedCall}
use Rattle.um_call_answers.specs.OfCall.{OfCall}
use Rattle.um_reports.specs.CallRefusals.{IsCallRangeReply, IsTrapReply}
use Rattle.um_reports.specs.Steps.{line, IsReply, Cases}

-- the line after a value, if its steps were counted
abbrev pub steps_text : Option ℕ → List ℕ
steps_text None = []
steps_text (Some k) = line (codes "steps " ++ decimal k)

-- the value at the type, if the types of its parts have their powers in range
abbrev pub IsValueReply : ProgramTree → TypeTree → ValueTree → Option ℕ → List ℕ → Status → Type 0
IsValueReply p t v steps text status =
    Cases (IsTrue (parts_fit p v t)) (IsReply text status (line (value_text p v t) ++ steps_text steps) Done)
    (IsCallRangeReply text status)

-- how a call with a result of the type ended
abbrev pub IsOutcomeReply : ProgramTree → TypeTree → OutcomeTree → Option ℕ → List ℕ → Status → Type 0
IsOutcomeReply p t (value_outcome v) steps text status = IsValueReply p t v steps text status
IsOutcomeReply p t (trap_outcome why) steps text status = IsTrapReply why text status
IsOutcomeReply p t budget_outcome steps text status = IsReply text status (line (codes "error 13: budget")) BudgetEnd

-- Run this way at the budget, the call ends with this outcome: by the tree with that of its meaning, by the code with
-- that of the run of the program's code. If steps are counted, it ends after so many.
abbrev pub EndsBy : Way → ℕ → ProgramTree → CallTree → OutcomeTree → Option ℕ → Type 0
EndsBy way.Tree budget p call o steps =
    (outcome_of_call p call.function (call_values call) budget ≡ Some o) × (steps ≡ None)
EndsBy way.Code budget p call o steps =
    EndsWith (program_code p.functions) call.function (call_values call) budget o × (steps ≡ None)
EndsBy way.Counted budget p call o steps =
    (k : ℕ) × CountsSteps (program_code p.functions) call.function (call_values call) budget o k × (steps ≡ Some k)

-- how it ends is told
unfoldable pub RunAnswer : Way → ℕ → ProgramTree → CallTree → List ℕ → Status → Type 0
RunAnswer way budget p call text status =
    (o : OutcomeTree) × (steps : Option ℕ) × EndsBy way budget p call o steps
    × IsOutcomeReply p call.type o steps text status

-- the call of the function of this name on the arguments that the texts are
unfoldable pub IsCallAnswer : Way → AskedCall → CheckedTree → List ℕ → Status → Type 0
IsCallAnswer way asked c text status = OfCall (RunAnswer way asked.budget) asked c text status

-- of a text's program
unfoldable pub CallAnswer : Way → AskedCall → List ℕ → List ℕ → Status → Type 0
CallAnswer way asked bytes text status = OfChecked (IsCallAnswer way asked) bytes text status
