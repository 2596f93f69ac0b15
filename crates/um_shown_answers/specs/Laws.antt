-- What holds of all answers to `trace`.
use Rattle.std.specs.Prelude.{ℕ, ◌≡◌, ◌⊎◌, IsTrue, List, ◌++◌, map, Some}
use Rattle.um_tree.specs.ValueTree.{ValueTree, value_outcome, without_units}
use Rattle.um_tree.specs.Meaning.{outcome_of_call}
use Rattle.um_show.specs.ValueText.{parts_fit}
use Rattle.um_run.specs.Calls.{CallTree}
use Rattle.um_run.specs.Laws.{FitsTyping}
use Rattle.um_reports.specs.declared.status.Status.{Status}
use Rattle.um_reports.specs.declared.status.Status.TheVariants.{Done, BudgetEnd}
use Rattle.um_reports.specs.declared.status.Status.TheVariants.{Trap as Trapped}
use Rattle.um_reports.specs.Steps.{line}
use Rattle.um_front.specs.Stages.{CheckedTree, IsCheckedText}
use Rattle.um_call_answers.specs.declared.way.Way.TheVariants as way
use Rattle.um_call_answers.specs.AskedCall.{AskedCall}
use Rattle.um_call_answers.specs.CallAnswer.{CallAnswer}
use Rattle.um_call_answers.specs.OfCall.{IsAskedCall}
use Rattle.um_shown_answers.specs.TraceAnswer.{TraceAnswer}

-- ---- one answer

abbrev pub TracesAreOne : Type 0
TracesAreOne =
    (asked : AskedCall) (bytes text other : List ℕ) (status another : Status) →
    TraceAnswer asked bytes text status → TraceAnswer asked bytes other another →
    (text ≡ other) × (status ≡ another)

-- ---- the answer of `run`

-- the answer of `run`; or its line, if that says that the call stopped, with more after it on the line, and done
abbrev pub Follows : List ℕ → Status → List ℕ → Status → Type 0
Follows text status run_text run_status =
    ((text ≡ run_text) × (status ≡ run_status))
    ⊎ ((status ≡ Done) × ((run_status ≡ Trapped) ⊎ (run_status ≡ BudgetEnd))
    × (front rest : List ℕ) × (run_text ≡ line front) × (text ≡ front ++ rest))

abbrev pub TracesFollowRuns : Type 0
TracesFollowRuns =
    (asked : AskedCall) (bytes text run_text : List ℕ) (status run_status : Status) →
    TraceAnswer asked bytes text status → CallAnswer way.Code asked bytes run_text run_status →
    Follows text status run_text run_status

-- ---- when it is done

-- the arguments of the call fit a typing of its function, and the call passes no limit of slots or powers; and if its
-- meaning gives a value within the budget, the types of the value's parts have their powers in range
pub record CanBeTraced (asked : AskedCall) (c : CheckedTree) : Type 0 where
  pub fits : FitsTyping c.text.program c.text.abbreviations c.schemes asked.name asked.texts
  pub in_range :
      (value : ValueTree) (call : CallTree) → IsAskedCall asked c call →
      outcome_of_call c.text.program fits.number (map without_units fits.inputs) asked.budget
      ≡ Some (value_outcome value) →
      IsTrue (parts_fit c.text.program value call.type)

abbrev pub TracesAreDone : Type 0
TracesAreDone =
    (asked : AskedCall) (bytes text : List ℕ) (c : CheckedTree) (status : Status) →
    IsCheckedText bytes c → CanBeTraced asked c → TraceAnswer asked bytes text status → status ≡ Done
