-- The answer to `twin BUDGET SCALES NAME ARG*`: the call, and the same call in other sizes of the base units.
-- Source: the rescaled program and inputs are Kennedy's (1997); the words and the lines are this project's own. Both
-- calls end as the runs of their programs' codes do (`um_gen`, `um_machine`).
use Rattle.std.specs.Prelude.{ℕ, suc, ◌++◌, IsTrue, List, [], ◌∷◌, codes, cond, is_some, map}
use Rattle.std.specs.Prelude.{MatchOption, Option, Some, None, Result, Ok, Err}
use Rattle.std.specs.Option.{option_map}
use Rattle.um_frac.specs.declared.number.Frac.{Frac}
use Rattle.um_tree.specs.TypeTree.{TypeTree}
use Rattle.um_tree.specs.ValueTree.{ValueTree, InputTree, without_units}
use Rattle.um_tree.specs.ValueTree.{OutcomeTree, value_outcome, trap_outcome, budget_outcome}
use Rattle.um_tree.specs.ProgramTree.{ProgramTree}
use Rattle.um_show.specs.ValueText.{value_text, parts_fit}
use Rattle.um_machine.specs.Machine.{EndsWith}
use Rattle.um_gen.specs.ProgramCode.{program_code}
use Rattle.um_run.specs.Calls.{CallTree, call_values}
use Rattle.um_scale.specs.RescaledInputs.{input_misfit, rescaled_input}
use Rattle.um_scale.specs.RescaledLiterals.{misfit_in, rescaled_program}
use Rattle.um_sizes.specs.declared.read.ScalesRefusal.{ScalesRefusal}
use Rattle.um_sizes.specs.BaseSizes.{AreScalesRead}
use Rattle.um_reports.specs.declared.status.Status.{Status}
use Rattle.um_reports.specs.declared.status.Status.TheVariants.{Done, BudgetEnd}
use Rattle.um_reports.specs.CallRefusals.{IsCallRangeReply}
use Rattle.um_reports.specs.ScaleRefusals.{IsSizesReply, IsLiteralReply, IsMisfitReply, IsRunTrapReply}
use Rattle.um_reports.specs.Steps.{line, IsReply, Cases}
use Rattle.um_front.specs.Stages.{CheckedTree}
use Rattle.um_front.specs.Staged.{OfChecked}
use Rattle.um_call_answers.specs.AskedCall.{AskedCall}
use Rattle.um_call_answers.specs.OfCall.{OfCall}

-- ---- the outcomes

-- the text of the first value and the second value at the type, a line each
abbrev pub IsSecondReply : ProgramTree → TypeTree → List ℕ → ValueTree → List ℕ → Status → Type 0
IsSecondReply p t first w text status =
    Cases (IsTrue (parts_fit p w t)) (IsReply text status (line first ++ line (value_text p w t)) Done)
    (IsCallRangeReply text status)

-- both values at the type, if the types of their parts have their powers in range
abbrev pub AreValueReplies : ProgramTree → TypeTree → ValueTree → ValueTree → List ℕ → Status → Type 0
AreValueReplies p t v w text status =
    Cases (IsTrue (parts_fit p v t)) (IsSecondReply p t (value_text p v t) w text status) (IsCallRangeReply text status)

-- the run of this name ended without a value
abbrev pub IsStopReply : List ℕ → OutcomeTree → List ℕ → Status → Type 0
IsStopReply run (value_outcome v) text status = ⊥
IsStopReply run (trap_outcome why) text status = IsRunTrapReply run why text status
IsStopReply run budget_outcome text status = IsReply text status (line (codes "error 13: budget")) BudgetEnd

-- the first outcome that is no value decides, that of the first run before that of the second
abbrev pub BySecond : ProgramTree → TypeTree → ValueTree → OutcomeTree → List ℕ → Status → Type 0
BySecond p t v (value_outcome w) text status = AreValueReplies p t v w text status
BySecond p t v o text status = IsStopReply (codes "second") o text status

abbrev pub AreOutcomeReplies : ProgramTree → TypeTree → OutcomeTree → OutcomeTree → List ℕ → Status → Type 0
AreOutcomeReplies p t (value_outcome v) other text status = BySecond p t v other text status
AreOutcomeReplies p t o other text status = IsStopReply (codes "first") o text status

-- ---- the two runs

-- the arguments in other sizes, and their values
abbrev pub rescaled_arguments : List Frac → CallTree → List InputTree
rescaled_arguments cs call = map (rescaled_input cs) call.inputs

abbrev pub rescaled_values : List Frac → CallTree → List ValueTree
rescaled_values cs call = map without_units (rescaled_arguments cs call)

-- how both calls end at the budget, each by the code of a program of its own, is told
unfoldable pub TwinRunAnswer : ℕ → List Frac → ProgramTree → CallTree → List ℕ → Status → Type 0
TwinRunAnswer budget cs p call text status =
    (o : OutcomeTree) × EndsWith (program_code p.functions) call.function (call_values call) budget o
    × (other : OutcomeTree)
    × EndsWith (program_code (rescaled_program cs p).functions) call.function (rescaled_values cs call) budget other
    × AreOutcomeReplies p call.type o other text status

-- ---- what doesn't fit

-- the index, from 0, of the first argument with a number that has no rescaled number in range
abbrev pub misfit_among : List Frac → List InputTree → Option ℕ
misfit_among cs [] = None
misfit_among cs (i ∷ is) = cond (is_some (input_misfit cs i)) (Some 0) (option_map (λ k. suc k) (misfit_among cs is))

unfoldable pub InputsAnswer : ℕ → List Frac → ProgramTree → CallTree → List ℕ → Status → Type 0
InputsAnswer budget cs p call text status =
    MatchOption (misfit_among cs call.inputs)
    (TwinRunAnswer budget cs p call text status) (λ k. IsMisfitReply k text status)

-- the literals are looked at before the arguments
unfoldable pub TwinLiteralsAnswer : ℕ → List Frac → List ℕ → ProgramTree → CallTree → List ℕ → Status → Type 0
TwinLiteralsAnswer budget cs bytes p call text status =
    MatchOption (misfit_in cs p.functions)
    (InputsAnswer budget cs p call text status) (λ at. IsLiteralReply bytes at text status)

-- ---- the call

-- the call of the function of this name on the arguments that the texts are
unfoldable pub SizedAnswer : List Frac → AskedCall → List ℕ → CheckedTree → List ℕ → Status → Type 0
SizedAnswer cs asked bytes c text status = OfCall (TwinLiteralsAnswer asked.budget cs bytes) asked c text status

-- ---- the sizes, which come first
abbrev pub ByTwinSizes :
    AskedCall → List ℕ → CheckedTree → Result (List Frac) ScalesRefusal → List ℕ → Status → Type 0
ByTwinSizes asked bytes c (Ok cs) text status = SizedAnswer cs asked bytes c text status
ByTwinSizes asked bytes c (Err refusal) text status = IsSizesReply refusal text status

unfoldable pub IsTwinAnswer : List ℕ → AskedCall → List ℕ → CheckedTree → List ℕ → Status → Type 0
IsTwinAnswer word asked bytes c text status =
    (r : Result (List Frac) ScalesRefusal) × AreScalesRead c.text.program.bases word r
    × ByTwinSizes asked bytes c r text status

-- of a text's program
unfoldable pub TwinAnswer : List ℕ → AskedCall → List ℕ → List ℕ → Status → Type 0
TwinAnswer word asked bytes text status = OfChecked (IsTwinAnswer word asked bytes) bytes text status
