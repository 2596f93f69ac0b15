-- A call of a shaped program has an outcome at each budget, and so has the same call in other sizes. Each outcome is told.
use Rattle.std.proofs.Common.{◌≡◌, inl, inr, ℕ, List, ◌++◌, codes, Option, Some, None, refl, sym, subst, ◌∙◌}
use Rattle.um_elim.proofs.Cases.{on_test}
use Rattle.um_tree.specs.TypeTree.{TypeTree}
use Rattle.um_tree.specs.ValueTree.{ValueTree, values_in_order, OutcomeTree, value_outcome, trap_outcome, budget_outcome}
use Rattle.um_tree.specs.ProgramTree.{ProgramTree}
use Rattle.um_tree.specs.Meaning.{outcome_of_call}
use Rattle.um_tree.specs.Shapes.{IsShaped, IsShapeOf, ShapeAt, shapes_below}
use Rattle.um_tree.specs.InputType.{ValuesHave}
use Rattle.um_show.specs.ValueText.{value_text, parts_fit}
use Rattle.um_cells.specs.Arguments.{AreArgumentsOf}
use Rattle.um_machine.specs.Machine.{EndsWith}
use Rattle.um_gen.specs.ProgramCode.{program_code}
use Rattle.um_gen.specs.Laws.{CodeEndsAsMeant}
use Rattle.um_run.specs.Calls.{CallTree, call_values}
use Rattle.um_reports.specs.declared.status.Status.TheVariants.{Done, PowerRange, BudgetEnd}
use Rattle.um_reports.specs.declared.status.Status.TheVariants.{Trap as Trapped}
use Rattle.um_reports.specs.CallRefusals.{trap_line}
use Rattle.um_reports.specs.Steps.{line}
use Rattle.um_call_answers.specs.declared.way.Way.{Way}
use Rattle.um_call_answers.specs.declared.way.Way.TheVariants as way
use Rattle.um_call_answers.specs.CallAnswer.{steps_text, IsValueReply, IsOutcomeReply, EndsBy}
use Rattle.um_all_answers.proofs.Answers.{Told}
use Rattle.um_all_answers.proofs.Steps.{steps_are_counted}

-- ---- there is an outcome

-- that of the meaning, with which the run of the code ends
abbrev pub Ended : ProgramTree → ℕ → List ValueTree → ℕ → Type 0
Ended p f values budget = (o : OutcomeTree) × (outcome_of_call p f values budget ≡ Some o) × EndsWith (program_code p.functions) f values budget o

pub each_ends : CodeEndsAsMeant → (p : ProgramTree) → IsShaped p → (f : ℕ) (values : List ValueTree) (budget : ℕ) → AreArgumentsOf p f values → Ended p f values budget
each_ends law p shaped f values budget (g, declared, have) =
    let (signature, its) = shaped f g declared in
    let shapes : IsShapeOf p.records (shapes_below p f) f g signature = subst (λ o. ShapeAt p.records (shapes_below p f) f o signature) declared its in
    law p f signature values budget its (subst (λ ss. ValuesHave p.records (values_in_order values) ss) (sym shapes.params) have)

-- ---- it is told

pub value_told : (p : ProgramTree) (t : TypeTree) (v : ValueTree) (steps : Option ℕ) → Told (IsValueReply p t v steps)
value_told p t v steps =
    on_test (parts_fit p v t)
    (λ fits. (line (value_text p v t) ++ steps_text steps, Done, inl (fits, (refl, refl))))
    (λ passes. (line (codes "error 10: power range of the call"), PowerRange, inr ((λ fits. cc (sym fits ∙ passes)), (refl, refl))))

pub outcome_told : (p : ProgramTree) (t : TypeTree) (o : OutcomeTree) (steps : Option ℕ) → Told (IsOutcomeReply p t o steps)
outcome_told p t (value_outcome v) steps = value_told p t v steps
outcome_told p t (trap_outcome why) steps = (trap_line why, Trapped, (refl, refl))
outcome_told p t budget_outcome steps = (line (codes "error 13: budget"), BudgetEnd, (refl, refl))

-- ---- it is that of each way

pub ends_by : (w : Way) (budget : ℕ) (p : ProgramTree) (call : CallTree) (o : OutcomeTree) → outcome_of_call p call.function (call_values call) budget ≡ Some o → EndsWith (program_code p.functions) call.function (call_values call) budget o
    → (steps : Option ℕ) × EndsBy w budget p call o steps
ends_by way.Tree budget p call o meant ends = (None, (meant, refl))
ends_by way.Code budget p call o meant ends = (None, (ends, refl))
ends_by way.Counted budget p call o meant ends =
    let (k, counts) = steps_are_counted (program_code p.functions) call.function (call_values call) budget o ends in (Some k, (k, counts, refl))
