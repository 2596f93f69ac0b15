-- What an evaluator comes to: the outcome of what is to be done next, inside its frames, and where it stops.
-- Source: this project's own.
use Rattle.std.specs.Prelude.{◌≡◌, ◌<◌, ◌≤◌, ◌+◌, ℕ, List, ◌++◌, length, take, drop, reverse, slice_get, Option, IfSome}
use Rattle.um_tree.specs.ValueTree.{ValueTree, OutcomeTree}
use Rattle.um_tree.specs.ExprTree.{ExprTrees, expr_tree}
use Rattle.um_tree.specs.ProgramTree.{FunctionTree}
use Rattle.um_tree.specs.Meaning.{Stop, trap, budget_end, wrong, Out, gives, stops, then, found, Means, AllMean}
use Rattle.um_tree.specs.Meaning.{Outcome, end_of}
use Rattle.um_eval.specs.Traces.{stop_at}
use Rattle.um_cells.specs.declared.store.Store.{Store}
use Rattle.um_cells.specs.declared.word.Word.{Word}
use Rattle.um_cells.specs.Stores.{DenotesIn, AllDenote}
use Rattle.um_eval.specs.declared.next.Next.{Next}
use Rattle.um_eval.specs.declared.next.End.{End}
use Rattle.um_eval.specs.declared.next.End.TheVariants as end
use Rattle.um_eval.specs.declared.frame.Collection.{Collection}
use Rattle.um_eval.specs.declared.frame.Frame.{Frame}
use Rattle.um_eval.specs.declared.stop.Operands.{Operands}
use Rattle.um_eval.specs.declared.evaluator.Evaluator.{Evaluator}
use Rattle.um_eval.specs.Variables.{own_of, callers_of}
use Rattle.um_eval.specs.Tasks.{Task, Evaluate, Give, Halt, Break, task_of}
use Rattle.um_eval.specs.Through.{Whole, Traces, whole_outcome, whole_traces, here_of, spot_in, through, traces_of}
use Rattle.um_eval.specs.Through.{collecting_traces, collected_traces, operand_values}
use Rattle.um_eval.specs.Frames.{collected, Completes}
use Rattle.um_eval.specs.Work.{steps_of_each, task_steps, steps_left}

-- a value has no traces
abbrev pub no_traces : Traces
no_traces t = ⊥

-- the whole call stops with the trace of the node of this place inside the frames, which has no value on the operands
abbrev pub StopsAt : List FunctionTree → List Frame → Stop → ℕ → Operands → Whole → Type 0
StopsAt fs frames why at given whole =
    whole_traces fs whole (through frames (stop_at (spot_in frames at) why (operand_values given)))

-- The task comes to this outcome of the whole call, with this store, these words of the callers' variables, of the
-- running function's and of the values that wait, this budget, and inside these frames.
abbrev pub ComesTo :
    List FunctionTree → Store → List Word → List Word → List Word → ℕ → List Frame → Task → Whole → Type 0
ComesTo fs s callers scope waiting b frames (Evaluate e) whole =
    (vars : List ValueTree) × AllDenote s scope vars
    × Completes fs s callers waiting frames vars (Means fs vars (expr_tree e.now) b)
    (traces_of fs (here_of frames) (expr_tree e.now) vars b) whole
ComesTo fs s callers scope waiting b frames (Give w) whole =
    (vars : List ValueTree) × (v : ValueTree) × AllDenote s scope vars × DenotesIn s w v
    × Completes fs s callers waiting frames vars (gives v b) no_traces whole
ComesTo fs s callers scope waiting b frames (Halt why at given) whole =
    (stops why ≡ whole_outcome fs whole) × StopsAt fs frames why at given whole
ComesTo fs s callers scope waiting b frames Break whole = stops wrong ≡ whole_outcome fs whole

-- and in less than n steps
abbrev pub Leads :
    List FunctionTree → Store → List Word → List Word → List Word → ℕ → List Frame → Task → Whole → ℕ → Type 0
Leads fs s callers scope waiting b frames task whole n =
    ComesTo fs s callers scope waiting b frames task whole × (steps_left fs b frames (task_steps task) < n)

-- the frames from the innermost out
abbrev pub frames_of : Evaluator → List Frame
frames_of m = reverse m.frames.items

-- with other frames than the evaluator's own
abbrev pub Within : List FunctionTree → Evaluator → List Frame → Task → Whole → ℕ → Type 0
Within fs m frames task whole n =
    Leads fs m.store (callers_of m.scope) (own_of m.scope) m.values.items m.budget frames task whole n

abbrev pub LeadsTo : List FunctionTree → Evaluator → Task → Whole → ℕ → Type 0
LeadsTo fs m task whole n = Within fs m (frames_of m) task whole n

-- want of memory is free
abbrev pub Goes : List FunctionTree → Evaluator → Next → Whole → ℕ → Type 0
Goes fs m next whole n = IfSome (task_of m next) (λ task. LeadsTo fs m task whole n)

-- variable k comes to it
abbrev pub IsVariable : List FunctionTree → Evaluator → ℕ → Whole → ℕ → Type 0
IsVariable fs m k whole n =
    (vars : List ValueTree) × AllDenote m.store (own_of m.scope) vars
    × Completes fs m.store (callers_of m.scope) m.values.items (frames_of m) vars
    (found (slice_get vars k) m.budget) no_traces whole
    × (steps_left fs m.budget (frames_of m) 0 < n)

-- What is collected comes to it, where the rest is still to be evaluated, and the values before it wait from this place
-- on.
abbrev pub Collecting :
    List FunctionTree → Store → List Word → List Word → List Word → ℕ → List Frame → Collection → ExprTrees → ℕ →
    Whole → ℕ → Type 0
Collecting fs s callers scope waiting b frames c rest first whole n =
    (first ≤ length waiting)
    × (vars : List ValueTree) × (vs : List ValueTree) × AllDenote s scope vars × AllDenote s (drop first waiting) vs
    × Completes fs s callers (take first waiting) frames vars
    (then (AllMean fs vars rest b) (λ us d. collected fs c (vs ++ us) d))
    (collecting_traces fs (here_of frames) c vs vars rest b) whole
    × (steps_left fs b frames (steps_of_each rest + 1) < n)

abbrev pub Collects : List FunctionTree → Evaluator → Collection → ExprTrees → ℕ → Whole → ℕ → Type 0
Collects fs m c rest first whole n =
    Collecting fs m.store (callers_of m.scope) (own_of m.scope) m.values.items m.budget (frames_of m) c rest first whole
    n

-- all values are there
abbrev pub AllCollected :
    List FunctionTree → Store → List Word → List Word → List Word → ℕ → List Frame → Collection → ℕ → Whole → ℕ →
    Type 0
AllCollected fs s callers scope waiting b frames c first whole n =
    (first ≤ length waiting)
    × (vars : List ValueTree) × (vs : List ValueTree) × AllDenote s scope vars × AllDenote s (drop first waiting) vs
    × Completes fs s callers (take first waiting) frames vars (collected fs c vs b)
    (collected_traces fs (here_of frames) c vs b) whole
    × (steps_left fs b frames 1 < n)

abbrev pub IsCollected : List FunctionTree → Evaluator → Collection → ℕ → Whole → ℕ → Type 0
IsCollected fs m c first whole n =
    AllCollected fs m.store (callers_of m.scope) (own_of m.scope) m.values.items m.budget (frames_of m) c first whole n

-- ---- the end

-- the run ended with the outcome
abbrev pub EndsWith : Store → End → Out ValueTree → Type 0
EndsWith s (end.Value w) out = (v : ValueTree) × (b : ℕ) × DenotesIn s w v × (gives v b ≡ out)
EndsWith s (end.Trap t) out = stops (trap t) ≡ out
EndsWith s end.BudgetEnd out = stops budget_end ≡ out
EndsWith s end.Wrong out = stops wrong ≡ out

-- and if it stopped, where the evaluator tells
abbrev pub EndsAt : List FunctionTree → Evaluator → End → Whole → Type 0
EndsAt fs m (end.Value w) whole = Unit {0}
EndsAt fs m (end.Trap t) whole = StopsAt fs (frames_of m) (trap t) m.at m.operands whole
EndsAt fs m end.BudgetEnd whole = StopsAt fs (frames_of m) budget_end m.at m.operands whole
EndsAt fs m end.Wrong whole = Unit {0}

-- how a call ends; nothing if a shape is wrong
abbrev pub end_of_call : List FunctionTree → ℕ → List ValueTree → ℕ → Option OutcomeTree
end_of_call fs j vs b = end_of (Outcome fs j vs b)
