-- What holds of all traces, by the definitions alone. The outcome of a call is that of the meaning, and with a budget
-- of 0 the command's own call finds none, which no trace tells.
use Rattle.std.specs.Prelude.{ℕ, suc, ◌≡◌, List}
use Rattle.um_tree.specs.ValueTree.{ValueTree}
use Rattle.um_tree.specs.ProgramTree.{FunctionTree}
use Rattle.um_tree.specs.Meaning.{Stop, trap, budget_end, wrong, stops, Outcome}
use Rattle.um_eval.specs.Traces.{Trace}
use Rattle.um_eval.specs.Stopping.{Takes, Stops, StopsWith, inside}

-- a call with a trace ends for the reason that it tells
abbrev pub TracesAreStops : Type 0
TracesAreStops =
    (fs : List FunctionTree) (j : ℕ) (vs : List ValueTree) (b : ℕ) (t : Trace) →
    StopsWith fs j vs b t → Outcome fs j vs b ≡ stops t.why

-- a trap or the end of the budget: no more is claimed of a wrong shape
abbrev pub IsStop : Stop → Type 0
IsStop (trap t) = Unit {0}
IsStop budget_end = Unit {0}
IsStop wrong = ⊥

-- a call of which the outcome is a trap or the end of the budget has a trace, if its own call is paid
abbrev pub StopsHaveTraces : Type 0
StopsHaveTraces =
    (fs : List FunctionTree) (j : ℕ) (vs : List ValueTree) (b : ℕ) (why : Stop) → IsStop why →
    Outcome fs j vs (suc b) ≡ stops why →
    (t : Trace) × StopsWith fs j vs (suc b) t × (t.why ≡ why)

-- and no other
abbrev pub TracesAreUnique : Type 0
TracesAreUnique =
    (fs : List FunctionTree) (j : ℕ) (vs : List ValueTree) (b : ℕ) (t u : Trace) →
    StopsWith fs j vs b t → StopsWith fs j vs b u → t ≡ u

-- A call stops in its body with a trace exactly if the body does, where the calls in the body stop by the same
-- condition. So the bound on calls inside one another doesn't matter.
abbrev pub InItsBody : List FunctionTree → ℕ → List ValueTree → ℕ → Trace → Type 0
InItsBody fs j vs b t = (f : FunctionTree) × Takes fs j vs f × Stops fs (inside fs) j f.body vs b t

abbrev pub BodiesStop : Type 0
BodiesStop =
    (fs : List FunctionTree) (j : ℕ) (vs : List ValueTree) (b : ℕ) (t : Trace) →
    (StopsWith fs j vs (suc b) t → InItsBody fs j vs b t) × (InItsBody fs j vs b t → StopsWith fs j vs (suc b) t)
