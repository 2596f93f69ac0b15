-- A path is told as the trace that it is of, and stands in the text of the program.
use Rattle.std.proofs.Common.{◌≡◌, ℕ, zero, suc, ◌<◌, List, ◌∷◌, length, map, Some, refl, sym, ap, ◌∙◌, subst, arith}
use Rattle.std.specs.Prelude.{All}
use Rattle.std.proofs.lemmas.List.{length-map, get_or-map}
use Rattle.std.proofs.lemmas.List.Elements.{All-cons, All-get_or}
use Rattle.um_frac.specs.declared.number.Trap.{Trap}
use Rattle.um_tree.specs.ValueTree.{ValueTree, trap_outcome, budget_outcome}
use Rattle.um_tree.specs.ProgramTree.{FunctionTree, ProgramTree}
use Rattle.um_tree.specs.Meaning.{Stop, trap, budget_end, wrong, Out, gives, stops, end_of, Outcome}
use Rattle.um_eval.specs.Traces.{Spot, Trace}
use Rattle.um_eval.specs.Stopping.{StopsWith}
use Rattle.um_eval.specs.Laws.{IsStop}
use Rattle.um_eval.proofs.Traced.{traces_are_stops}
use Rattle.um_eval.proofs.SomeTrace.{stops_have_traces}
use Rattle.um_eval.specs.declared.stop.Spot.{Spot as Node}
use Rattle.um_eval.specs.declared.stop.Path.{Path}
use Rattle.um_eval.specs.Paths.{spot_of, IsPathOf}
use Rattle.um_run.specs.Calls.{CallTree, call_values}
use Rattle.um_reports.specs.declared.status.Status.{Status}
use Rattle.um_reports.specs.declared.status.Status.TheVariants.{Done}
use Rattle.um_reports.specs.Steps.{line, IsReply}
use Rattle.um_front.specs.Places.{IsPlace, EachPlace}
use Rattle.um_front.proofs.NodePlaces.{nodes_have_places}
use Rattle.um_front.specs.Stages.{CheckedTree, IsCheckedText}
use Rattle.um_shown_answers.specs.TraceText.{stop_label, trace_text}
use Rattle.um_shown_answers.specs.TraceAnswer.{IsStopTold}
use Rattle.um_shown_answers.proofs.TracePlaces.{trace_holds}

-- ---- places

-- the nodes of a checked text's program have places
checked_places : (bytes : List ℕ) (c : CheckedTree) → IsCheckedText bytes c → All (λ (f : FunctionTree). EachPlace (IsPlace bytes) f.body) c.text.program.functions
checked_places bytes c is =
    let written = is.shaped.written in
    nodes_have_places bytes written.tokens is.shaped.raw c.text.program written.lexed written.read is.shaped.resolved

all_of_map : {X Y : Type 0} (P : Y → Type 0) (f : X → Y) (xs : List X) (y : Y) (ys : List Y) → y ∷ ys ≡ map f xs → P y → All P ys → All (λ x. P (f x)) xs
all_of_map P f xs y ys is p ps = λ k d l.
    let many : k < length (map f xs) = omega (arith, length-map xs f, l) in
    subst P (get_or-map f xs k d (f d) l) (All-get_or P (map f xs) k (f d) many (subst (All P) is (All-cons P y ys p ps)))

-- of the others after the first
pub all_after : {X : Type 0} (P : X → Type 0) (x : X) (xs all : List X) → all ≡ x ∷ xs → All P all → All P xs
all_after P x xs all is h = λ k d l. All-get_or P (x ∷ xs) (suc k) d (omega (arith, l)) (subst (All P) is h)

pub path_places : (bytes : List ℕ) (c : CheckedTree) → IsCheckedText bytes c → (j : ℕ) (vs : List ValueTree) (b : ℕ) (t : Trace) (path : Path) → StopsWith c.text.program.functions j vs b t → IsPathOf t path → All (λ (s : Node). IsPlace bytes s.at) path.spots.items
path_places bytes c is j vs b t path stopped of =
    let holds = trace_holds (IsPlace bytes) c.text.program.functions (checked_places bytes c is) j vs b t stopped in
    all_of_map (λ (s : Spot). IsPlace bytes s.at) spot_of path.spots.items t.node t.calls of.1 holds.0 holds.1

-- ---- outcomes

-- a call that ends by a trap stops for it
pub trap_stops : (o : Out ValueTree) (why : Trap) → end_of o ≡ Some (trap_outcome why) → o ≡ stops (trap why)
trap_stops (gives v b) why e = absurd (cc e)
trap_stops (stops (trap t)) why e = let same : t ≡ why = cc e in ap (λ w. stops (trap w)) same
trap_stops (stops budget_end) why e = absurd (cc e)
trap_stops (stops wrong) why e = absurd (cc e)

pub budget_stops : (o : Out ValueTree) → end_of o ≡ Some budget_outcome → o ≡ stops budget_end
budget_stops (gives v b) e = absurd (cc e)
budget_stops (stops (trap t)) e = absurd (cc e)
budget_stops (stops budget_end) e = refl
budget_stops (stops wrong) e = absurd (cc e)

-- ---- the answer

unpaid : (fs : List FunctionTree) (j : ℕ) (vs : List ValueTree) (t : Trace) → StopsWith fs j vs 0 t → ⊥
unfolding StopsWith
unpaid fs j vs t h = h

module _ (bytes : List ℕ) (p : ProgramTree) (call : CallTree) (why : Stop) (text : List ℕ) (status : Status) where
  abbrev End : ℕ → Type 0
  End budget = Outcome p.functions call.function (call_values call) budget ≡ stops why

  -- a trace tells why the call stops
  pub same_stop : (budget : ℕ) (t : Trace) → End budget → StopsWith p.functions call.function (call_values call) budget t → t.why ≡ why
  same_stop budget t end stopped =
      let both : ◌≡◌ {A = Out ValueTree} (stops t.why) (stops why) = sym (traces_are_stops p.functions call.function (call_values call) budget t stopped) ∙ end in
      cc both

  -- with its trace
  pub told : (budget : ℕ) (t : Trace) → t.why ≡ why → StopsWith p.functions call.function (call_values call) budget t → IsReply text status (trace_text p.functions bytes t) Done → IsStopTold budget bytes p call why text status
  told zero t same stopped reply = absurd (unpaid p.functions call.function (call_values call) t stopped)
  told (suc budget) t same stopped reply = (t, stopped, same, reply)

  -- without one
  pub untold : (budget : ℕ) → IsStop why → End budget → ((t : Trace) → StopsWith p.functions call.function (call_values call) budget t → ⊥) → IsReply text status (line (stop_label why)) Done → IsStopTold budget bytes p call why text status
  untold zero is end never reply = reply
  untold (suc budget) is end never reply =
      let (t, stopped, same) = stops_have_traces p.functions call.function (call_values call) budget why is end in
      absurd (never t stopped)
