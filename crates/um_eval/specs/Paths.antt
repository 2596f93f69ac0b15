-- The path to where a call stops, as the runner gives it, and how it is read off frames.
-- Source: this project's own.
use Rattle.std.specs.Prelude.{◌≡◌, ℕ, List, [], ◌∷◌, ◌++◌, map, Option, Some, None}
use Rattle.um_tree.specs.ValueTree.{ValueTree}
use Rattle.um_tree.specs.ProgramTree.{FunctionTree}
use Rattle.um_eval.specs.Traces.{Spot, Trace}
use Rattle.um_eval.specs.Stopping.{StopsWith}
use Rattle.um_eval.specs.declared.stop.Spot.{Spot as Node}
use Rattle.um_eval.specs.declared.stop.Path.{Path}
use Rattle.um_eval.specs.declared.frame.Frame.{Frame}
use Rattle.um_eval.specs.declared.frame.Frame.TheVariants as frame
use Rattle.um_eval.specs.declared.evaluator.Evaluator.{Evaluator}
use Rattle.um_eval.specs.declared.call.Ended.{Ended}
use Rattle.um_eval.specs.Through.{whole_outcome, operand_values}
use Rattle.um_eval.specs.Progress.{frames_of, EndsWith, EndsAt}

abbrev pub spot_of : Node → Spot
spot_of n = record { function = n.function; at = n.at }

-- the path has the trace's operands, its node, and its calls
abbrev pub IsPathOf : Trace → Path → Type 0
IsPathOf t path = (t.operands ≡ operand_values path.operands) × (t.node ∷ t.calls ≡ map spot_of path.spots.items)

-- what is found of a call is the path of its trace, and nothing is found only if it has none
abbrev pub IsFound : List FunctionTree → ℕ → List ValueTree → ℕ → Option Path → Type 0
IsFound fs j vs b (Some path) = (t : Trace) × StopsWith fs j vs b t × IsPathOf t path
IsFound fs j vs b None = (t : Trace) → StopsWith fs j vs b t → ⊥

-- ---- frames

-- the body of a function ends the search for the function of a node
abbrev pub spots_at : Frame → ℕ → List Node
spots_at (frame.Operand op) at = []
spots_at (frame.Left op y) at = []
spots_at (frame.Right op x) at = []
spots_at (frame.LeftOfAnd y) at = []
spots_at (frame.LeftOfOr y) at = []
spots_at (frame.Test x y) at = []
spots_at (frame.Bound y) at = []
spots_at (frame.Matched x y) at = []
spots_at (frame.Inner n) at = []
spots_at (frame.Item c rest first) at = []
spots_at (frame.Body base j called) at = record { function = j; at = at } ∷ []

-- and outside it stands the call
abbrev pub outer_place : Frame → ℕ → ℕ
outer_place (frame.Operand op) at = at
outer_place (frame.Left op y) at = at
outer_place (frame.Right op x) at = at
outer_place (frame.LeftOfAnd y) at = at
outer_place (frame.LeftOfOr y) at = at
outer_place (frame.Test x y) at = at
outer_place (frame.Bound y) at = at
outer_place (frame.Matched x y) at = at
outer_place (frame.Inner n) at = at
outer_place (frame.Item c rest first) at = at
outer_place (frame.Body base j called) at = called

-- the node of this place inside the frames, and the calls around it but for the command's own
abbrev pub spots_in : ℕ → List Frame → List Node
spots_in at [] = []
spots_in at (f ∷ frames) = spots_at f at ++ spots_in (outer_place f at) frames

abbrev pub IsReadOff : Evaluator → Path → Type 0
IsReadOff m path = (path.operands ≡ m.operands) × (path.spots.items ≡ spots_in m.at (frames_of m))

-- ---- runs

-- the run of the call of function j on values at a budget ended so
abbrev pub IsEndOf : List FunctionTree → ℕ → List ValueTree → ℕ → Ended → Type 0
IsEndOf fs j vs b ended =
    EndsWith ended.evaluator.store ended.end (whole_outcome fs (record { function = j; arguments = vs; budget = b }))
    × EndsAt fs ended.evaluator ended.end (record { function = j; arguments = vs; budget = b })
