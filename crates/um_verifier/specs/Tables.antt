-- What has arrived at the addresses of a function, as the code keeps it: states are stacks by their numbers. This
-- mirrors the code.
-- Source: this project's own.
use Rattle.std.specs.Prelude.{ℕ, ◌<◌, ◌≤◌, Bool, true, false, List, [], ◌∷◌, ◌++◌, get_or}
use Rattle.um_verify.specs.StackShape.{StackShape}
use Rattle.um_verify.specs.Rules as rules
use Rattle.um_verify.specs.Rules.{passes, fails}
use Rattle.um_verify.specs.Verified as verified
use Rattle.um_verify.specs.Verified.{Passes}
use Rattle.um_stacks.specs.FlatShapes.{flat_shape}
use Rattle.um_stacks.specs.Stacks.{shapes_at}
use Rattle.um_stacks.specs.declared.flat.FlatShape.{FlatShape}
use Rattle.um_verifier.specs.declared.table.Met.{Met}
use Rattle.um_verifier.specs.declared.table.Met.TheVariants.{Nobody, Clash, Arrived}
use Rattle.um_verifier.specs.declared.table.Pushed.{Pushed}
use Rattle.um_verifier.specs.declared.table.Pushed.TheVariants.{Nothing, One, Two}
use Rattle.um_verifier.specs.declared.table.Sent.{Sent}
use Rattle.um_verifier.specs.declared.table.Flow.{Flow}
use Rattle.um_verifier.specs.declared.table.Flow.TheVariants.{Fails, Ends, Goes, Forks}

abbrev pub met_of : List (List FlatShape) → Met → verified.Met
met_of stacks Nobody = verified.nobody
met_of stacks Clash = verified.clash
met_of stacks (Arrived k) = verified.arrived (shapes_at stacks k)

-- what has arrived at a place of the table
abbrev pub met_at : List (List FlatShape) → List Met → ℕ → verified.Met
met_at stacks table t = met_of stacks (get_or table t Nobody)

-- the numbers of its stacks are those of stacks
abbrev pub IsMetBelow : ℕ → Met → Type 0
IsMetBelow n Nobody = Unit {0}
IsMetBelow n Clash = Unit {0}
IsMetBelow n (Arrived k) = k < n

abbrev pub AreMetBelow : ℕ → List Met → Type 0
AreMetBelow n table = (t : ℕ) → IsMetBelow n (get_or table t Nobody)

-- a stack with what is pushed on it
abbrev pub with_pushed : List StackShape → Pushed → List StackShape
with_pushed st Nothing = st
with_pushed st (One s) = st ++ flat_shape s ∷ []
with_pushed st (Two s t) = st ++ flat_shape s ∷ flat_shape t ∷ []

abbrev pub state_of : List (List FlatShape) → Sent → List StackShape
state_of stacks s = with_pushed (shapes_at stacks s.low) s.pushed

abbrev pub sent_of : List (List FlatShape) → Sent → rules.Sent
sent_of stacks s = record { to = s.to; state = state_of stacks s }

abbrev pub flow_of : List (List FlatShape) → Flow → rules.Flow
flow_of stacks Fails = fails
flow_of stacks Ends = passes []
flow_of stacks (Goes p) = passes (sent_of stacks p ∷ [])
flow_of stacks (Forks p q) = passes (sent_of stacks p ∷ sent_of stacks q ∷ [])

-- each state goes to one of these addresses
abbrev pub StaysIn : ℕ → ℕ → Flow → Type 0
StaysIn from end Fails = Unit {0}
StaysIn from end Ends = Unit {0}
StaysIn from end (Goes p) = (from ≤ p.to) × (p.to < end)
StaysIn from end (Forks p q) = (from ≤ p.to) × (p.to < end) × (from ≤ q.to) × (q.to < end)

abbrev pub FailsIf : Bool → rules.Flow → Type 0
FailsIf true flow = Passes flow → ⊥
FailsIf false flow = Passes flow
