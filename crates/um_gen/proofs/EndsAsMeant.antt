-- The run of a program's code ends as its meaning does.
use Rattle.std.proofs.Common.{◌≡◌, refl, ℕ, List, Option, Some, None, slice_get, IsSome}
use Rattle.um_tree.specs.ValueTree.{ValueTree, OutcomeTree}
use Rattle.um_tree.specs.Meaning.{outcome_of_call}
use Rattle.um_tree.specs.ProgramTree.{ProgramTree}
use Rattle.um_shape.proofs.NeverWrong.{calls_are_never_wrong}
use Rattle.um_machine.specs.Machine.{EndsWith, starts}
use Rattle.um_machine.proofs.Ends.{never_stuck_from}
use Rattle.um_gen.specs.ProgramCode.{program_code}
use Rattle.um_gen.specs.Laws.{CodeEndsAsMeant, OutcomesAreReached}
use Rattle.um_gen.proofs.Simulation.{simulates}
use Rattle.um_gen.proofs.LaidOut.{compiled}

pub outcomes_are_reached : OutcomesAreReached
outcomes_are_reached p i vs b o h =
    let code = program_code p.functions in
    let run = simulates code p.functions (compiled p.functions) i vs b o h in
    (run.0, run.1, λ m l. never_stuck_from code o run.0 m (starts code i vs b (slice_get code.entries i)) run.1)

reached : (p : ProgramTree) (i : ℕ) (vs : List ValueTree) (b : ℕ) (out : Option OutcomeTree) → outcome_of_call p i vs b ≡ out → IsSome out → (o : OutcomeTree) × (outcome_of_call p i vs b ≡ Some o) × EndsWith (program_code p.functions) i vs b o
reached p i vs b (Some o) e h = let run = outcomes_are_reached p i vs b o e in (o, e, run)
reached p i vs b None e h = absurd cc

pub code_ends_as_meant : CodeEndsAsMeant
code_ends_as_meant p i g vs b shape values =
    reached p i vs b (outcome_of_call p i vs b) refl (calls_are_never_wrong p i g vs b shape values)
