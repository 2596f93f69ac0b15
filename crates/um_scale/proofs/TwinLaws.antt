-- Two outcomes of a program and of the rescaled one are twins: the scaling law.
use Rattle.std.proofs.Common.{◌≡◌, sym, ap, ◌∙◌, ℕ, List, Some, Result, Ok, Err, IfOk}
use Rattle.um_frac.specs.declared.number.Frac.{Frac}
use Rattle.um_tree.specs.ProgramTree.{ProgramTree}
use Rattle.um_tree.specs.ValueTree.{ValueTree, OutcomeTree, outcome_tree}
use Rattle.um_cells.specs.Running.{EndsAsMeant}
use Rattle.um_scaling.proofs.ScalingLaw.{scaling_law}
use Rattle.um_scale.specs.declared.outcomes.Twin.{Twin}
use Rattle.um_scale.specs.Sizes.{AreSizes, sizes}
use Rattle.um_scale.specs.TwinRuns.{EndAsTwins}
use Rattle.um_scale.proofs.SizeFactors.{sizes_positive}

pub twins :
    {E : Type 0} (Runs Other : ProgramTree → Type 0) (cs : List Frac) (f : ℕ) (vs ws : List ValueTree) (b : ℕ) (o : OutcomeTree)
    (made : Result Twin E) → AreSizes cs → EndsAsMeant Runs f vs b o →
    IfOk made (λ t. outcome_tree t.first ≡ o) → IfOk made (λ t. EndsAsMeant Other f ws b (outcome_tree t.second)) →
    IfOk made (λ t. EndAsTwins Runs Other (sizes cs) f vs ws (outcome_tree t.first) (outcome_tree t.second))
twins Runs Other cs f vs ws b o (Ok t) above first e h =
    λ p q runs other fits also. λ formed rescaled g typed scaled.
    scaling_law p q (sizes cs) f g vs ws b (outcome_tree t.first) (outcome_tree t.second) formed (sizes_positive cs above) rescaled typed scaled (first p runs fits ∙ ap Some (sym e)) (h q other also)
twins Runs Other cs f vs ws b o (Err stop) above first e h = tt
