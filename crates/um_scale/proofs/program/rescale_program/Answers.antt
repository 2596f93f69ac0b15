use Rattle.std.proofs.Common.{◌≡◌, sym, subst, None, rules}
use Rattle.um_tree.specs.ProgramTree.{program_tree}
use Rattle.um_scaling.specs.RescaledProgram.{IsRescaled}
use Rattle.um_scale.specs.Sizes.{sizes}
use Rattle.um_scale.specs.RescaledLiterals.{misfit_in}
use Rattle.um_scaling.proofs.Formed.{rescaled_is_formed}
use Rattle.um_scale.proofs.Rescaled.{program_rescaled}
use Rattle.um_scale.proofs.RescaledFaults.{same_fault}
use Rattle.um_scale.proofs.program.rescale_program.Goals as goal

pub returns-in-Ok-clause-rescaled : goal.returns-in-Ok-clause-rescaled
returns-in-Ok-clause-rescaled c =
    let cs = c.args.scales.now in
    let p = program_tree c.args.program.now in
    let none : misfit_in cs p.functions ≡ None = search rules in
    subst (IsRescaled (sizes cs) p) (sym c.in-Ok.ensures) (program_rescaled cs c.len-bases.ensures.positive p none)

pub returns-in-Ok-clause-formed : goal.returns-in-Ok-clause-formed
returns-in-Ok-clause-formed c = λ formed. rescaled_is_formed (program_tree c.args.program.now) (program_tree c.in-Ok.program) (sizes c.args.scales.now) (returns-in-Ok-clause-rescaled c) formed

pub returns-in-Ok-clause-faults : goal.returns-in-Ok-clause-faults
returns-in-Ok-clause-faults c = same_fault (program_tree c.args.program.now) (program_tree c.in-Ok.program) (sizes c.args.scales.now) (returns-in-Ok-clause-rescaled c)
