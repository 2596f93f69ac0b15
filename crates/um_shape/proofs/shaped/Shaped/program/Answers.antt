use Rattle.um_tree.specs.ProgramTree.{program_tree}
use Rattle.um_shape.specs.Signatures.{signatures_shapes}
use Rattle.um_shape.proofs.SoundProgram.{found_is_shaped}
use Rattle.um_shape.proofs.shaped.Shaped.program.Goals as goal

pub returns-clause-shaped : goal.returns-clause-shaped
returns-clause-shaped c =
    let inside = c.self.inside in
    rw (← c.self.view_is) (found_is_shaped (program_tree inside.program) (signatures_shapes inside.signatures.items) c.self.invariant.1)
