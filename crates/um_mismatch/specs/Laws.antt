-- What the details of a shape's fault come to.
-- Source: this project's own.
use Rattle.std.specs.Prelude.{◌≡◌, ℕ, Some, Err}
use Rattle.um_tree.specs.ProgramTree.{ProgramTree}
use Rattle.um_shape.specs.FirstFault.{wrong_shape, first_fault}
use Rattle.um_mismatch.specs.Mismatch.{Told}
use Rattle.um_mismatch.specs.ShapeDetails.{program_told}

-- if the first fault of a program is a node without a shape, it is that node of which something is told
abbrev pub FaultsAreTold : Type 0
FaultsAreTold =
    (p : ProgramTree) (at : ℕ) → first_fault p ≡ Some (wrong_shape at) →
    (t : Told) × (program_told p ≡ Err t) × (t.at ≡ at)
