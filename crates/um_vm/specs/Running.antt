-- Which programs are run by code.
-- Source: this project's own.
use Rattle.std.specs.Prelude.{◌≡◌}
use Rattle.um_tree.specs.ProgramTree.{ProgramTree}
use Rattle.um_tree.specs.Shapes.{IsShaped}
use Rattle.um_machine.specs.declared.code.Code.{Code}
use Rattle.um_gen.specs.ProgramCode.{program_code}

-- each node of the program has its shape, and this is the program's code
pub record IsCodeOf (code : Code) (p : ProgramTree) : Type 0 where
  pub shaped : IsShaped p
  pub generated : code ≡ program_code p.functions
