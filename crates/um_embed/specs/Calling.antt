-- Mirrors the code: what is made of a program for its calls.
-- Source: this project's own.
use Rattle.std.specs.Prelude.{◌≡◌}
use Rattle.um_tree.specs.ProgramTree.{program_tree}
use Rattle.um_gen.specs.ProgramCode.{program_code}
use Rattle.um_run.specs.Callable.{AreTablesOf}
use Rattle.um_front.specs.declared.parts.CheckedParts.{CheckedParts}
use Rattle.um_embed.specs.declared.prepared.Prepared.{Prepared}

-- the code is the program's, and the tables are those of its names
pub record IsPreparedFor (checked : CheckedParts) (made : Prepared) : Type 0 where
  pub coded : made.code ≡ program_code (program_tree checked.text.shaped).functions
  pub tables : AreTablesOf (program_tree checked.text.shaped) checked.text.abbreviations made.tables
