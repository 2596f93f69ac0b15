-- The least height of a program that begins with what was read; a part that is missing counts 1.
-- Source: this project's own.
use Rattle.std.specs.Prelude.{ℕ, max, List, []}
use Rattle.um_syntax.specs.declared.token.Token.{Token}
use Rattle.um_reader.specs.Machine.{Machine}
use Rattle.um_tree.specs.RawTree.{DeclSyntax}
use Rattle.um_parse.specs.ProgramHeights.{program_height}
use Rattle.um_decls.specs.DeclLeast.{decl_least}
use Rattle.um_decls.specs.DeclMachine.{DeclBegin, Expects, ProgramState, InProgram, NoProgram, program_step}
use Rattle.um_decls.specs.DeclMachine.{program_finish}

abbrev pub program_least : ProgramState → ℕ
program_least (InProgram decls d) = max (program_height decls) (decl_least d)
program_least NoProgram = 0

-- the machine of programs
abbrev pub machine_of_programs : Machine ProgramState Token (List DeclSyntax)
machine_of_programs =
    record {
      start = InProgram [] (Expects DeclBegin);
      refused = NoProgram;
      step = program_step;
      finish = program_finish;
      least = program_least;
    }
