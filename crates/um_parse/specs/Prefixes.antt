-- What was read of tokens that begin a program.
-- Source: this project's own.
use Rattle.std.specs.Prelude.{◌≡◌, List}
use Rattle.um_syntax.specs.declared.token.Token.{Token}
use Rattle.um_reader.specs.Machine.{reached}
use Rattle.um_parse.specs.declared.prefix.Prefix.{Prefix}
use Rattle.um_parse.specs.ProgramLeast.{machine_of_programs}
use Rattle.um_parse.specs.ReaderStates.{program_state}

-- these tokens were read
abbrev pub HasRead : Prefix → List Token → Type 0
HasRead prefix tokens = program_state prefix.reader ≡ reached machine_of_programs tokens
