use Rattle.std.proofs.Common.{◌≡◌, take}
use Rattle.um_reader.specs.Machine.{reached}
use Rattle.um_parse.specs.ProgramLeast.{machine_of_programs}
use Rattle.um_parse.specs.ReaderStates.{program_state}
use Rattle.um_parse.proofs.prefix.Prefix.read.Given as goal

abbrev pub invariant-loop-token : goal.invariant-loop-token
invariant-loop-token l = program_state l.reader ≡ reached machine_of_programs (take l.token-index l.tokens)
