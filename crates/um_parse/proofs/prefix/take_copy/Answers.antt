use Rattle.um_parse.specs.ReaderStates.{program_state}
use Rattle.um_parse.proofs.Prefixes.{low_before}
use Rattle.um_parse.proofs.prefix.take_copy.Goals as goal

pub take-taken-requires : goal.take-taken-requires
take-taken-requires c = record { low = low_before (program_state c.args.reader.now) c.args.token.now c.requires.goes c.requires.low }
