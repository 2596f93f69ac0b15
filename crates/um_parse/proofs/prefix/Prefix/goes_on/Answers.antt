use Rattle.um_parse.specs.ReaderStates.{program_state}
use Rattle.um_parse.proofs.Prefixes.{goes_on}
use Rattle.um_parse.proofs.prefix.Prefix.goes_on.Goals as goal

pub returns : goal.returns
returns c tokens token has kind glued = goes_on (program_state c.args.self.now.reader) tokens token c.can_take.result has (c.can_take.ensures token kind glued)
