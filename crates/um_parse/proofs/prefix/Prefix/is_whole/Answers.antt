use Rattle.um_parse.specs.ReaderStates.{program_state}
use Rattle.um_parse.proofs.Prefixes.{is_whole}
use Rattle.um_parse.proofs.prefix.Prefix.is_whole.Goals as goal

pub returns : goal.returns
returns c tokens has = is_whole (program_state c.args.self.now.reader) tokens c.is_whole.result has c.is_whole.ensures
