use Rattle.um_tree.specs.RawTree.{program_syntax}
use Rattle.um_reader.proofs.Answers.{reads_all}
use Rattle.um_unit_texts.specs.UnitStops.{greatest_height}
use Rattle.um_parse.proofs.ProgramLow.{programs_read}
use Rattle.um_parse.proofs.program_parse.read_program.Goals as goal

pub returns : goal.returns
returns c = reads_all programs_read greatest_height c.args.tokens.now program_syntax c.read_all.result c.read_all.ensures
