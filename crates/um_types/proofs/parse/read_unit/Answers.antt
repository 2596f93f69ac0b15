use Rattle.um_tree.specs.RawTree.{unit_syntax}
use Rattle.um_reader.proofs.Answers.{reads_to}
use Rattle.um_unit_texts.specs.UnitStops.{greatest_height}
use Rattle.um_types.proofs.ReaderLaws.{units_read}
use Rattle.um_types.proofs.parse.read_unit.Goals as goal

pub returns : goal.returns
returns c = reads_to units_read greatest_height c.args.tokens.now unit_syntax c.read.result c.read.ensures
