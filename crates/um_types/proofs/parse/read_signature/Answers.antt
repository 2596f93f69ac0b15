use Rattle.um_tree.specs.RawTree.{type_syntaxes}
use Rattle.um_reader.proofs.Answers.{reads_all}
use Rattle.um_unit_texts.specs.UnitStops.{greatest_height}
use Rattle.um_types.proofs.SignatureLaws.{signatures_read}
use Rattle.um_types.proofs.parse.read_signature.Goals as goal

pub returns : goal.returns
returns c = reads_all signatures_read greatest_height c.args.tokens.now type_syntaxes c.read_all.result c.read_all.ensures
