use Rattle.um_reader.proofs.Readers.{reads_texts}
use Rattle.um_unit_texts.specs.UnitStops.{greatest_height}
use Rattle.um_types.proofs.SignatureLaws.{signatures_read}
use Rattle.um_types.proofs.laws.signature_reader_reads.Goals as goal

pub returns : goal.returns
returns c = reads_texts signatures_read greatest_height
