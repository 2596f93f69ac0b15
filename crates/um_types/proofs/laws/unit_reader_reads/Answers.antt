use Rattle.um_reader.proofs.Readers.{reads_texts}
use Rattle.um_unit_texts.specs.UnitStops.{greatest_height}
use Rattle.um_types.proofs.ReaderLaws.{units_read}
use Rattle.um_types.proofs.laws.unit_reader_reads.Goals as goal

pub returns : goal.returns
returns c = reads_texts units_read greatest_height
