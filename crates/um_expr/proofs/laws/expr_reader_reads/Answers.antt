use Rattle.um_reader.proofs.Readers.{reads_texts}
use Rattle.um_unit_texts.specs.UnitStops.{greatest_height}
use Rattle.um_expr.proofs.ExprReading.{exprs_read}
use Rattle.um_expr.proofs.laws.expr_reader_reads.Goals as goal

pub returns : goal.returns
returns c = reads_texts exprs_read greatest_height
