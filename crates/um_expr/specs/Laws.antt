-- What holds of expressions and of their reader, by the grammar alone.
-- Source: the stop is the end of the longest viable prefix, as in Knuth, On the Translation of Languages from Left to
-- Right.
use Rattle.um_reader.specs.Readers.{ReadsTexts}
use Rattle.um_unit_texts.specs.UnitStops.{greatest_height}
use Rattle.um_operands.specs.ExprHeights.{whole_expr_height}
use Rattle.um_expr.specs.ExprGrammar.{IsExpr}
use Rattle.um_expr.specs.ExprMachine.{machine_of_expressions}

abbrev pub ExprReaderReads : Type 0
ExprReaderReads = ReadsTexts machine_of_expressions IsExpr whole_expr_height greatest_height
