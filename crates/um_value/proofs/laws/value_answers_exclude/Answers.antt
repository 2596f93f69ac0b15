use Rattle.um_reader.proofs.Readers.{unambiguous}
use Rattle.um_reader.proofs.Answers.{one_answer}
use Rattle.um_unit_texts.specs.UnitStops.{greatest_height}
use Rattle.um_value.specs.ValueGrammar.{IsValueText, value_height}
use Rattle.um_value.proofs.ValueLaws.{values_read}
use Rattle.um_value.proofs.laws.value_answers_exclude.Goals as goal

pub returns : goal.returns
returns c = λ p formed s is tokens. one_answer (IsValueText p.records s) value_height greatest_height tokens (unambiguous (values_read p formed s is))
