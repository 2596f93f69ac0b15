use Rattle.um_tree.specs.Heights.{unit_height}
use Rattle.um_reader.proofs.Readers.{unambiguous}
use Rattle.um_reader.proofs.Answers.{one_reading}
use Rattle.um_unit_texts.specs.UnitStops.{greatest_height}
use Rattle.um_unit_texts.specs.UnitGrammar.{IsUnit}
use Rattle.um_types.proofs.ReaderLaws.{units_read}
use Rattle.um_types.proofs.laws.unit_answers_exclude.Goals as goal

pub returns : goal.returns
returns c = λ tokens. one_reading IsUnit unit_height greatest_height tokens (unambiguous units_read)
