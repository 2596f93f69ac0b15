-- What holds of the texts that this crate reads and of its readers, by the grammar alone.
use Rattle.std.specs.Prelude.{List}
use Rattle.um_syntax.specs.declared.token.Token.{Token}
use Rattle.um_tree.specs.Heights.{unit_height}
use Rattle.um_reader.specs.Stops.{HasOneReading, HasOneAnswer}
use Rattle.um_reader.specs.Readers.{ReadsTexts}
use Rattle.um_unit_texts.specs.UnitStops.{greatest_height}
use Rattle.um_unit_texts.specs.UnitGrammar.{IsUnit}
use Rattle.um_types.specs.TypeGrammar.{IsNote, IsType}
use Rattle.um_types.specs.TypeHeights.{note_height, whole_height, all_height}
use Rattle.um_types.specs.SignatureGrammar.{IsSignature}
use Rattle.um_unit_texts.specs.UnitLeast.{machine_of_units}
use Rattle.um_types.specs.NoteMachine.{machine_of_notes}
use Rattle.um_types.specs.TypeMachine.{machine_of_types}
use Rattle.um_types.specs.SignatureMachine.{machine_of_signatures}

-- ---- no two answers of `parse_unit` and of `parse_types` stand together, memory aside

abbrev pub UnitAnswersExclude : Type 0
UnitAnswersExclude = (tokens : List Token) → HasOneReading IsUnit unit_height greatest_height tokens

abbrev pub SignatureAnswersExclude : Type 0
SignatureAnswersExclude = (tokens : List Token) → HasOneAnswer IsSignature all_height greatest_height tokens

-- ---- readers that take one token at a time

abbrev pub UnitReaderReads : Type 0
UnitReaderReads = ReadsTexts machine_of_units IsUnit unit_height greatest_height

abbrev pub NoteReaderReads : Type 0
NoteReaderReads = ReadsTexts machine_of_notes IsNote note_height greatest_height

abbrev pub TypeReaderReads : Type 0
TypeReaderReads = ReadsTexts machine_of_types IsType whole_height greatest_height

abbrev pub SignatureReaderReads : Type 0
SignatureReaderReads = ReadsTexts machine_of_signatures IsSignature all_height greatest_height
