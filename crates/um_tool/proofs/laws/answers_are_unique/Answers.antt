use Rattle.um_sig.proofs.UniqueReadings.{readings_are_unique}
use Rattle.um_tool.proofs.UniqueAnswers.{answers_are_one}
use Rattle.um_tool.proofs.PrintedCertificates.{proofs_are_one}
use Rattle.um_tool.proofs.laws.answers_are_unique.Goals as goal

pub returns-clause-answers : goal.returns-clause-answers
returns-clause-answers c = answers_are_one c.answers_are_unique.ensures readings_are_unique c.answers_of_images.ensures.unique c.traces.ensures.one

pub returns-clause-proofs : goal.returns-clause-proofs
returns-clause-proofs c = proofs_are_one c.answers_are_unique.ensures
