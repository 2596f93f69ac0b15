use Rattle.um_sig.proofs.UniqueAnswers.{answers_are_unique}
use Rattle.um_sig.proofs.laws.answers.Goals as goal

pub returns : goal.returns
returns c = answers_are_unique
