use Rattle.um_infer.proofs.AnswerLaws.{inferred_answers_are_right}
use Rattle.um_infer.proofs.laws.answers.Goals as goal

pub returns : goal.returns
returns c = inferred_answers_are_right
