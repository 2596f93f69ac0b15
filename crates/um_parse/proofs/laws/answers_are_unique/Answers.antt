use Rattle.um_parse.proofs.ProgramExact.{one_answer}
use Rattle.um_parse.proofs.laws.answers_are_unique.Goals as goal

pub returns : goal.returns
returns c = one_answer
