use Rattle.um_gen.proofs.EndsAsMeant.{code_ends_as_meant, outcomes_are_reached}
use Rattle.um_gen.proofs.laws.runs_of_code.Goals as goal

pub returns-clause-meant : goal.returns-clause-meant
returns-clause-meant c = code_ends_as_meant

pub returns-clause-reached : goal.returns-clause-reached
returns-clause-reached c = outcomes_are_reached
