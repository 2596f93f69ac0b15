use Rattle.um_tree.proofs.TypingLaws.{typings_without_parameters}
use Rattle.um_tree.proofs.laws.typings_without_parameters.Goals as goal

pub returns : goal.returns
returns c = typings_without_parameters
