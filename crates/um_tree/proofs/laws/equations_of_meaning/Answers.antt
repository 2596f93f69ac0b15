use Rattle.um_tree.proofs.Equations.{equations_of_meaning, declared_calls_mean_their_body, other_calls_are_wrong, undeclared_calls_are_wrong}
use Rattle.um_tree.proofs.laws.equations_of_meaning.Goals as goal

pub returns : goal.returns
returns c = record {
  expressions = equations_of_meaning;
  calls = declared_calls_mean_their_body;
  others = other_calls_are_wrong;
  undeclared = undeclared_calls_are_wrong;
}
