use Rattle.um_rescaled.proofs.BareDecls.{same_trees}
use Rattle.um_rescaled.proofs.laws.same_trees.Goals as goal

pub returns : goal.returns
returns c = same_trees
