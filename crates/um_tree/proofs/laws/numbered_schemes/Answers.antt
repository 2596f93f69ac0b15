use Rattle.um_tree.proofs.Numbered.{numbered_below}
use Rattle.um_tree.proofs.laws.numbered_schemes.Goals as goal

pub returns : goal.returns
returns c = numbered_below
