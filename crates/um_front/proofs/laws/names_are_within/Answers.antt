use Rattle.um_front.proofs.NamesWithin.{names_within}
use Rattle.um_front.proofs.laws.names_are_within.Goals as goal

pub returns : goal.returns
returns c = names_within
