use Rattle.um_parse.proofs.Cut.{declarations_are_cut}
use Rattle.um_parse.proofs.laws.declarations_are_cut.Goals as goal

pub returns : goal.returns
returns c = declarations_are_cut
