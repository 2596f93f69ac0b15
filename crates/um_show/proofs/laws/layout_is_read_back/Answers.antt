use Rattle.um_show.proofs.ReadBack.{layout_is_read_back}
use Rattle.um_show.proofs.laws.layout_is_read_back.Goals as goal

pub returns : goal.returns
returns c = layout_is_read_back
