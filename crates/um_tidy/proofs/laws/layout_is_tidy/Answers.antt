use Rattle.um_tidy.proofs.LayoutTidy.{layout_is_tidy}
use Rattle.um_tidy.proofs.laws.layout_is_tidy.Goals as goal

pub returns : goal.returns
returns c = layout_is_tidy
