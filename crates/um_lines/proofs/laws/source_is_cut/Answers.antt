use Rattle.um_lines.proofs.CutSources.{source_is_cut}
use Rattle.um_lines.proofs.laws.source_is_cut.Goals as goal

pub returns : goal.returns
returns c = source_is_cut
