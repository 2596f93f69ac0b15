use Rattle.um_tidy.proofs.LineMargins.{no_margin}
use Rattle.um_tidy.proofs.margin.no_margin.Goals as goal

pub returns-clause-margin : goal.returns-clause-margin
returns-clause-margin c = no_margin c.args.gap.now c.args.at c.requires
