use Rattle.um_units.proofs.AtomOrder.{cmp_less}
use Rattle.um_units.proofs.kept.comes_before.Goals as goal

pub returns-in-Less : goal.returns-in-Less
returns-in-Less c = λ h. cmp_less c.args.first c.args.second c.cmp.result c.cmp.ensures c.in-Less.is
