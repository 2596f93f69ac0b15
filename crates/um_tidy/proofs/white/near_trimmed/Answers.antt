use Rattle.std.proofs.Common.{refl}
use Rattle.um_tidy.proofs.Whites.{near_trimmed_is}
use Rattle.um_tidy.proofs.white.near_trimmed.Goals as goal

pub returns-clause-within : goal.returns-clause-within
returns-clause-within c = (near_trimmed_is c.args.bytes.now c.args.at _ c.others.result c.requires c.others.ensures refl).within

pub returns-clause-passed : goal.returns-clause-passed
returns-clause-passed c = (near_trimmed_is c.args.bytes.now c.args.at _ c.others.result c.requires c.others.ensures refl).passed

pub returns-clause-ended : goal.returns-clause-ended
returns-clause-ended c = (near_trimmed_is c.args.bytes.now c.args.at _ c.others.result c.requires c.others.ensures refl).ended
