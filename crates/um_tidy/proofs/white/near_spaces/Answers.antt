use Rattle.um_tidy.proofs.Whites.{near_spaces_are}
use Rattle.um_tidy.proofs.white.near_spaces.Goals as goal

pub returns-clause-within : goal.returns-clause-within
returns-clause-within c = (near_spaces_are c.args.bytes.now c.args.at _ _ c.requires c.others.ensures c.first_set.ensures).within

pub returns-clause-passed : goal.returns-clause-passed
returns-clause-passed c = (near_spaces_are c.args.bytes.now c.args.at _ _ c.requires c.others.ensures c.first_set.ensures).passed

pub returns-clause-ended : goal.returns-clause-ended
returns-clause-ended c = (near_spaces_are c.args.bytes.now c.args.at _ _ c.requires c.others.ensures c.first_set.ensures).ended
