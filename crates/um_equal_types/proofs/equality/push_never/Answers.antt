use Rattle.std.proofs.Common.{rules}
use Rattle.um_equal_types.proofs.PushLaws.{never_in_range}
use Rattle.um_equal_types.proofs.equality.push_never.Goals as goal

pub returns : goal.returns
returns c = (never_in_range c.args.at, search rules)
