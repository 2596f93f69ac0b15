use Rattle.std.proofs.Common.{length}
use Rattle.um_equal_types.proofs.equality.+push_quotients.Given as goal

abbrev pub decreases-push_quotients : goal.decreases-push_quotients
decreases-push_quotients l = length l.left.now
