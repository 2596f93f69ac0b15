use Rattle.std.proofs.Common.{length}
use Rattle.um_equal_types.proofs.equality.+types_against.Given as goal

abbrev pub decreases-types_against : goal.decreases-types_against
decreases-types_against l = length l.left.now
