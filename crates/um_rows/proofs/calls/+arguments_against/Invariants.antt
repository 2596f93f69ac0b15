use Rattle.std.proofs.Common.{length}
use Rattle.um_rows.proofs.calls.+arguments_against.Given as goal

abbrev pub decreases-arguments_against : goal.decreases-arguments_against
decreases-arguments_against l = length l.params.now
