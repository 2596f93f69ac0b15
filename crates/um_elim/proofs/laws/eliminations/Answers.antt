use Rattle.um_elim.proofs.FollowedSteps.{eliminate_treated, eliminate_refused}
use Rattle.um_elim.proofs.laws.eliminations.Goals as goal

pub returns : goal.returns
returns c = record { solved = eliminate_treated; refused = eliminate_refused }
