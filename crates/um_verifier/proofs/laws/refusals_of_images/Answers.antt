use Rattle.um_verifier.proofs.OneRefusal.{refusals_are_one, verified_is_accepted}
use Rattle.um_verifier.proofs.laws.refusals_of_images.Goals as goal

pub returns-clause-once : goal.returns-clause-once
returns-clause-once c = refusals_are_one

pub returns-clause-accepted : goal.returns-clause-accepted
returns-clause-accepted c = verified_is_accepted
