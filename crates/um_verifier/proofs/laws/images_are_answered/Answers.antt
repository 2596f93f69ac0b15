use Rattle.um_verifier.proofs.DecidedAddresses.{images_are_answered}
use Rattle.um_verifier.proofs.laws.images_are_answered.Goals as goal

pub returns : goal.returns
returns c = images_are_answered
