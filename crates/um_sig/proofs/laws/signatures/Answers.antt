use Rattle.um_sig.proofs.SignaturesIn.{formed_signatures_are_over_their_variables}
use Rattle.um_sig.proofs.laws.signatures.Goals as goal

pub returns : goal.returns
returns c = formed_signatures_are_over_their_variables
