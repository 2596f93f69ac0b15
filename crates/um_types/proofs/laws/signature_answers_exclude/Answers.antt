use Rattle.um_types.proofs.SignatureLaws.{signature_answers_exclude}
use Rattle.um_types.proofs.laws.signature_answers_exclude.Goals as goal

pub returns : goal.returns
returns c = signature_answers_exclude
