use Rattle.um_scale.proofs.RescaledTexts.{texts_are_unique}
use Rattle.um_scale.proofs.laws.rescaled_texts.Goals as goal

pub returns : goal.returns
returns c = texts_are_unique
