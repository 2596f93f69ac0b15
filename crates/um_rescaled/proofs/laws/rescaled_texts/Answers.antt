use Rattle.um_rescaled.proofs.RescaledTexts.{rescaled_texts_are_read}
use Rattle.um_rescaled.proofs.laws.rescaled_texts.Goals as goal

pub returns : goal.returns
returns c =
    rescaled_texts_are_read c.programs_are_unique.ensures c.respelled_numbers.ensures.programs c.rescaled_numbers.ensures.unsigned c.rescaled_numbers.ensures.read
