use Rattle.um_display.proofs.UniqueParts.{one_word}
use Rattle.um_display.proofs.laws.unit_words_are_unique.Goals as goal

pub returns : goal.returns
returns c = one_word
