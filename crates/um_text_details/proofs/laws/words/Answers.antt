use Rattle.um_text_details.proofs.WordLaws.{words_are_told, expected_words_are_unique}
use Rattle.um_text_details.proofs.laws.words.Goals as goal

pub returns : goal.returns
returns c = record { told = words_are_told; unique = expected_words_are_unique }
