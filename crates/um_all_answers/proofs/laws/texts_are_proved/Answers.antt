use Rattle.um_all_answers.proofs.ProofAnswers.{each_text_is_proved}
use Rattle.um_all_answers.proofs.laws.texts_are_proved.Goals as goal

pub returns : goal.returns
returns c = each_text_is_proved c.answers_exist.ensures.stages c.shapes_of_programs.ensures.faultless c.stops.ensures.slots c.stops.ensures.range
