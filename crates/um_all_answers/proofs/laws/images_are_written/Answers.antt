use Rattle.um_all_answers.proofs.ImageAnswers.{each_text_has_image}
use Rattle.um_all_answers.proofs.laws.images_are_written.Goals as goal

pub returns : goal.returns
returns c = each_text_has_image c.answers_exist.ensures.stages c.shapes_of_programs.ensures.faultless c.image_of_generated_code.ensures.verified
