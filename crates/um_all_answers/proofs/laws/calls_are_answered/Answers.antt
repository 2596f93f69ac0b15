use Rattle.um_all_answers.proofs.Calls.{calls_have_answers, traces_have_answers, displays_have_answers, generated_programs_have_answers}
use Rattle.um_all_answers.proofs.Twins.{twins_have_answers}
use Rattle.um_all_answers.proofs.UnitWords.{unit_words_are_decided}
use Rattle.um_all_answers.proofs.Lines.{sources_have_answers}
use Rattle.um_all_answers.proofs.ImageCalls.{images_have_answers}
use Rattle.um_all_answers.proofs.laws.calls_are_answered.Goals as goal

pub returns-clause-calls : goal.returns-clause-calls
returns-clause-calls c = calls_have_answers c.each_text_is_answered.ensures c.answers_exist.ensures.stages c.shapes_of_programs.ensures.faultless c.runs_of_code.ensures.meant

pub returns-clause-traces : goal.returns-clause-traces
returns-clause-traces c =
    traces_have_answers c.each_text_is_answered.ensures c.answers_exist.ensures.stages c.shapes_of_programs.ensures.faultless c.runs_of_code.ensures.meant c.traces.ensures.exist

pub returns-clause-twins : goal.returns-clause-twins
returns-clause-twins c =
    twins_have_answers c.each_text_is_answered.ensures c.answers_exist.ensures.stages c.shapes_of_programs.ensures.faultless c.runs_of_code.ensures.meant c.rescaled_programs.ensures

pub returns-clause-unit_words : goal.returns-clause-unit_words
returns-clause-unit_words c = unit_words_are_decided c.each_text_is_answered.ensures

pub returns-clause-displays : goal.returns-clause-displays
returns-clause-displays c = displays_have_answers c.each_text_is_answered.ensures c.answers_exist.ensures.stages c.shapes_of_programs.ensures.faultless c.runs_of_code.ensures.meant

pub returns-clause-sources : goal.returns-clause-sources
returns-clause-sources c = sources_have_answers c.each_text_is_answered.ensures c.answers_exist.ensures.stages c.shapes_of_programs.ensures.faultless c.runs_of_code.ensures.meant

pub returns-clause-generated : goal.returns-clause-generated
returns-clause-generated c =
    generated_programs_have_answers c.each_text_is_answered.ensures c.answers_exist.ensures.stages c.shapes_of_programs.ensures.faultless c.runs_of_code.ensures.meant

pub returns-clause-images : goal.returns-clause-images
returns-clause-images c =
    images_have_answers c.each_text_is_answered.ensures c.bytes_of_images.ensures.answered c.images_are_answered.ensures c.runs_of_verified_images.ensures.end c.image_calls.ensures.shaped
