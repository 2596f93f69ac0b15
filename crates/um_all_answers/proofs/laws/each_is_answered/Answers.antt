use Rattle.um_all_answers.proofs.Explained.{each_is_explained}
use Rattle.um_all_answers.proofs.Orders.{each_is_answered}
use Rattle.um_all_answers.proofs.laws.each_is_answered.Goals as goal

pub returns : goal.returns
returns c =
    let texts = c.answers_exist.ensures in
    let calls = c.calls_are_answered.ensures in
    let explained =
    each_is_explained c.each_list_is_answered.ensures.decided texts.stages c.shapes_of_programs.ensures.faultless c.refusals_have_reasons.ensures.reasons c.stops.ensures.units c.stops.ensures.not_general
    in
    each_is_answered texts.commands explained texts.rescaled texts.conformed c.images_are_written.ensures c.texts_are_proved.ensures calls.calls calls.traces calls.twins calls.unit_words calls.displays calls.sources calls.generated calls.images
