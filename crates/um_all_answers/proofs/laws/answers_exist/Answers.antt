use Rattle.um_all_answers.proofs.Texts.{each_is_read_or_refused}
use Rattle.um_all_answers.proofs.Answers.{each_has_stages, each_has_answers, each_is_rescaled}
use Rattle.um_all_answers.proofs.Conforming.{each_is_conformed}
use Rattle.um_all_answers.proofs.laws.answers_exist.Goals as goal

pub returns-clause-bytes : goal.returns-clause-bytes
returns-clause-bytes c = each_is_read_or_refused c.each_text_is_answered.ensures c.each_list_is_answered.ensures.answered

pub returns-clause-stages : goal.returns-clause-stages
returns-clause-stages c =
    each_has_stages c.each_text_is_answered.ensures c.each_list_is_answered.ensures.answered c.stops.ensures.slots c.stops.ensures.range c.stops.ensures.units c.stops.ensures.not_general

pub returns-clause-commands : goal.returns-clause-commands
returns-clause-commands c =
    each_has_answers c.each_text_is_answered.ensures c.each_list_is_answered.ensures.answered c.stops.ensures.slots c.stops.ensures.range c.stops.ensures.units c.stops.ensures.not_general

pub returns-clause-rescaled : goal.returns-clause-rescaled
returns-clause-rescaled c =
    each_is_rescaled c.each_text_is_answered.ensures c.each_list_is_answered.ensures.answered c.stops.ensures.slots c.stops.ensures.range c.stops.ensures.units c.stops.ensures.not_general

pub returns-clause-conformed : goal.returns-clause-conformed
returns-clause-conformed c =
    each_is_conformed c.each_text_is_answered.ensures c.each_list_is_answered.ensures.answered c.stops.ensures.slots c.stops.ensures.range c.stops.ensures.units c.stops.ensures.not_general
