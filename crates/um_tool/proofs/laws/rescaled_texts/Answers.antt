use Rattle.um_tool.proofs.TwinsMeant.{rescaled_texts_are_rescaled, rescaled_texts_are_read}
use Rattle.um_tool.proofs.RescaledTypes.{rescaled_texts_have_the_schemes}
use Rattle.um_tool.proofs.laws.rescaled_texts.Goals as goal

pub returns-clause-numbers : goal.returns-clause-numbers
returns-clause-numbers c = rescaled_texts_are_rescaled

pub returns-clause-read : goal.returns-clause-read
returns-clause-read c = rescaled_texts_are_read c.rescaled_texts.ensures

pub returns-clause-types : goal.returns-clause-types
returns-clause-types c = rescaled_texts_have_the_schemes c.rescaled_texts.ensures c.rescaled_programs.ensures.both
