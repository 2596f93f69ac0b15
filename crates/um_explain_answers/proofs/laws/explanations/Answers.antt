use Rattle.um_explain_answers.proofs.Following.{explanations_follow_types}
use Rattle.um_explain_answers.proofs.ShortTexts.{explain_done_if_short}
use Rattle.um_explain_answers.proofs.laws.explanations.Goals as goal

pub returns : goal.returns
returns c = record { types = explanations_follow_types c.answers_are_unique.ensures; done = explain_done_if_short }
