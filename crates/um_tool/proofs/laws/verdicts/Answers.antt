use Rattle.um_tool.proofs.CallsMeant.{verdicts_say_what_typings_are}
use Rattle.um_tool.proofs.SignaturesJudged.{signatures_have_verdicts}
use Rattle.um_tool.proofs.laws.verdicts.Goals as goal

pub returns : goal.returns
returns c = record { typings = verdicts_say_what_typings_are; exact = signatures_have_verdicts }
