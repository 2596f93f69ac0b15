use Rattle.um_parse.proofs.EachList.{each_list_is_answered, programs_are_decided}
use Rattle.um_parse.proofs.laws.each_list_is_answered.Goals as goal

pub returns-clause-answered : goal.returns-clause-answered
returns-clause-answered c = each_list_is_answered

pub returns-clause-decided : goal.returns-clause-decided
returns-clause-decided c = programs_are_decided
