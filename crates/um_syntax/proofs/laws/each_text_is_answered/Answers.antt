use Rattle.um_syntax.proofs.Whole.{each_text}
use Rattle.um_syntax.proofs.laws.each_text_is_answered.Goals as goal

pub returns : goal.returns
returns c = each_text
