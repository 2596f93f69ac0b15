use Rattle.um_all_answers.proofs.ReadBack.{display_is_read_back}
use Rattle.um_all_answers.proofs.laws.display_is_read_back.Goals as goal

pub returns : goal.returns
returns c = display_is_read_back
