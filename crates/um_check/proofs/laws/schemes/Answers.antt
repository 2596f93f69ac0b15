use Rattle.um_check.proofs.Returns.{valid_yes_is_exact, valid_yes_is_general}
use Rattle.um_check.proofs.laws.schemes.Goals as goal

pub returns : goal.returns
returns c = record { exact = valid_yes_is_exact; general = valid_yes_is_general }
