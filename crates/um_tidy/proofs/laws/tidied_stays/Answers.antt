use Rattle.um_tidy.proofs.TidiedAgain.{tidied_stays}
use Rattle.um_tidy.proofs.laws.tidied_stays.Goals as goal

pub returns : goal.returns
returns c = tidied_stays
