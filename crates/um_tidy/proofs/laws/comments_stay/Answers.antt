use Rattle.um_tidy.proofs.CommentsAnew.{comments_stay}
use Rattle.um_tidy.proofs.laws.comments_stay.Goals as goal

pub returns : goal.returns
returns c = comments_stay
