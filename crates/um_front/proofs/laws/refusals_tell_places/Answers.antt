use Rattle.um_front.proofs.RefusalPlaces.{refusals_tell_places}
use Rattle.um_front.proofs.laws.refusals_tell_places.Goals as goal

pub returns : goal.returns
returns c = refusals_tell_places
