use Rattle.um_front.proofs.NodePlaces.{nodes_have_places}
use Rattle.um_front.proofs.laws.nodes_have_places.Goals as goal

pub returns : goal.returns
returns c = nodes_have_places
