use Rattle.um_front.proofs.WordPlaces.{arguments_tell_places, signatures_tell_places}
use Rattle.um_front.proofs.laws.word_refusals_tell_places.Goals as goal

pub returns-clause-arguments : goal.returns-clause-arguments
returns-clause-arguments c = arguments_tell_places

pub returns-clause-signatures : goal.returns-clause-signatures
returns-clause-signatures c = signatures_tell_places
