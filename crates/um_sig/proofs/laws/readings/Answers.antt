use Rattle.um_sig.proofs.UniqueReadings.{readings_are_unique}
use Rattle.um_sig.proofs.laws.readings.Goals as goal

pub returns : goal.returns
returns c = readings_are_unique
