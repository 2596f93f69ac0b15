use Rattle.um_tree.proofs.TypingLaws.{zero_has_every_unit, number_has_its_unit}
use Rattle.um_tree.proofs.laws.units_of_literals.Goals as goal

pub returns : goal.returns
returns c = record { zero = zero_has_every_unit; written = number_has_its_unit }
