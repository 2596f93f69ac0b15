use Rattle.um_rescaled.proofs.RescaledPrograms.{numbers_unsigned, programs_rescaled}
use Rattle.um_rescaled.proofs.laws.rescaled_numbers.Goals as goal

pub returns-clause-unsigned : goal.returns-clause-unsigned
returns-clause-unsigned c = numbers_unsigned

pub returns-clause-read : goal.returns-clause-read
returns-clause-read c = programs_rescaled
