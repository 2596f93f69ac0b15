use Rattle.um_scaling.proofs.FreeZeroLaws.{free_zeros, free_zeros_of_calls}
use Rattle.um_scaling.proofs.laws.free_zeros.Goals as goal

pub returns : goal.returns
returns c = record { results = free_zeros; calls = free_zeros_of_calls }
