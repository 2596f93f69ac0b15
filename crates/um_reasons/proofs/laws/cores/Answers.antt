use Rattle.um_reasons.proofs.CoreLemmas.{cores_are_smallest, cut_cores_are_solvable, cores_are_unique}
use Rattle.um_reasons.proofs.laws.cores.Goals as goal

pub returns : goal.returns
returns c = record { smallest = cores_are_smallest; cut_off = cut_cores_are_solvable; unique = cores_are_unique }
