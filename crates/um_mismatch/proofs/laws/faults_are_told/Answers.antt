use Rattle.um_mismatch.proofs.FaultsTold.{faults_are_told}
use Rattle.um_mismatch.proofs.laws.faults_are_told.Goals as goal

pub returns : goal.returns
returns c = faults_are_told
