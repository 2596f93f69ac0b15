use Rattle.um_vm.proofs.Calls.{counted_once}
use Rattle.um_vm.proofs.laws.counted_calls.Goals as goal

pub returns : goal.returns
returns c = counted_once
