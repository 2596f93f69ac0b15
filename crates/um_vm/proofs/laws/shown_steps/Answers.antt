use Rattle.um_vm.proofs.Shown.{one_shown}
use Rattle.um_vm.proofs.laws.shown_steps.Goals as goal

pub returns : goal.returns
returns c = one_shown
