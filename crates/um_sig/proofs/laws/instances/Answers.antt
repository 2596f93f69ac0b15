use Rattle.um_sig.proofs.InstanceLaws.{answers_say_what_instances_are}
use Rattle.um_sig.proofs.laws.instances.Goals as goal

pub returns : goal.returns
returns c = answers_say_what_instances_are
