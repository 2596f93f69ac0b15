use Rattle.um_machine.specs.Machine.{next, step}
use Rattle.um_vm.proofs.machine.Machine.step.Goals as goal

pub returns-in-Ok-clause-refines : goal.returns-in-Ok-clause-refines
returns-in-Ok-clause-refines c = λ code r h. c.answer.ensures.shows code (next r (step code)) (c.in-Ok.ensures.refines code r h)
