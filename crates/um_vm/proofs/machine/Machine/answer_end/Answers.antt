use Rattle.std.proofs.Common.{◌∙◌, ap}
use Rattle.um_machine.specs.Machine.{done}
use Rattle.um_vm.proofs.Shown.{shown_end}
use Rattle.um_vm.proofs.machine.Machine.answer_end.Goals as goal

pub returns-in-Ok-clause-shows : goal.returns-in-Ok-clause-shows
returns-in-Ok-clause-shows c = λ code o p h.
    let (q, e, k) = shown_end code c.args.self.now (done o) c.args.end p h in
    (e ∙ ap done (c.in-Ok.ensures q k), h)
