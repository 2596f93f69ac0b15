use Rattle.std.proofs.Common.{Some, None, ap}
use Rattle.um_machine.specs.Machine.{enters}
use Rattle.um_steps.specs.Going.{state_of}
use Rattle.um_steps.proofs.Acted.{entry_of_run, same_step}
use Rattle.um_steps.proofs.run.Run.call.Goals as goal

pub returns-in-Some-clause-step : goal.returns-in-Some-clause-step
returns-in-Some-clause-step c = λ code vs h.
    let m = c.args.self.now in
    let found = entry_of_run code m h.0 c.args.f (Some c.in-Some.entry) c.in-Some.ensures.item in
    same_step code c.call_entry.new.self _ (enters code (state_of m vs) c.args.f (Some c.in-Some.entry)) c.call_entry.result (ap (enters code (state_of m vs) c.args.f) found) (c.call_entry.ensures.step code vs h)

pub returns-in-None-clause-step : goal.returns-in-None-clause-step
returns-in-None-clause-step c = λ code vs h.
    let m = c.args.self.now in
    ap (enters code (state_of m vs) c.args.f) (entry_of_run code m h.0 c.args.f None c.in-None.ensures.item)
