use Rattle.std.proofs.Common.{Ok, take, drop}
use Rattle.um_tree.specs.ValueTree.{list_value, values_in_order}
use Rattle.um_machine.specs.Machine.{pushes}
use Rattle.um_steps.specs.Going.{state_of}
use Rattle.um_steps.proofs.Acted.{some_taken, some_missing, same_step}
use Rattle.um_steps.proofs.run.Run.make_list.Goals as goal

pub returns-in-Some-clause-step : goal.returns-in-Some-clause-step
returns-in-Some-clause-step c = λ code vs h.
    let m = c.args.self.now in
    let value = list_value (values_in_order (drop c.in-Some.at vs)) in
    let e = some_taken m vs h.1 c.args.n (λ low taken. pushes code (state_of m vs) low (list_value (values_in_order taken))) c.in-Some.at c.in-Some.ensures.0 c.in-Some.ensures.1 in
    same_step code c.settle.new.self _ (pushes code (state_of m vs) (take c.in-Some.at vs) value) c.settle.result e
    (c.settle.ensures.step code vs (take c.in-Some.at vs) (Ok value) h.0 (c.make_list-done.ensures.value vs h.1))

pub returns-in-None-clause-step : goal.returns-in-None-clause-step
returns-in-None-clause-step c = λ code vs h.
    let m = c.args.self.now in
    some_missing m vs h.1 c.args.n (λ low taken. pushes code (state_of m vs) low (list_value (values_in_order taken))) c.in-None.ensures
