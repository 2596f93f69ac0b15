use Rattle.std.proofs.Common.{ℕ, ◌+◌, ◌∙◌, ap, length, arith}
use Rattle.um_machine.specs.Stack.{on_found}
use Rattle.um_machine.specs.Machine.{stuck, op_at, arrive, spends, begun}
use Rattle.um_steps.specs.Going.{state_of}
use Rattle.um_steps.proofs.Acted.{some_taken, some_missing, values_left, same_step}
use Rattle.um_steps.proofs.run.Run.call_entry.Goals as goal

pub returns-in-Some-clause-step : goal.returns-in-Some-clause-step
returns-in-Some-clause-step c = λ code vs h.
    let m = c.args.self.now in
    let go = λ (base : ℕ). spends m.budget (λ b. on_found (op_at code m.running.function (m.at + 1)) stuck (λ i. arrive code (begun (state_of m vs) c.args.f c.args.entry base b))) in
    let e = some_taken m vs h.1 c.args.entry.params (λ low arguments. go (length low)) c.in-Some.base c.in-Some.ensures.0 c.in-Some.ensures.1 in
    same_step code c.enter.new.self _ (go c.in-Some.base) c.enter.result (e ∙ ap go (values_left m vs h.1 c.in-Some.base (omega (arith, c.in-Some.ensures.1)))) (c.enter.ensures.step code vs h)

pub returns-in-None-clause-step : goal.returns-in-None-clause-step
returns-in-None-clause-step c = λ code vs h.
    let m = c.args.self.now in
    some_missing m vs h.1 c.args.entry.params (λ low arguments. spends m.budget (λ b. on_found (op_at code m.running.function (m.at + 1)) stuck (λ i. arrive code (begun (state_of m vs) c.args.f c.args.entry (length low) b)))) c.in-None.ensures
