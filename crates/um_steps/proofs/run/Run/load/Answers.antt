use Rattle.std.proofs.Common.{◌+◌, ap, sym}
use Rattle.um_machine.specs.Stack.{on_found}
use Rattle.um_machine.specs.Machine.{stuck, pushes}
use Rattle.um_steps.specs.Going.{state_of}
use Rattle.um_words.proofs.Taken.{denote_at, nothing_at}
use Rattle.um_words.proofs.Settled.{value_held}
use Rattle.um_steps.proofs.Acted.{same_step}
use Rattle.um_steps.proofs.run.Run.load.Goals as goal

pub push-requires-clause-value : goal.push-requires-clause-value
push-requires-clause-value c =
    let m = c.args.self.now in
    value_held m.stack (m.running.base + c.args.k) c.in-Some.word (sym c.in-Some.ensures)

pub returns-in-Some-clause-step : goal.returns-in-Some-clause-step
returns-in-Some-clause-step c = λ code vs h.
    let m = c.args.self.now in
    let (v, e, d) = denote_at m.stack.store.cells.items (m.running.base + c.args.k) c.in-Some.word m.stack.words.items vs h.1 (sym c.in-Some.ensures) in
    same_step code c.push.new.self _ (pushes code (state_of m vs) vs v) c.push.result (ap (λ o. on_found o stuck (pushes code (state_of m vs) vs)) e) (c.push.ensures.step code vs v h d)

pub returns-in-None-clause-step : goal.returns-in-None-clause-step
returns-in-None-clause-step c = λ code vs h.
    let m = c.args.self.now in
    ap (λ o. on_found o stuck (pushes code (state_of m vs) vs)) (nothing_at m.stack.store.cells.items (m.running.base + c.args.k) m.stack.words.items vs h.1 (sym c.in-None.ensures))
