use Rattle.std.proofs.Common.{ℕ, ◌+◌, ◌-◌, ◌∙◌, Option, Some, None, ap, refl, sym, get_or, arith}
use Rattle.std.proofs.lemmas.Option.{slice_get-get_or}
use Rattle.um_machine.specs.declared.op.Op.{Op}
use Rattle.um_machine.specs.declared.op.Op.TheVariants.{Ret}
use Rattle.um_machine.specs.declared.code.Code.{Code}
use Rattle.um_machine.specs.Stack.{on_found}
use Rattle.um_machine.specs.Machine.{going, stuck, op_at, arrive, begun}
use Rattle.um_steps.specs.declared.run.Frame.{Frame}
use Rattle.um_steps.specs.Frames.{bounds}
use Rattle.um_steps.specs.Going.{state_of, code_of}
use Rattle.um_steps.proofs.Acted.{end_of_run, op_of_run, within_entry, past_entry, frame_of_entry, arrives_at, arrives_past, spends_none, spends_one, same_step}
use Rattle.um_steps.proofs.run.Run.enter.Goals as goal

pub returns-then-self-eq0-clause-step : goal.returns-then-self-eq0-clause-step
returns-then-self-eq0-clause-step c = λ code vs h.
    spends_none c.args.self.now.budget _ (omega arith)

pub returns-then-back-self-clause-step : goal.returns-then-back-self-clause-step
returns-then-back-self-clause-step c = λ code vs h.
    let m = c.args.self.now in
    let go = λ (o : Option Op) (b : ℕ). on_found o stuck (λ i. arrive code (begun (state_of m vs) c.args.f c.args.entry c.args.base b)) in
    let from = c.requires.there.0 in
    spends_one m.budget (go (op_at code m.running.function (m.at + 1))) (omega arith)
    ∙ ap (λ o. go o (m.budget - 1)) (op_of_run code m h.0 (m.at + 1) None (past_entry m.ops.now (bounds m.running) (m.at + 1) (omega (arith, from)) (omega arith)))

pub returns-then-start-end-clause-step : goal.returns-then-start-end-clause-step
returns-then-start-end-clause-step c = λ code vs h.
    let m = c.args.self.now in
    let go = λ (o : Option Op) (b : ℕ). on_found o stuck (λ i. arrive code (begun (state_of m vs) c.args.f c.args.entry c.args.base b)) in
    let f : Frame = record { function = c.args.f; back = m.at + 1; base = c.args.base; start = c.args.entry.start; end = c.least-end.result } in
    let is = frame_of_entry m.ops.now m.entries.now f c.args.entry c.requires.found refl c.least-end.ensures in
    let from = c.requires.there.0 in
    let ends = end_of_run m in
    let s = begun (state_of m vs) c.args.f c.args.entry c.args.base (m.budget - 1) in
    spends_one m.budget (go (op_at code m.running.function (m.at + 1))) (omega arith)
    ∙ ap (λ o. go o (m.budget - 1)) (op_of_run code m h.0 (m.at + 1) (Some (get_or m.ops.now (m.at + 1) Ret)) (sym (within_entry m.ops.now (bounds m.running) (m.at + 1) (omega (arith, from)) (omega arith) ∙ slice_get-get_or m.ops.now (m.at + 1) Ret (omega (arith, ends)))))
    ∙ ap (λ (x : Code). arrive x s) (sym h.0) ∙ arrives_past (code_of m) f is s refl (omega arith) (omega arith)

pub begin-requires-clause-frame : goal.begin-requires-clause-frame
begin-requires-clause-frame c =
    let m = c.args.self.now in
    let f : Frame = record { function = c.args.f; back = m.at + 1; base = c.args.base; start = c.args.entry.start; end = c.least-end.result } in
    frame_of_entry m.ops.now m.entries.now f c.args.entry c.requires.found refl c.least-end.ensures

pub returns-clause-step : goal.returns-clause-step
returns-clause-step c = λ code vs h.
    let m = c.args.self.now in
    let go = λ (o : Option Op) (b : ℕ). on_found o stuck (λ i. arrive code (begun (state_of m vs) c.args.f c.args.entry c.args.base b)) in
    let f : Frame = record { function = c.args.f; back = m.at + 1; base = c.args.base; start = c.args.entry.start; end = c.least-end.result } in
    let is = frame_of_entry m.ops.now m.entries.now f c.args.entry c.requires.found refl c.least-end.ensures in
    let from = c.requires.there.0 in
    let ends = end_of_run m in
    let s = begun (state_of m vs) c.args.f c.args.entry c.args.base (m.budget - 1) in
    let found =
    spends_one m.budget (go (op_at code m.running.function (m.at + 1))) (omega arith)
    ∙ ap (λ o. go o (m.budget - 1)) (op_of_run code m h.0 (m.at + 1) (Some (get_or m.ops.now (m.at + 1) Ret)) (sym (within_entry m.ops.now (bounds m.running) (m.at + 1) (omega (arith, from)) (omega arith) ∙ slice_get-get_or m.ops.now (m.at + 1) Ret (omega (arith, ends)))))
    ∙ ap (λ (x : Code). arrive x s) (sym h.0) ∙ arrives_at (code_of m) f is s refl (omega arith) (omega arith) in
    same_step code c.begin.new.self _ (going s) c.begin.result found (c.begin.ensures.step code vs h)
