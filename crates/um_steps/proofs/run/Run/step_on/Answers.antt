use Rattle.std.proofs.Common.{◌∙◌, sym, arith}
use Rattle.um_machine.specs.Machine.{act}
use Rattle.um_steps.specs.Frames.{bounds}
use Rattle.um_steps.specs.Going.{state_of}
use Rattle.um_steps.proofs.Acted.{acts, end_of_run, same_step, within_entry}
use Rattle.um_steps.proofs.run.Run.step_on.Goals as goal

pub item_at-op-requires : goal.item_at-op-requires
item_at-op-requires c =
    let (from, before) = c.requires.there in
    let ends = end_of_run c.args.self.now in
    omega (arith, before, ends)

pub returns-clause-step : goal.returns-clause-step
returns-clause-step c = λ code vs h.
    let m = c.args.self.now in
    let op = c.item_at-op.result.now in
    let (from, before) = c.requires.there in
    same_step code c.act.new.self _ (act code (state_of m vs) op) c.act.result (acts code m h.0 vs op (sym (within_entry m.ops.now (bounds m.running) m.at from before ∙ c.item_at-op.ensures))) (c.act.ensures.step code vs h)
