use Rattle.std.proofs.Common.{◌+◌, arith}
use Rattle.um_steps.specs.Frames.{bounds}
use Rattle.um_steps.proofs.Acted.{arrives_within, arrives_nowhere, past_entry}
use Rattle.um_steps.proofs.run.Run.go_on.Goals as goal

pub returns-then-next-self-clause-step : goal.returns-then-next-self-clause-step
returns-then-next-self-clause-step c = λ code vs ws h.
    let m = c.args.self.now in
    arrives_nowhere code m h.0 vs ws (m.at + 1) (past_entry m.ops.now (bounds m.running) (m.at + 1) (omega (arith, c.requires.there.0)) (omega arith))

pub returns-clause-step : goal.returns-clause-step
returns-clause-step c = λ code vs ws h.
    let m = c.args.self.now in
    (ws, h, arrives_within code m h.0 vs ws (m.at + 1) (omega (arith, c.requires.there.0)) (omega arith))
