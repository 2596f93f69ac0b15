use Rattle.std.proofs.Common.{Ok}
use Rattle.um_steps.proofs.run.Run.push.Goals as goal

pub returns-clause-step : goal.returns-clause-step
returns-clause-step c = λ code vs v h d. c.settle.ensures.step code vs vs (Ok v) h.0 (c.push-done.ensures.value vs v h.1 d)
