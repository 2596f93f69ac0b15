use Rattle.um_steps.proofs.Acted.{arrives, arrives_nowhere}
use Rattle.um_steps.proofs.run.Run.arrive.Goals as goal

pub returns-in-Some-clause-step : goal.returns-in-Some-clause-step
returns-in-Some-clause-step c = λ code vs ws h. (ws, h, arrives code c.args.self.now h.0 vs ws c.args.a c.in-Some.field-0 c.in-Some.ensures.op)

pub returns-in-None-clause-step : goal.returns-in-None-clause-step
returns-in-None-clause-step c = λ code vs ws h. arrives_nowhere code c.args.self.now h.0 vs ws c.args.a c.in-None.ensures.op
