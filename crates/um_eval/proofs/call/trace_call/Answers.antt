use Rattle.std.proofs.Common.{map}
use Rattle.um_tree.specs.ProgramTree.{function_tree}
use Rattle.um_eval.proofs.ReadOff.{unpaid_has_none}
use Rattle.um_eval.proofs.call.trace_call.Goals as goal

pub returns-then-budget-eq0 : goal.returns-then-budget-eq0
returns-then-budget-eq0 c = λ vs d. unpaid_has_none (map function_tree c.args.functions.now) c.args.f vs c.args.budget c.if-budget-eq0.true
