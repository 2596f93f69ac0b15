use Rattle.std.proofs.Common.{◌≤◌, ap, sym, subst, length, take, drop}
use Rattle.um_eval.proofs.scope.Scope.close.Goals as goal

pub returns-clause-own : goal.returns-clause-own
returns-clause-own c = ap (drop c.args.base) c.truncate.ensures.items

pub returns-clause-callers : goal.returns-clause-callers
returns-clause-callers c = ap (take c.args.base) c.truncate.ensures.items

pub invariant_of-self : goal.invariant_of-self
invariant_of-self c = record { callers = subst (λ ws. c.args.base ≤ length ws) (sym c.truncate.ensures.items) c.requires }
