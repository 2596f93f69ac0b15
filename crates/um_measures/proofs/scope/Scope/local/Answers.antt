use Rattle.std.proofs.Common.{◌<◌, length, sym, ap, arith}
use Rattle.um_measures.proofs.Scopes.{local_below}
use Rattle.um_measures.proofs.scope.Scope.local.Goals as goal

pub overflow_cast-result : goal.overflow_cast-result
overflow_cast-result c =
    let below : c.in-Some.k < length c.deref.result.now = local_below c.deref.result.now c.args.name.now c.in-Some.k (sym c.in-Some.ensures) in
    let same = ap length c.deref.ensures.value in
    omega (arith, below, same, c.self.invariant)
