use Rattle.std.proofs.Common.{◌≡◌, drop}
use Rattle.std.specs.Prelude.{None}
use Rattle.um_measures.specs.Scopes.{local_of}
use Rattle.um_measures.proofs.scope.last_named.Given as goal

abbrev pub invariant-loop-k : goal.invariant-loop-k
invariant-loop-k l = local_of (drop l.k l.names) l.name ≡ None
