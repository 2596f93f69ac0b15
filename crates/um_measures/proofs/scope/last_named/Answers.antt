use Rattle.std.proofs.Common.{sym, ◌∙◌, arith}
use Rattle.um_measures.proofs.Scopes.{local_at_down, local_none_down}
use Rattle.um_measures.proofs.scope.last_named.Goals as goal

pub loop-k-preserved : goal.loop-k-preserved
loop-k-preserved c = local_none_down c.args.names.now c.args.name.now c.loop-k.k c.index-names-k.result (omega arith) (omega arith) c.index-names-k.is (sym c.binds.ensures ∙ c.if-binds.false) c.loop-k.invariant

pub returns-then-binds : goal.returns-then-binds
returns-then-binds c = sym (local_at_down c.args.names.now c.args.name.now c.loop-k.k c.index-names-k.result (omega arith) (omega arith) c.index-names-k.is (sym c.binds.ensures ∙ c.if-binds.true) c.loop-k.invariant)
