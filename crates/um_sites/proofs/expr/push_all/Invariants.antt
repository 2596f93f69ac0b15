use Rattle.std.proofs.Common.{◌≡◌, ◌++◌, take}
use Rattle.um_sites.proofs.expr.push_all.Given as goal

abbrev pub invariant-loop-named : goal.invariant-loop-named
invariant-loop-named l = l.names.items ≡ l.initial.names.items ++ take l.named-index l.more
