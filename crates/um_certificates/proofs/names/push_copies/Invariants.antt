use Rattle.std.proofs.Common.{◌≡◌, ◌++◌, take}
use Rattle.um_certificates.proofs.names.push_copies.Given as goal

abbrev pub invariant-loop-name : goal.invariant-loop-name
invariant-loop-name l = l.items.items ≡ l.initial.items.items ++ take l.name-index l.names
