use Rattle.std.proofs.Common.{◌≡◌, false, take}
use Rattle.um_sites.specs.Spaces.{is_named}
use Rattle.um_sites.proofs.named.is_named.Given as goal

abbrev pub invariant-loop-named : goal.invariant-loop-named
invariant-loop-named l = is_named (take l.named-index l.names) l.name ≡ false
