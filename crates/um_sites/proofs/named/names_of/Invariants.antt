use Rattle.std.proofs.Common.{◌≡◌, take}
use Rattle.um_sites.specs.Spaces.{names_of}
use Rattle.um_sites.proofs.named.names_of.Given as goal

abbrev pub invariant-loop-named : goal.invariant-loop-named
invariant-loop-named l = l.copies.items ≡ names_of (take l.named-index l.names)
