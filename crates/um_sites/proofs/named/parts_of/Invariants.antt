use Rattle.std.proofs.Common.{◌≡◌, drop}
use Rattle.um_sites.specs.Spaces.{parts_of}
use Rattle.um_sites.proofs.named.parts_of.Given as goal

abbrev pub invariant-loop-named : goal.invariant-loop-named
invariant-loop-named l = parts_of (drop l.named-index l.names) l.name ≡ parts_of l.names l.name
