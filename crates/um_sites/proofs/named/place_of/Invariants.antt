use Rattle.std.proofs.Common.{◌≡◌, drop}
use Rattle.um_sites.specs.Spaces.{place_of}
use Rattle.um_sites.proofs.named.place_of.Given as goal

abbrev pub invariant-loop-named : goal.invariant-loop-named
invariant-loop-named l = place_of (drop l.named-index l.names) l.name ≡ place_of l.names l.name
