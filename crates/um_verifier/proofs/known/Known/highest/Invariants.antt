use Rattle.std.proofs.Common.{◌≡◌, drop}
use Rattle.um_stacks.specs.FlatShapes.{flat_shapes}
use Rattle.um_verifier.specs.KnownImages.{known_heights, highest}
use Rattle.um_verifier.proofs.known.Known.highest.Given as goal

abbrev pub invariant-loop-i : goal.invariant-loop-i
invariant-loop-i l = l.top ≡ highest (known_heights l.self) (flat_shapes (drop l.i l.shapes))
