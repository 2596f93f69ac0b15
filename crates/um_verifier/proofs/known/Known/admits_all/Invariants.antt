use Rattle.std.proofs.Common.{◌≡◌, drop}
use Rattle.std.specs.List.{list_all}
use Rattle.um_stacks.specs.FlatShapes.{flat_shapes}
use Rattle.um_verifier.specs.KnownImages.{admits}
use Rattle.um_verifier.proofs.known.Known.admits_all.Given as goal

abbrev pub invariant-loop-i : goal.invariant-loop-i
invariant-loop-i l = list_all (admits l.self) (flat_shapes l.shapes) ≡ list_all (admits l.self) (flat_shapes (drop l.i l.shapes))
