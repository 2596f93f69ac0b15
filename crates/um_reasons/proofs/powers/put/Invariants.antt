use Rattle.std.proofs.Common.{◌≡◌, take}
use Rattle.um_units.specs.PowerMap.{product, images, nth}
use Rattle.um_wide.specs.Room.{IsNarrow}
use Rattle.um_reasons.proofs.powers.put.Given as goal

abbrev pub invariant-loop-term : goal.invariant-loop-term
invariant-loop-term l = record {
  exact : l.made ≡ product (images (nth l.units) (take l.term-index l.row.terms));
  narrow : IsNarrow l.made;
}
