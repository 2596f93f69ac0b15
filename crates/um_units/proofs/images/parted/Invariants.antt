use Rattle.std.proofs.Common.{◌≡◌, true, take}
use Rattle.um_units.specs.Variables.{variables_below}
use Rattle.um_units.proofs.images.parted.Given as goal

abbrev pub invariant-loop-i : goal.invariant-loop-i
invariant-loop-i l = variables_below 0 (take l.i l.terms) ≡ true
