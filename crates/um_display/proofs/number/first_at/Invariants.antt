use Rattle.std.proofs.Common.{◌≡◌, drop}
use Rattle.um_display.specs.DisplayText.{first_at}
use Rattle.um_display.proofs.number.first_at.Given as goal

abbrev pub invariant-loop-one : goal.invariant-loop-one
invariant-loop-one l = first_at l.unit (drop l.one-index l.units) ≡ first_at l.unit l.units
