use Rattle.std.proofs.Common.{◌≡◌, ◌+◌, ℕ, ◌<◌}
use Rattle.um_units.specs.declared.Atom.TheVariants.{Base}
use Rattle.um_units.specs.PowerMap.{atom, nth}
use Rattle.um_check.proofs.general.are_rigid.Given as goal

abbrev pub invariant-loop-k : goal.invariant-loop-k
invariant-loop-k l = (j : ℕ) → j < l.k → nth l.units j ≡ atom (Base (l.bases + j))
