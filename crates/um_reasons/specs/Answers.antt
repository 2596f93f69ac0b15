-- What the calls of this crate answer.
-- Source: this project's own.
use Rattle.std.specs.Prelude.{◌≡◌, Bool, true, false, IsTrue, IsFalse, Option, Some, None}
use Rattle.um_units.specs.PowerMap.{PowerMap}
use Rattle.um_tree.specs.declared.types.Ty.{Ty}
use Rattle.um_tree.specs.TypeTree.{TypeTree, type_tree}
use Rattle.um_elim.specs.Application.{type_fits}
use Rattle.um_elim.specs.Elimination.{Elimination, Solved, NoSolution, Range, eliminate}
use Rattle.um_elim.specs.Solution.{Solution}
use Rattle.um_reasons.specs.declared.reasons.Reason.{Reason as Kept}
use Rattle.um_reasons.specs.declared.reasons.Reason.TheVariants as kept
use Rattle.um_reasons.specs.Reasons.{Reason, disagree, units_pass}

-- the reason that the code keeps
abbrev pub reason_tree : Kept → Reason
reason_tree (kept.Disagree first second factor) = disagree (type_tree first) (type_tree second) factor
reason_tree kept.UnitsPass = units_pass

-- ---- the code's: solving rows

abbrev pub IsUnsolved : Elimination → Type 0
IsUnsolved (Solved units) = ⊥
IsUnsolved NoSolution = Unit {0}
IsUnsolved Range = Unit {0}

abbrev pub IsSolving : Elimination → Option Solution → Type 0
IsSolving e (Some s) = (e ≡ Solved s.units) × (s.spent ≡ false)
IsSolving e None = IsUnsolved e

-- the row is solved with those before, or it isn't
abbrev pub IsJoined : Solution → PowerMap → Solution → Bool → Type 0
IsJoined old row new true = (eliminate old.units row ≡ Solved new.units) × (new.spent ≡ false)
IsJoined old row new false = IsUnsolved (eliminate old.units row)

-- the type is this one, which is in range, or it isn't
abbrev pub IsApplied : TypeTree → Option Ty → Type 0
IsApplied t (Some ty) = (type_tree ty ≡ t) × IsTrue (type_fits t)
IsApplied t None = IsFalse (type_fits t)
