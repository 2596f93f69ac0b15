-- Unit texts of one name.
use Rattle.std.proofs.Common.{◌≡◌, ℕ, List, refl, sym, ap}
use Rattle.std.specs.Prelude.{Option, Some, None}
use Rattle.um_units.specs.PowerMap.{PowerMap}
use Rattle.um_tree.specs.RawTree.{measure_syntax, variable_syntax}
use Rattle.um_measures.specs.Known.{number_of}
use Rattle.um_measures.specs.UnitNames.{or_one, numbered_variable, variable_unit, resolved_unit}
use Rattle.um_measures.specs.SingleUnits.{known_unit}
use Rattle.um_measures.proofs.NameLists.{is_among-number}

pub measure_is : (m : List ℕ → Option PowerMap) (vars : List (List ℕ)) (at : ℕ) (x : List ℕ) → known_unit (m x) at ≡ resolved_unit m vars (measure_syntax at x)
measure_is m vars at x = by (m x) refl where
  by : (o : Option PowerMap) → m x ≡ o → known_unit o at ≡ resolved_unit m vars (measure_syntax at x)
  by None e = rw e refl
  by (Some u) e = rw e (ap (λ (o : Option PowerMap). known_unit (Some (or_one o)) at) (sym e))

pub variable_is : (m : List ℕ → Option PowerMap) (vars : List (List ℕ)) (at : ℕ) (x : List ℕ) → known_unit (variable_unit vars x) at ≡ resolved_unit m vars (variable_syntax at x)
variable_is m vars at x = by (number_of vars x) refl where
  by : (o : Option ℕ) → number_of vars x ≡ o → known_unit (numbered_variable o) at ≡ resolved_unit m vars (variable_syntax at x)
  by None e = rw (is_among-number x vars, e) refl
  by (Some k) e = rw (is_among-number x vars, e) (ap (λ (o : Option ℕ). known_unit (Some (or_one (numbered_variable o))) at) (sym e))
