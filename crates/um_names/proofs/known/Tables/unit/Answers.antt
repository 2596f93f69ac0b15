use Rattle.std.proofs.Common.{◌≡◌, ℕ, List, subst, Ok}
use Rattle.std.specs.Prelude.{Option, IfOk, IfErr}
use Rattle.um_units.specs.PowerMap.{PowerMap}
use Rattle.um_tree.specs.RawTree.{unit_syntax}
use Rattle.um_measures.specs.Known.{short_unit, measure_unit}
use Rattle.um_measures.specs.Stops.{IsFirst}
use Rattle.um_names.specs.Tables.{known_of}
use Rattle.um_measures.specs.UnitNames.{resolved_unit}
use Rattle.um_names.proofs.known.Tables.unit.Goals as goal

pub returns-clause-exact : goal.returns-clause-exact
returns-clause-exact c =
    let same : short_unit c.args.self.now.measures ≡ measure_unit (known_of c.args.self.now) = λ i x. c.requires.measures x i in
    subst (λ (m : List ℕ → Option PowerMap). IfOk c.resolved_unit.result (λ unit. resolved_unit m c.args.variables.now (unit_syntax c.args.raw.now) ≡ Ok unit)) same c.resolved_unit.ensures.exact

pub returns-clause-faults : goal.returns-clause-faults
returns-clause-faults c =
    let same : short_unit c.args.self.now.measures ≡ measure_unit (known_of c.args.self.now) = λ i x. c.requires.measures x i in
    subst (λ (m : List ℕ → Option PowerMap). IfErr c.resolved_unit.result (IsFirst (resolved_unit m c.args.variables.now (unit_syntax c.args.raw.now)))) same c.resolved_unit.ensures.faults
