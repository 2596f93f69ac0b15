use Rattle.std.proofs.Common.{◌≡◌, ℕ, List, subst}
use Rattle.std.specs.Prelude.{Option}
use Rattle.um_units.specs.PowerMap.{PowerMap}
use Rattle.um_tree.specs.RawTree.{unit_syntax}
use Rattle.um_measures.specs.Known.{short_unit, measure_unit}
use Rattle.um_names.specs.Tables.{known_of}
use Rattle.um_measures.specs.UnitNames.{unknown_in}
use Rattle.um_names.proofs.known.Tables.unknown.Goals as goal

pub returns : goal.returns
returns c =
    let same : short_unit c.args.self.now.measures ≡ measure_unit (known_of c.args.self.now) = λ i x. c.requires.measures x i in
    subst (λ (m : List ℕ → Option PowerMap). c.first_unknown.result ≡ unknown_in m c.args.variables.now (unit_syntax c.args.raw.now)) same c.first_unknown.ensures
