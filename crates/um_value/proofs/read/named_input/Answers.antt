use Rattle.std.proofs.Common.{◌≡◌, ℕ, List, Option, subst}
use Rattle.um_units.specs.PowerMap.{PowerMap}
use Rattle.um_measures.specs.Known.{short_unit, measure_unit}
use Rattle.um_value.specs.KnownNames.{known_in}
use Rattle.um_value.specs.ValueSyntax.{value_syntax}
use Rattle.um_value.specs.ReadingParts.{IsNamed}
use Rattle.um_value.proofs.ValueParts.{same_measures}
use Rattle.um_value.proofs.read.named_input.Goals as goal

pub returns : goal.returns
returns c =
    let known = c.args.known.now in
    let same : short_unit known.measures.now ≡ measure_unit (known_in known) = same_measures (short_unit known.measures.now) (measure_unit (known_in known)) known.named in
    subst (λ (m : List ℕ → Option PowerMap). IsNamed m (value_syntax c.args.raw.now) c.checked_input.result) same c.checked_input.ensures
