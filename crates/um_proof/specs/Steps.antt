-- The code's: what a slot comes back to.
-- Source: this project's own; no public clause rests on it.
use Rattle.std.specs.Prelude.{ℕ, ◌<◌, List, length, nat_abs}
use Rattle.um_units.specs.PowerMap.{PowerMap}
use Rattle.um_check.specs.Validity.{returned}
use Rattle.um_kept.specs.declared.stop.CertStop.{CertStop}
use Rattle.um_kept.specs.declared.stop.CertStop.TheVariants as stop
use Rattle.um_kept.specs.Formed.{IsPowerIn}

abbrev pub CarriesReturned : List PowerMap → List PowerMap → CertStop → Type 0
CarriesReturned solution back (stop.CertRange z) =
    (j : ℕ) × (j < length solution) × IsPowerIn z (returned solution back j) × (9223372036854775807 < nat_abs z)
CarriesReturned solution back stop.NoMemory = Unit {0}
