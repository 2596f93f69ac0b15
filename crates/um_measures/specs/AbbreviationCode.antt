-- Mirrors the code: how abbreviations are stored as data, by which a proof tells them apart.
-- Source: this project's own.
use Rattle.std.specs.Prelude.{ℕ, List}
use Rattle.std.specs.Coded.{Coded, code_by, coded×, coded_ℕ, coded_list}
use Rattle.std.proofs.Common.{refl}
use Rattle.um_units.specs.PowerMap.{PowerMap}
use Rattle.um_units.specs.PowerMapCode.{power_map_code}
use Rattle.um_measures.specs.declared.abbreviation.Abbreviation.{Abbreviation}

abbrev pub abbreviation_code : Coded Abbreviation
abbreviation_code =
    code_by (List ℕ × PowerMap) (coded× (coded_list coded_ℕ) power_map_code)
    (λ s. (s.name, s.unit)) (λ p. record { name = p.0; unit = p.1 }) (λ _. refl)
