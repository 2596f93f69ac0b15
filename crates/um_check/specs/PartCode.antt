-- The code's: how parts are stored as data.
-- Source: this project's own; no public clause rests on it.
use Rattle.std.specs.Prelude.{ℕ, ℤ}
use Rattle.std.specs.Coded.{Coded, code_by, coded×, coded_ℕ, coded_ℤ}
use Rattle.std.proofs.Common.{refl}
use Rattle.um_check.specs.declared.certificate.Part.{Part}

abbrev pub part_code : Coded Part
part_code =
    code_by (ℕ × ℤ) (coded× coded_ℕ coded_ℤ)
    (λ p. (p.row, p.times))
    (λ q. record { row = q.0; times = q.1 })
    (λ _. refl)
