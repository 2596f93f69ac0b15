-- The code's: how numbers are stored as data, by which a proof tells them apart. Two are equal if their parts are.
-- Source: this project's own; no public clause rests on it.
use Rattle.std.specs.Prelude.{◌≡◌, ℤ}
use Rattle.std.specs.Coded.{Coded, coded×, coded_ℤ}
use Rattle.std.proofs.Common.{ap}
use base.Stored.{coded_via}
use Rattle.um_frac.specs.declared.number.Frac.{Frac}
use Rattle.um_frac.specs.Fraction.{numerator, denominator}
use Rattle.um_frac.proofs.FractionLaws.{equal_parts}

pub same_from_parts : (a b : Frac) → ◌≡◌ {A = ℤ × ℤ} (numerator a, denominator a) (numerator b, denominator b) → a ≡ b
same_from_parts a b e = equal_parts a b (ap (λ p. p.0) e) (ap (λ p. p.1) e)

abbrev pub number_code : Coded Frac
number_code = coded_via (coded× coded_ℤ coded_ℤ) (λ c. (numerator c, denominator c)) same_from_parts
