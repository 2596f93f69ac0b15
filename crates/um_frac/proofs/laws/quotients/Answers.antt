use Rattle.um_frac.proofs.FractionLaws.{quotient_is_exact, quotient_by_zero, quotient_overflows}
use Rattle.um_frac.proofs.laws.quotients.Goals as goal

pub returns : goal.returns
returns c = record { exact = quotient_is_exact; zero = quotient_by_zero; overflow = quotient_overflows }
