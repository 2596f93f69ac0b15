use Rattle.um_frac.proofs.FractionLaws.{parts_in_range, parts_in_lowest_terms}
use Rattle.um_frac.proofs.laws.parts.Goals as goal

pub returns : goal.returns
returns c = record { range = parts_in_range; lowest = parts_in_lowest_terms }
