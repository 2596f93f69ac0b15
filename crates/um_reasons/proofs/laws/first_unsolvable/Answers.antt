use Rattle.um_reasons.proofs.FirstRows.{first_unsolvable_ends, first_unsolvable_ends_alone}
use Rattle.um_reasons.proofs.laws.first_unsolvable.Goals as goal

pub returns : goal.returns
returns c = record { ends = first_unsolvable_ends; alone = first_unsolvable_ends_alone }
