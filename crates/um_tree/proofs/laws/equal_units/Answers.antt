use Rattle.um_tree.proofs.TypingLaws.{sum_has_one_unit, difference_has_one_unit, comparison_has_one_unit}
use Rattle.um_tree.proofs.laws.equal_units.Goals as goal

pub returns : goal.returns
returns c = record { sums = sum_has_one_unit; differences = difference_has_one_unit; comparisons = comparison_has_one_unit }
