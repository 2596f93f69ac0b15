use Rattle.std.proofs.Common.{length}
use Rattle.um_check.proofs.combination.+product_of_rows.Given as goal

abbrev pub decreases-product_of_rows : goal.decreases-product_of_rows
decreases-product_of_rows l = length l.parts.now
