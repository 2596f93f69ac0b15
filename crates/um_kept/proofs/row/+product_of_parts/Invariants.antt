use Rattle.std.proofs.Common.{length}
use Rattle.um_kept.proofs.row.+product_of_parts.Given as goal

abbrev pub decreases-product_of_parts : goal.decreases-product_of_parts
decreases-product_of_parts l = length l.terms.now
