use Rattle.std.proofs.Common.{length}
use Rattle.um_wide.proofs.images.+product.Given as goal

abbrev pub decreases-product : goal.decreases-product
decreases-product l = length l.terms.now
