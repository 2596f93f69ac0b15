-- Which records a shape names, in lists.
use Rattle.std.proofs.Common.{◌≡◌, ℕ, zero, suc, refl}
use Rattle.um_verify.specs.StackShape.{StackShape}
use Rattle.um_stacks.specs.FlatShapes.{in_lists}
use Rattle.um_stacks.specs.FlatShapes.{names_below}

pub below_in_lists : (count n : ℕ) (s : StackShape) → names_below count (in_lists n s) ≡ names_below count s
below_in_lists count zero s = refl
below_in_lists count (suc n) s = below_in_lists count n s
