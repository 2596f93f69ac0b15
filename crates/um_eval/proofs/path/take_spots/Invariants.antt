use Rattle.std.proofs.Common.{◌≡◌, ◌++◌, reverse}
use Rattle.um_eval.specs.Paths.{spots_in}
use Rattle.um_eval.proofs.path.take_spots.Given as goal

abbrev pub invariant-loop-frame : goal.invariant-loop-frame
invariant-loop-frame l = l.spots.items ++ spots_in l.at (reverse l.frames.items) ≡ spots_in l.fn.place (reverse l.fn.frames.items)

abbrev pub decreases-loop-frame : goal.decreases-loop-frame
decreases-loop-frame l = goal.left-loop-frame l
