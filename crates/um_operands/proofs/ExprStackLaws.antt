-- The least height over the open frames, from the parts in them and from what is at focus.
use Rattle.std.proofs.Common.{◌≡◌, ℕ, ◌+◌, max, List, [], ◌∷◌, length, arith}
use Rattle.um_operands.specs.ExprBegun.{Frame}
use Rattle.um_operands.specs.ExprLeast.{side, least_over}
use Rattle.um_operands.specs.ExprFrames.{base}

pub over_base : (frames : List Frame) (h : ℕ) → least_over frames h ≡ max (base frames) (h + length frames)
over_base [] h = omega arith
over_base (frame ∷ frames) h = let e = over_base frames (max (side frame) h + 1) in omega (arith, e)
