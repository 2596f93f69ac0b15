-- Whether a token goes on, and which frames are left once those that need no token to end have ended.
-- Source: this project's own.
use Rattle.std.specs.Prelude.{ℕ, Bool, true, false, cond, nat_lt, List, [], ◌∷◌}
use Rattle.um_operands.specs.ExprBegun.{Frame, State, Refused, own_rank}

-- the state after a token is no refusal
abbrev pub stands : State → Bool
stands Refused = false
stands _ = true

-- the frames that are left once all up to this rank have ended
abbrev pub left : ℕ → List Frame → List Frame
left limit [] = []
left limit (frame ∷ frames) = cond (nat_lt limit (own_rank frame)) (frame ∷ frames) (left limit frames)
