-- Whether a token goes on in a unit text: the state after it is no refusal.
-- Source: this project's own.
use Rattle.std.specs.Prelude.{Bool, true, false, ◌||◌, List, [], ◌∷◌}
use Rattle.um_unit_texts.specs.UnitMachine.{Frame, InBracket, InInverse, InTimes, InOver, InSide, State, Refused}

abbrev pub unit_stands : State → Bool
unit_stands Refused = false
unit_stands _ = true

abbrev pub is_bracket : Frame → Bool
is_bracket (InBracket at) = true
is_bracket (InInverse at) = false
is_bracket (InTimes left) = false
is_bracket (InOver left) = false
is_bracket (InSide earlier) = false

-- whether brackets are open
abbrev pub in_brackets : List Frame → Bool
in_brackets [] = false
in_brackets (frame ∷ frames) = is_bracket frame || in_brackets frames
