-- The least height of a unit text that begins with what was read.
-- Source: this project's own.
use Rattle.std.specs.Prelude.{ℕ, ◌+◌, max, List, [], ◌∷◌}
use Rattle.um_syntax.specs.declared.token.Token.{Token}
use Rattle.um_reader.specs.Machine.{Machine}
use Rattle.um_tree.specs.RawTree.{UnitSyntax, units_in_order}
use Rattle.um_tree.specs.Heights.{unit_height, tallest_unit}
use Rattle.um_unit_texts.specs.UnitMachine.{Frame, InBracket, InInverse, InTimes, InOver, InSide, State, Need, Have}
use Rattle.um_unit_texts.specs.UnitMachine.{Raised}
use Rattle.um_unit_texts.specs.UnitMachine.{Lowered, Refused, unit_step, finish}

-- the height of a frame's own parts
abbrev pub side : Frame → ℕ
side (InBracket at) = 0
side (InInverse at) = 0
side (InTimes left) = unit_height left
side (InOver left) = unit_height left
side (InSide earlier) = tallest_unit (units_in_order earlier)

-- the height of the frames once the innermost holds something of this height
abbrev pub least_over : List Frame → ℕ → ℕ
least_over [] h = h
least_over (frame ∷ frames) h = least_over frames (max (side frame) h + 1)

abbrev pub least : State → ℕ
least (Need frames) = least_over frames 1
least (Have frames t) = least_over frames (unit_height t)
least (Raised frames t) = least_over frames (unit_height t + 1)
least (Lowered frames t) = least_over frames (unit_height t + 1)
least Refused = 0

-- the machine of unit texts
abbrev pub machine_of_units : Machine State Token UnitSyntax
machine_of_units = record { start = Need []; refused = Refused; step = unit_step; finish = finish; least = least }
