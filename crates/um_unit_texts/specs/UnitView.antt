-- What is open and what was read inside it, without where it lies in memory.
use Rattle.std.specs.Prelude.{◌≡◌, ℕ, ◌+◌, ◌⊎◌, Bool, true, false, List, [], ◌∷◌, Option, Some, None}
use Rattle.um_syntax.specs.declared.token.Token.{Token}
use Rattle.um_tree.specs.Heights.{unit_height}
use Rattle.um_unit_texts.specs.declared.unit_frame.Frame.{Frame as Open}
use Rattle.um_unit_texts.specs.declared.unit_frame.Focus.{Focus}
use Rattle.um_unit_texts.specs.declared.unit_frame.Focus.TheVariants as focus
use Rattle.um_unit_texts.specs.declared.unit_frame.Step.{Step}
use Rattle.um_unit_texts.specs.declared.unit_frame.Step.TheVariants as step
use Rattle.um_unit_texts.specs.declared.unit_frames.Frames.{Frames}
use Rattle.um_unit_texts.specs.declared.unit_reader.UnitReader.{UnitReader}
use Rattle.um_unit_texts.specs.UnitMachine.{Frame, InBracket, InInverse, InTimes, InOver, InSide, State, Need, Have}
use Rattle.um_unit_texts.specs.UnitMachine.{Raised}
use Rattle.um_unit_texts.specs.UnitMachine.{Lowered, Refused, finish}
use Rattle.um_unit_texts.specs.UnitFrames.{operand_syntax, view_frame, stack}

-- the frames from the innermost out
abbrev pub frames_of : Frames → List Frame
frames_of frames = stack frames.entries.items

abbrev pub state_of : Frames → Focus → State
state_of frames focus.Empty = Need (frames_of frames)
state_of frames (focus.Full t) = Have (frames_of frames) (operand_syntax t)
state_of frames (focus.Raised t) = Raised (frames_of frames) (operand_syntax t)
state_of frames (focus.Lowered t) = Lowered (frames_of frames) (operand_syntax t)

-- the state of a reader
abbrev pub unit_state : UnitReader → State
unit_state r = state_of r.frames r.focus

-- what a step gives: the next state, or, at a refused token, a state that ends as the one before
abbrev pub Simulates : State → Frames → Focus → Step → State → Type 0
Simulates old frames now step.Goes state = state ≡ state_of frames now
Simulates old frames now step.Stops state = (state ≡ Refused) × (finish (state_of frames now) ≡ finish old)

-- a token that the text stops before stays as it was
abbrev pub Keeps : Step → Token → Token → Type 0
Keeps step.Goes old new = Unit {0}
Keeps step.Stops old new = new ≡ old

-- whether the innermost frame needs no token to end
abbrev pub ends_itself : List Frame → Bool
ends_itself [] = false
ends_itself (InBracket at ∷ frames) = false
ends_itself (InInverse at ∷ frames) = true
ends_itself (InTimes left ∷ frames) = true
ends_itself (InOver left ∷ frames) = true
ends_itself (InSide earlier ∷ frames) = true

-- the innermost frame was taken off if it needs no token to end
abbrev pub Ended : List Frame → Option Open → List Frame → Type 0
Ended old None new = (new ≡ old) × (ends_itself old ≡ false)
Ended old (Some frame) new = (old ≡ view_frame frame ∷ new) × (ends_itself old ≡ true)

-- The innermost brackets were taken off, with their place. Where the innermost frame is none, it is one that needs no
-- token to end, or nothing is open.
abbrev pub Unbracketed : List Frame → Option ℕ → List Frame → Type 0
Unbracketed old (Some at) new = old ≡ InBracket at ∷ new
Unbracketed old None new = ((old ≡ []) × (new ≡ [])) ⊎ (ends_itself old ≡ true)

-- the height of what was read inside the frames; an atom is wanted at least
abbrev pub focus_height : Focus → ℕ
focus_height focus.Empty = 1
focus_height (focus.Full t) = unit_height (operand_syntax t)
focus_height (focus.Raised t) = unit_height (operand_syntax t) + 1
focus_height (focus.Lowered t) = unit_height (operand_syntax t) + 1

-- whether an atom or a power was read
abbrev pub is_full : Focus → Bool
is_full (focus.Full t) = true
is_full _ = false

-- whether the innermost frame is brackets
abbrev pub in_bracket : List Frame → Bool
in_bracket [] = false
in_bracket (InBracket at ∷ frames) = true
in_bracket (InInverse at ∷ frames) = false
in_bracket (InTimes left ∷ frames) = false
in_bracket (InOver left ∷ frames) = false
in_bracket (InSide earlier ∷ frames) = false
