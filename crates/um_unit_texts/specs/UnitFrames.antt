-- What is open around the next part of a unit text, without where it lies in memory, and the heights beside it.
-- Source: this project's own.
use Rattle.std.specs.Prelude.{◌≡◌, ℕ, ◌+◌, max, List, [], ◌∷◌, length, map, reverse, Option, Some, None}
use Rattle.um_tree.specs.RawTree.{UnitSyntax, unit_syntax}
use Rattle.um_unit_texts.specs.declared.unit_operand.Operand.{Operand}
use Rattle.um_unit_texts.specs.declared.unit_operand.Operands.{Operands}
use Rattle.um_unit_texts.specs.declared.unit_frame.Frame.{Frame as Open}
use Rattle.um_unit_texts.specs.declared.unit_frame.Frame.TheVariants as open_at
use Rattle.um_unit_texts.specs.declared.unit_frame.Entry.{Entry}
use Rattle.um_unit_texts.specs.UnitMachine.{Frame, InBracket, InInverse, InTimes, InOver, InSide}
use Rattle.um_unit_texts.specs.UnitLeast.{side}
use Rattle.um_unit_texts.specs.UnitCount.{counted}

abbrev pub operand_syntax : Operand → UnitSyntax
operand_syntax p = unit_syntax p.unit

abbrev pub operands_syntax : Operands → List UnitSyntax
operands_syntax f = map unit_syntax f.units.items

abbrev pub view_frame : Open → Frame
view_frame (open_at.InBracket at) = InBracket at
view_frame (open_at.InInverse at) = InInverse at
view_frame (open_at.InTimes left) = InTimes (operand_syntax left)
view_frame (open_at.InOver left) = InOver (operand_syntax left)
view_frame (open_at.InSide earlier) = InSide (operands_syntax earlier)

abbrev pub entry_frame : Entry → Frame
entry_frame e = view_frame e.frame

abbrev pub entry_least : Entry → ℕ
entry_least e = e.least

-- the frames from the innermost out
abbrev pub stack : List Entry → List Frame
stack entries = map entry_frame (reverse entries)

-- the least height that the parts in the frames ask for
abbrev pub base : List Frame → ℕ
base [] = 0
base (frame ∷ frames) = max (base frames) (side frame + 1 + length frames)

-- the same for each frame with those around it, counted
abbrev pub bases : List Frame → List ℕ
bases [] = []
bases (frame ∷ frames) = counted (base (frame ∷ frames)) ∷ bases frames

-- the innermost frame was taken off
abbrev pub Taken : List Frame → Option Open → List Frame → Type 0
Taken old None new = (old ≡ []) × (new ≡ [])
Taken old (Some frame) new = old ≡ view_frame frame ∷ new
